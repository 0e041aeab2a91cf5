use Rattle.hv_invariants.proofs.OrderOfMessages.{lawful_same}
use Rattle.hv_invariants.proofs.order_across_places_does_not_count.Goals as goal

pub returns-clause-lawful : goal.returns-clause-lawful
returns-clause-lawful g c = lawful_same
