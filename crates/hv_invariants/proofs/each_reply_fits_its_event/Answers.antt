use Rattle.hv_invariants.proofs.Replies.{has_result}
use Rattle.hv_invariants.proofs.each_reply_fits_its_event.Goals as goal

pub returns-clause-result : goal.returns-clause-result
returns-clause-result g c f by frame = has_result f by frame
