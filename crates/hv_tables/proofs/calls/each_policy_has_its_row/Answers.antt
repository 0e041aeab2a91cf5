use Rattle.hv_tables.proofs.Policies.{own_row}
use Rattle.hv_tables.proofs.calls.each_policy_has_its_row.Goals as goal

pub returns : goal.returns
returns c call = own_row call
