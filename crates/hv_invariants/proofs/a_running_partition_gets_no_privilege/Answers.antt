use Rattle.hv_invariants.proofs.RowsContinue.{runs_begun, step_follows}
use Rattle.hv_invariants.proofs.a_running_partition_gets_no_privilege.Goals as goal

pub returns : goal.returns
returns g c pages f e l id old new was runs is = ((step_follows f pages l e).olds id old new was is).less (runs_begun old.life runs)
