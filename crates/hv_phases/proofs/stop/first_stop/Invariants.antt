use Rattle.std.proofs.Common.{◌≡◌, ◌<◌, ℕ, None, get_or}
use Rattle.hv_phases.specs.PassMap.{stop_at}
use Rattle.hv_policy.specs.declared.event.Caller.{Caller}
use Rattle.hv_phases.proofs.stop.first_stop.Given as goal

abbrev pub invariant-loop-at : goal.invariant-loop-at
invariant-loop-at g l = (k : ℕ) (by : Caller) → k < l.at → stop_at l.runners (get_or l.order k by) ≡ None
