use Rattle.std.proofs.Common.{◌≡◌, [], take}
use Rattle.hv_policy.specs.declared.event.Caller.{Caller}
use Rattle.hv_phases.specs.Turns.{todo_of}
use Rattle.hv_phases.proofs.schedule.Schedule.waiting.Given as goal

abbrev pub invariant-loop-at : goal.invariant-loop-at
invariant-loop-at l = (c : Caller) → todo_of c (take l.at l.self.turns.items) ≡ []
