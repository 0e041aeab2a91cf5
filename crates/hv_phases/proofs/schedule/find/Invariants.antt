use Rattle.std.proofs.Common.{◌≡◌, [], take}
use Rattle.hv_phases.specs.Turns.{todo_of}
use Rattle.hv_phases.proofs.schedule.find.Given as goal

abbrev pub invariant-loop-at : goal.invariant-loop-at
invariant-loop-at l = todo_of l.by (take l.at l.turns) ≡ []
