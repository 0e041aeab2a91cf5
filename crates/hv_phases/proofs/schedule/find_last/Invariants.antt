use Rattle.std.proofs.Common.{◌≡◌, [], drop}
use Rattle.hv_phases.specs.Turns.{todo_of}
use Rattle.hv_phases.proofs.schedule.find_last.Given as goal

abbrev pub invariant-loop-at : goal.invariant-loop-at
invariant-loop-at l = todo_of l.by (drop l.at l.turns) ≡ []
