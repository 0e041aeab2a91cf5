use Rattle.std.proofs.Common.{◌≡◌, ◌≤◌, ◌+◌, ◌++◌, List, length, reverse, vec_len, vec_capacity}
use Rattle.hv_phases.proofs.PhasesTaken.{AreOut}
use Rattle.hv_phases.specs.declared.turn.Turn.{Turn}
use Rattle.hv_phases.proofs.in_threads.works_of.Given as goal

abbrev pub invariant-loop-turn : goal.invariant-loop-turn
invariant-loop-turn g l = record {
  out : (done : List Turn) × (done ++ reverse l.left.items ≡ l.fn.turns.items) × AreOut done l.works.items l.fn.runners l.runners;
  room : vec_len l.works + length l.left.items ≤ vec_capacity l.works;
}

abbrev pub decreases-loop-turn : goal.decreases-loop-turn
decreases-loop-turn g l = length l.left.items
