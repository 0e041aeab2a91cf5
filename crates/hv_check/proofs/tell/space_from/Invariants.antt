use Rattle.std.proofs.Common.{◌≤◌, ◌-◌, length}
use Rattle.hv_check.proofs.tell.space_from.Given as goal

abbrev pub invariant-loop-at : goal.invariant-loop-at
invariant-loop-at l = record { least : l.from ≤ l.at; most : l.at ≤ length l.text }

abbrev pub decreases-loop-at : goal.decreases-loop-at
decreases-loop-at l = length l.text - l.at
