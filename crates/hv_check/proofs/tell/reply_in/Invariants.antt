use Rattle.std.proofs.Common.{◌≤◌, ◌-◌, length}
use Rattle.hv_check.proofs.tell.reply_in.Given as goal

abbrev pub invariant-loop-at : goal.invariant-loop-at
invariant-loop-at l = l.at ≤ length l.event

abbrev pub decreases-loop-at : goal.decreases-loop-at
decreases-loop-at l = length l.event - l.at
