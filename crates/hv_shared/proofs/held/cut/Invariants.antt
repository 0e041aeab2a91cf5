-- There is room for all copies that are left over.
use Rattle.std.proofs.Common.{◌≤◌, ◌+◌, vec_len, vec_capacity}
use Rattle.hv_shared.proofs.held.cut.Given as goal

abbrev pub invariant-loop-copies : goal.invariant-loop-copies
invariant-loop-copies l = vec_len l.copies + vec_len l.spare ≤ vec_capacity l.spare + l.count

abbrev pub decreases-loop-copies : goal.decreases-loop-copies
decreases-loop-copies l = goal.left-loop-copies l
