use Rattle.std.proofs.Common.{◌≡◌, ◌+◌, ◌-◌, ◌≤◌, take, vec_len, vec_capacity}
use Rattle.hv_pages.proofs.merge.make_gap.Given as goal

abbrev pub invariant-loop-blocks : goal.invariant-loop-blocks
invariant-loop-blocks g l =
    (take l.len l.blocks.items ≡ l.fn.blocks.items) × (l.len ≤ vec_len l.blocks) × (vec_len l.blocks ≤ l.len + l.gap)
    × (vec_capacity l.blocks ≡ vec_capacity l.fn.blocks)

abbrev pub decreases-loop-blocks : goal.decreases-loop-blocks
decreases-loop-blocks g l = l.len + l.gap - vec_len l.blocks
