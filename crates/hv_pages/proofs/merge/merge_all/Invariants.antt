use Rattle.std.proofs.Common.{◌≡◌, ◌+◌, ◌≤◌, ◌++◌, length, vec_capacity}
use Rattle.hv_pages.specs.Blocks.{flat}
use Rattle.hv_pages.specs.Merge.{IsCursor, IsWritten, count_of, left, places_before, written}
use Rattle.hv_pages.specs.Runs.{spread}
use Rattle.hv_pages.proofs.MergedRuns.{IsMerging}
use Rattle.hv_pages.proofs.merge.merge_all.Given as goal

abbrev pub invariant-loop-run : goal.invariant-loop-run
invariant-loop-run g l =
    IsWritten l.blocks.blocks.items l.w × IsCursor l.blocks.blocks.items l.read × IsCursor l.more.blocks.items l.at
    × IsMerging (spread (flat l.fn.blocks.blocks.items) ++ spread (flat l.more.blocks.items)) (written l.blocks.blocks.items l.w)
    (left l.blocks.blocks.items l.read) (left l.more.blocks.items l.at)
    × (count_of l.w + length (left l.more.blocks.items l.at) ≤ places_before l.read)
    × (count_of l.w + (length (left l.blocks.blocks.items l.read) + length (left l.more.blocks.items l.at)) ≤ length (flat l.fn.blocks.blocks.items) + length
    (flat l.more.blocks.items))
    × (length l.w.last.items ≡ 0 → length (flat l.more.blocks.items) ≤ length (left l.more.blocks.items l.at))
    × (vec_capacity l.blocks.blocks ≡ vec_capacity l.fn.blocks.blocks)
    × (l.blocks.room ≡ l.fn.blocks.room)

abbrev pub decreases-loop-run : goal.decreases-loop-run
decreases-loop-run g l = length (left l.blocks.blocks.items l.read) + length (left l.more.blocks.items l.at)
