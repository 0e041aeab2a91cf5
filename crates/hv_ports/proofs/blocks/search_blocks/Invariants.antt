use Rattle.std.proofs.Common.{ℕ, ◌-◌, ◌<◌, ◌≤◌, length, slice_index_or}
use Rattle.hv_ports.specs.Blocks.{Block, first_of}
use Rattle.hv_ports.proofs.blocks.search_blocks.Given as goal

abbrev pub invariant-loop-low : goal.invariant-loop-low
invariant-loop-low g l =
    (l.low ≤ l.high) × (l.high ≤ length l.blocks)
    × ((b : Block g.row.R.Denot g.row.A.Denot) (s : ℕ × g.row.R.Denot) → 1 ≤ l.low → (first_of (slice_index_or l.blocks (l.low - 1) b) s).0 ≤ l.id)
    × ((b : Block g.row.R.Denot g.row.A.Denot) (s : ℕ × g.row.R.Denot) → l.high < length l.blocks → l.id < (first_of (slice_index_or l.blocks l.high b) s).0)

abbrev pub decreases-loop-low : goal.decreases-loop-low
decreases-loop-low g l = l.high - l.low
