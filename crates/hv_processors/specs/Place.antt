-- A processor in the rows of the tree.
use Rattle.std.specs.Prelude.{ℕ, Option, option_and_then}
use Rattle.std.specs.FinMap.{get}
use Rattle.hv_partition.specs.Partition.{PartitionState}
use Rattle.hv_tree.specs.Rows.{Rows, content}
use Rattle.hv_vp.specs.Vp.{VpState}

-- the processor with this index of a partition, if both exist
abbrev pub vp_at : Rows PartitionState → ℕ → ℕ → Option VpState
vp_at rows id index = option_and_then (λ p. get p.vps.vps index) (content rows id)
