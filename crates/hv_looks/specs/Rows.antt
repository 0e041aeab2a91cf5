-- The rows of the tree that the functions here read.
use Rattle.std.specs.Prelude.{ℕ, ◌||◌, Bool, false, Option, None, Some, option_map}
use Rattle.std.specs.FinMap.{get}
use Rattle.std.specs.FinSet as set
use Rattle.hv_partition.specs.Partition.{PartitionState}
use Rattle.hv_policy.specs.declared.event.Caller.{Caller}
use Rattle.hv_tree.specs.Rows.{Rows, content}
use Rattle.hv_vp.specs.Vp.{VpState}

-- a processor of a partition, if both exist
abbrev pub vp_of : ℕ → Option PartitionState → Option VpState
vp_of index None = None
vp_of index (Some p) = get p.vps.vps index

abbrev pub vp_there : Rows PartitionState → Caller → Option VpState
vp_there rows of = vp_of of.vp (content rows of.part)

-- whether the partition exists and has the page, loose or pooled
abbrev pub has_page : ℕ → Option PartitionState → Bool
has_page page None = false
has_page page (Some p) = set.contains p.loose.pages page || set.contains p.pooled.pages page
