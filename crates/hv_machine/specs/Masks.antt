-- The bound on the privileges of a partition.
use Rattle.std.specs.Prelude.{◌≡◌, ℕ, Some}
use Rattle.std.specs.FinMap.{get}
use Rattle.hv_partition.specs.Partition.{PartitionState}
use Rattle.hv_privs.specs.Privileges.{IsSubset}
use Rattle.hv_tree.specs.Rows.{Row, Rows}

-- invariant: no partition has a privilege that its parent lacks
abbrev pub AreMasksWithin : Rows PartitionState → Type 0
AreMasksWithin rows =
    (id parent : ℕ) (child above : Row PartitionState) → get rows id ≡ Some child → child.0 ≡ Some parent
    → get rows parent ≡ Some above → IsSubset child.1.mask above.1.mask
