-- What the rules of a call may be asked of: what P1 to P10 found in the tree.
use Rattle.std.specs.Prelude.{◌≡◌, ℕ, None, Some, length}
use Rattle.hv_calls.specs.declared.call.Call.{Call}
use Rattle.hv_partition.specs.Partition.{PartitionState}
use Rattle.hv_policy.specs.Needs.{needs_of, target_of}
use Rattle.hv_policy.specs.declared.need.Need.{Need}
use Rattle.hv_tree.specs.Rows.{Rows, children, content}
use Rattle.hv_admit.specs.Served.{IsAdmitted, unmet_further}

-- a call by this partition has this row in the table of needs, and the tree has these partitions as its
-- caller and its target, which has this number of children
pub record AreFound (tree : Rows PartitionState) (by : ℕ) (call : Call) (need : Need)
    (caller target : PartitionState) (count : ℕ) : Type 0 where
  pub row : need ≡ needs_of call
  pub calls : content tree by ≡ Some caller
  pub named : content tree (target_of call by) ≡ Some target
  pub counted : count ≡ length (children tree (target_of call by))

-- the precondition of doing a call: it is admitted, and its own rules hold
pub record IsGranted (tree : Rows PartitionState) (caller : ℕ) (call : Call) : Type 0 where
  pub admitted : IsAdmitted tree caller call
  pub met : unmet_further admitted.rows.flat caller call ≡ None
