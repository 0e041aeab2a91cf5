-- Invariants of every machine: each page has one owner, the pages in use are within the pool, and each mask
-- is within the parent's.
use Rattle.std.specs.Prelude.{◌≡◌, ℕ, ◌≤◌, ◌<◌, Bool, true, false, length, Some}
use Rattle.std.specs.FinMap.{get}
use Rattle.std.specs.FinSet as set
use Rattle.hv_partition.specs.Partition.{PartitionState, in_use}
use Rattle.hv_tree.specs.Rows.{Row, children}
use Rattle.hv_admit.specs.Tie.{holds}
use Rattle.hv_machine.specs.Masks.{AreMasksWithin}
use Rattle.hv_machine.specs.State.{State}

-- the page is in one page set of one partition, and in no other
pub record IsHeldOnce (m : State) (page : ℕ) : Type 0 where
  pub owner : ℕ
  pub pooled : Bool
  pub held : holds pooled page (get m.rows owner) ≡ true
  pub alone : (id : ℕ) (kind : Bool) → holds kind page (get m.rows id) ≡ true → (id ≡ owner) × (kind ≡ pooled)

-- invariant: each boot page is in exactly one page set, and no other page is in any; a partition uses at most
-- the pages of its pool; and it has no privilege that its parent lacks
pub record IsSound (m : State) : Type 0 where
  pub once : (page : ℕ) → page < m.pages → IsHeldOnce m page
  pub others : (page id : ℕ) (kind : Bool) → m.pages ≤ page → holds kind page (get m.rows id) ≡ false
  pub within : (id : ℕ) (r : Row PartitionState) → get m.rows id ≡ Some r → in_use
      (length (children m.rows id)) r.1 ≤ set.len r.1.pooled.pages
  pub masks : AreMasksWithin m.rows
