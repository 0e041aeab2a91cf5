-- The row that a look-up in the tree found.
use Rattle.std.proofs.Common.{◌≡◌, ℕ, Option, Some, None, OnOk, refl, Result, Ok, Err, option_map, option_and_then}
use Rattle.std.specs.FinMap.{get}
use Rattle.hv_partition.specs.Partition.{PartitionState}
use Rattle.hv_tree.specs.Rows.{Row, Rows, content, parent}

-- what fails of no row holds of a row that is there
pub found : {X : Type 0} (P : Option X → Type 0) (o : Option X) → (P None → ⊥) → P o → (x : X) × (o ≡ Some x) × P (Some x)
found P None fails h = absurd (fails h)
found P (Some x) fails h = (x, refl, h)

pub parent_there : (rows : Rows PartitionState) (id p : ℕ) → parent rows id ≡ Some p → (r : Row PartitionState) × (get rows id ≡ Some r) × (r.0 ≡ Some p)
parent_there rows id p h = found (λ o. option_and_then (λ r. r.0) o ≡ Some p) (get rows id) (λ none. cc) h

-- the row whose content was found
pub content_row : (rows : Rows PartitionState) (id : ℕ) (p : PartitionState) → Some p ≡ content rows id → (r : Row PartitionState) × (get rows id ≡ Some r) × (r.1 ≡ p)
content_row rows id p h = let (r, is, same) = found (λ o. Some p ≡ option_map (λ r. r.1) o) (get rows id) (λ none. cc) h in (r, is, cc)

-- a fact of what was answered, carried on
pub on_ok : {X E P Q : Type 0} (r : Result X E) → (P → Q) → OnOk r P → OnOk r Q
on_ok (Ok x) f h = f h
on_ok (Err e) f h = tt
