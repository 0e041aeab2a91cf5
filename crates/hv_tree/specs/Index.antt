-- An index from each id to its parent, and the rows that it agrees with.
use Rattle.std.specs.Prelude.{◌≡◌, ℕ, ◌<◌, ◌^◌, length, nat_eq, Option, List, option_and_then}
use Rattle.std.specs.List.Sorted.{IsNonDecreasing}
use Rattle.hv_tree.specs.Rows.{children_in}
use Rattle.indexmap.specs.IndexMap.{IndexMap, get}
use Rattle.hv_tree.specs.Nest.{Line, AreDistinct, look}
use Rattle.hv_tree.specs.Full.{IsSound}

-- the index as a function
abbrev pub parents : {S : Type 0} → IndexMap ℕ ℕ S → ℕ → Option ℕ
parents m = get nat_eq m

-- the index names the parent of each row that has one, and nothing else
abbrev pub IsIndexOf : {C : Type 0} → List (ℕ × (Option ℕ × C)) → (ℕ → Option ℕ) → Type 0
IsIndexOf es up = (q : ℕ) → up q ≡ option_and_then (λ r. r.0) (look q es)

-- what calls on a tree may assume of its rows: an index of exactly their parents, and children in rising
-- order
pub record IsLaid {T : Type 0} (es : List (Line T)) (up : ℕ → Option ℕ) : Type 0 where
  pub distinct : AreDistinct es
  pub indexed : IsIndexOf es up
  pub rising : (q : ℕ) → IsNonDecreasing (children_in q es)
  pub fits : length es < 2 ^ 32

-- the invariant of a tree: sound rows, an index of exactly their parents, and children in rising order
pub record IsKept {T : Type 0} (es : List (Line T)) (count : ℕ) (up : ℕ → Option ℕ) : Type 0 where
  pub sound : IsSound es count
  pub indexed : IsIndexOf es up
  pub rising : (q : ℕ) → IsNonDecreasing (children_in q es)
