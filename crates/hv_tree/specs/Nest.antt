-- The rows of a node and of all that is below it, as a list in which a parent comes before its children.
use Rattle.std.specs.Prelude.{◌≡◌, ℕ, zero, suc, ◌+◌, ◌≤◌, ◌<◌, Bool, true, false, cond, ◌||◌, ◌==◌, Option}
use Rattle.std.specs.Prelude.{None, Some, is_some, List, [], ◌∷◌, ◌++◌, option_map}
use Rattle.std.specs.Option.{option_or}
use Rattle.hv_tree.specs.Rows.{children_in}

-- a node's id, its parent if that is in the list, and its content, which every row of a tree has
abbrev pub Line : Type 0 → Type 0
Line T = ℕ × (Option ℕ × Option T)

-- the id of the first row, which is that of the node itself
abbrev pub top : {X : Type 0} → List (ℕ × X) → ℕ
top [] = 0
top (e ∷ es) = e.0

-- the content of the first row
abbrev pub first_content : {T : Type 0} → List (Line T) → Option T
first_content [] = None
first_content (e ∷ es) = e.1.1

-- whether some row has the id q
abbrev pub has_row : {X : Type 0} → ℕ → List (ℕ × X) → Bool
has_row q [] = false
has_row q (e ∷ es) = q == e.0 || has_row q es

-- the first row with the id q
abbrev pub look : {X : Type 0} → ℕ → List (ℕ × X) → Option X
look q [] = None
look q (e ∷ es) = cond (q == e.0) (Some e.1) (look q es)

-- how many rows have the id q
abbrev pub uses : {X : Type 0} → ℕ → List (ℕ × X) → ℕ
uses q [] = 0
uses q (e ∷ es) = cond (q == e.0) 1 0 + uses q es

-- no two rows share an id
abbrev pub AreDistinct : {X : Type 0} → List (ℕ × X) → Type 0
AreDistinct es = (q : ℕ) → uses q es ≤ 1

-- the rows, with p as the parent of each row that has none
abbrev pub hang : {C : Type 0} → ℕ → List (ℕ × (Option ℕ × C)) → List (ℕ × (Option ℕ × C))
hang p [] = []
hang p (e ∷ es) = (e.0, (option_or e.1.0 (Some p), e.1.1)) ∷ hang p es

-- the ids of the rows without a parent
abbrev pub orphans : {C : Type 0} → List (ℕ × (Option ℕ × C)) → List ℕ
orphans [] = []
orphans (e ∷ es) = cond (is_some e.1.0) (orphans es) (e.0 ∷ orphans es)

-- the first row, and no other, has no parent
abbrev pub HasTop : {C : Type 0} → List (ℕ × (Option ℕ × C)) → Type 0
HasTop [] = ⊥
HasTop (e ∷ es) = (e.1.0 ≡ None) × (orphans es ≡ [])

-- each parent has a row
abbrev pub IsClosed : {C : Type 0} → List (ℕ × (Option ℕ × C)) → Type 0
IsClosed es = (q : ℕ) → has_row q es ≡ false → children_in q es ≡ []

-- the position of the first row with the id q, or the length if there is none
abbrev pub place : {X : Type 0} → ℕ → List (ℕ × X) → ℕ
place q [] = 0
place q (e ∷ es) = cond (q == e.0) 0 (place q es + 1)

-- each parent comes before its children
abbrev pub IsOrdered : {C : Type 0} → List (ℕ × (Option ℕ × C)) → Type 0
IsOrdered es = (q p : ℕ) → option_map (λ r. r.0) (look q es) ≡ Some (Some p) → place p es < place q es

-- the rows are those of one node and of all nodes below it
pub record IsNest {T : Type 0} (es : List (Line T)) : Type 0 where
  pub topped : HasTop es
  pub closed : IsClosed es
  pub ordered : IsOrdered es

-- a row's depth: 0 without a parent, otherwise one more than its parent's
abbrev pub HasDepthIn : {C : Type 0} → List (ℕ × (Option ℕ × C)) → ℕ → ℕ → Type 0
HasDepthIn es q zero = option_map (λ r. r.0) (look q es) ≡ Some None
HasDepthIn es q (suc d) = (p : ℕ) × (option_map (λ r. r.0) (look q es) ≡ Some (Some p)) × HasDepthIn es p d

-- sub is the part of the rows formed by q and all nodes below it
pub record IsPart {T : Type 0} (q : ℕ) (es sub : List (Line T)) : Type 0 where
  pub distinct : AreDistinct sub
  pub same : children_in q es ≡ children_in q sub

-- sub is the part of the rows formed by q, which is present, and all nodes below it
pub record IsFound {T : Type 0} (q : ℕ) (es sub : List (Line T)) : Type 0 where
  pub there : has_row q es ≡ true
  pub here : top sub ≡ q
  pub content : Some (first_content sub) ≡ option_map (λ r. r.1) (look q es)
  pub part : IsPart q es sub

-- the rows, with h as the content of the first row with the id q
abbrev pub put_at : {T : Type 0} → ℕ → Option T → List (Line T) → List (Line T)
put_at q h [] = []
put_at q h (e ∷ es) = cond (q == e.0) ((e.0, (e.1.0, h)) ∷ es) (e ∷ put_at q h es)

-- new is old with the rows es inserted below p, at any position
abbrev pub IsGrownBy : {T : Type 0} → ℕ → List (Line T) → List (Line T) → List (Line T) → Type 0
IsGrownBy {T} p es old new = (xs : List (Line T)) ×
    ((ys : List (Line T)) × ((old ≡ xs ++ ys) × (new ≡ xs ++ (hang p es ++ ys))))

-- new is old without the row q, which had a parent, the content c and no children
pub record IsWithout {T : Type 0} (q : ℕ) (c : Option T) (old new : List (Line T)) : Type 0 where
  pub before : List (Line T)
  pub after : List (Line T)
  pub parent : ℕ
  pub was : old ≡ before ++ (q, (Some parent, c)) ∷ after
  pub is : new ≡ before ++ after
  pub bare : children_in q old ≡ []
