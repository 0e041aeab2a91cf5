-- The rows of a tree as contracts see them.
use Rattle.std.specs.Prelude.{◌≡◌, ℕ, true, ◌<◌, ◌^◌, length, Option, None, Some, is_some, List, [], ◌∷◌}
use Rattle.hv_tree.specs.Nest.{Line, AreDistinct, IsNest, look}
use Rattle.hv_tree.specs.Rows.{Row, children_in}

-- the entries and one more, if it has a content
abbrev pub add : {T : Type 0} → ℕ → Option ℕ → Option T → List (ℕ × Row T) → List (ℕ × Row T)
add q p None es = es
add q p (Some c) es = (q, (p, c)) ∷ es

-- the rows that the lines stand for
abbrev pub full : {T : Type 0} → List (Line T) → List (ℕ × Row T)
full [] = []
full (e ∷ es) = add e.0 e.1.0 e.1.1 (full es)

-- the row, if there is one, has a content
abbrev pub IsFilled : {T : Type 0} → Option (Option ℕ × Option T) → Type 0
IsFilled None = Unit {0}
IsFilled (Some r) = is_some r.1 ≡ true

-- each row has a content
abbrev pub IsWhole : {T : Type 0} → List (Line T) → Type 0
IsWhole es = (x : ℕ) → IsFilled (look x es)

-- the invariant of a tree's rows and of their number
pub record IsSound {T : Type 0} (es : List (Line T)) (count : ℕ) : Type 0 where
  pub distinct : AreDistinct es
  pub nest : IsNest es
  pub whole : IsWhole es
  pub counted : count ≡ length es
  pub fits : length es < 2 ^ 32
  pub few : (q : ℕ) → length (children_in q es) < 2 ^ 32
