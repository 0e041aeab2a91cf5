-- A text about events, between a head and a tail.
use Rattle.std.specs.Prelude.{ℕ, ◌≡◌, List, ◌++◌}

-- the text is a head, a text of this kind, and a tail
pub record IsFramed (head tail : List ℕ) (Kind : List ℕ → Type 0) (text : List ℕ) : Type 0 where
  pub within : List ℕ
  pub kind : Kind within
  pub is : text ≡ head ++ (within ++ tail)
