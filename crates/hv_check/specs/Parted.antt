-- Splitting a text at a byte. Only contracts of private functions cite these words.
use Rattle.std.specs.Prelude.{ℕ, ◌≡◌, ◌≢◌, List, ◌∷◌, ◌++◌, All}

-- the text splits at its first byte of this value
pub record IsAround (byte : ℕ) (text before behind : List ℕ) : Type 0 where
  pub all : text ≡ before ++ byte ∷ behind
  pub first : All (λ it. it ≢ byte) before

-- no byte of the text has this value
abbrev pub IsNowhere : ℕ → List ℕ → Type 0
IsNowhere byte text = All (λ it. it ≢ byte) text
