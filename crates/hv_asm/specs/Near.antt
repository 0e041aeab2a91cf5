-- Names that are near a word.
use Rattle.std.specs.Prelude.{ℕ, ◌/◌, ◌≤◌, List, length, nat_eq}
use Rattle.strsim.specs.Edits.{levenshtein_row}

-- for each three letters of a word, at most one edit leads to a name
abbrev pub IsNear : List ℕ → List ℕ → Type 0
IsNear word name = levenshtein_row nat_eq word name (length name) ≤ length word / 3
