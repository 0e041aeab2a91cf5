-- Lines joined to a text, and cut out of it.
use Rattle.std.proofs.Common.{◌≡◌, ◌≢◌, ◌==◌, ℕ, false, List, [], ◌∷◌, refl, ap, ◌∙◌, arith, All}
use Rattle.std.specs.List.{join_with_byte}
use Rattle.std.proofs.lemmas.Bool.Decides.{nat_tests}
use Rattle.std.proofs.lemmas.List.Elements.{All-head, All-tail}
use Rattle.std.proofs.lemmas.List.Splits.{slice_split_at, slice_split_none}
use Rattle.hv_script.specs.Words.{lines_of}

-- the line has no line feed
abbrev pub IsOne : List ℕ → Type 0
IsOne line = All (λ byte. byte ≢ 10) line

is_not : (byte : ℕ) → byte ≢ 10 → (byte == 10) ≡ false
is_not byte apart = grind (arith, nat_tests)

uncut : (line : List ℕ) → IsOne line → All (λ byte. (byte == 10) ≡ false) line
uncut line one = λ k d lt. is_not _ (one k d lt)

-- lines without line feeds are those of the text that they are joined to
pub split_joined : (line : List ℕ) (lines : List (List ℕ)) → All IsOne (line ∷ lines) → lines_of (join_with_byte 10 (line ∷ lines)) ≡ line ∷ lines
split_joined line [] all = slice_split_none (λ byte. byte == 10) line (uncut line (All-head IsOne line [] all))
split_joined line (next ∷ lines) all =
    slice_split_at (λ byte. byte == 10) line 10 (join_with_byte 10 (next ∷ lines)) (uncut line (All-head IsOne line (next ∷ lines) all)) refl
    ∙ ap (λ (l : List (List ℕ)). line ∷ l) (split_joined next lines (All-tail IsOne line (next ∷ lines) all))
