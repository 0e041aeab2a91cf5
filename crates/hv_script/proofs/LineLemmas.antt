-- One line of a text, read.
use Rattle.std.proofs.Common.{◌≡◌, ℕ, ◌+◌, ◌==◌, List, [], ◌∷◌, Bool, Option, Some, Result, Ok, Err, true, false, cond, refl, sym, ap, ◌∙◌, length, arith, take_all}
use Rattle.std.specs.List.{after_first, position_or_len}
use Rattle.std.proofs.lemmas.Bool.{false≢true}
use Rattle.std.proofs.lemmas.Bool.Decides.{nat_tests}
use Rattle.std.proofs.lemmas.List.{drop_all}
use Rattle.std.proofs.lemmas.List.Sums.{fails_before_first}
use Rattle.std.proofs.lemmas.List.Splits.{slice_split_first, slice_split_none}
use Rattle.hv_script.specs.Line.{◌>>=◌}
use Rattle.hv_script.specs.Script.{SoFar, at_line, read_line, read_lines, read_words}
use Rattle.hv_script.specs.Cursor.{FailsBy, ReadsTo, line_of, read_cut, words_read}
use Rattle.hv_script.specs.Words.{has_good_bytes, is_skipped, lines_of, words_of}
use Rattle.hv_script.specs.declared.fault.FaultKind.{FaultKind}
use Rattle.hv_script.specs.declared.fault.FaultKind.TheVariants.{Byte}
use Rattle.hv_script.specs.declared.fault.ScriptFault.{ScriptFault}
use Rattle.hv_script.proofs.CutLemmas.{choose}

abbrev pub rest_of : List ℕ → List ℕ
rest_of text = after_first (λ byte. byte == 10) text

-- nothing is one empty line, which is skipped
ends : {A : Type 0} (number : ℕ) (before : Option (SoFar A)) → read_lines number before (lines_of []) ≡ Ok before
unfolding read_line words_of
ends number before = refl

pub all_read : {A : Type 0} (text : List ℕ) (number : ℕ) (before : Option (SoFar A)) → (length text == 0) ≡ true → read_lines number before (lines_of text) ≡ Ok before
all_read [] number before none = ends number before
all_read (byte ∷ text) number before none = let some : (length (byte ∷ text) == 0) ≡ false = grind (arith, nat_tests) in absurd (false≢true (sym some ∙ none))

then_ends : {A : Type 0} (number : ℕ) (read : Result (Option (SoFar A)) ScriptFault)
    → read >>= (λ after. read_lines (number + 1) after []) ≡ read >>= (λ after. read_lines (number + 1) after (lines_of []))
then_ends number (Ok after) = sym (ends (number + 1) after)
then_ends number (Err fault) = refl

-- a text is its first line, and what stands after it is read as it would be by itself
goes_on : {A : Type 0} (text : List ℕ) (number : ℕ) (before : Option (SoFar A))
    → read_lines number before (lines_of text) ≡ at_line number (read_line before (line_of text)) >>= (λ after. read_lines (number + 1) after (lines_of (rest_of text)))
goes_on text number before =
    let at = position_or_len (λ byte. byte == 10) text in
    choose at (length text) (λ there. ap (read_lines number before) (slice_split_first (λ byte. byte == 10) text 0 there)) (λ past.
    let line : lines_of text ≡ line_of text ∷ [] = slice_split_none (λ byte. byte == 10) text (λ k d lt. fails_before_first (λ byte. byte == 10) text k d (omega (arith, lt, past))) ∙ ap
    (λ (l : List ℕ). l ∷ []) (sym (take_all at text past)) in
    let rest : rest_of text ≡ [] = drop_all (at + 1) text (omega (arith, past)) in
    ap (read_lines number before) line
    ∙ then_ends number (at_line number (read_line before (line_of text)))
    ∙ ap (λ (r : List ℕ). at_line number (read_line before (line_of text)) >>= (λ after. read_lines (number + 1) after (lines_of r))) (sym rest))

pub fails_by : {A : Type 0} (text : List ℕ) (before : Option (SoFar A)) (kind : FaultKind) → read_line before (line_of text) ≡ Err kind → FailsBy text before kind
fails_by text before kind is = λ number.
    goes_on text number before ∙ ap (λ r. at_line number r >>= (λ after. read_lines (number + 1) after (lines_of (rest_of text)))) is

pub reads_to : {A : Type 0} (text rest : List ℕ) (before after : Option (SoFar A)) → rest ≡ rest_of text → read_line before (line_of text) ≡ Ok after → ReadsTo text before rest after
reads_to text rest before after left is = λ number.
    goes_on text number before ∙ ap (λ r. at_line number r >>= (λ after. read_lines (number + 1) after (lines_of (rest_of text)))) is
    ∙ ap (λ (r : List ℕ). read_lines (number + 1) after (lines_of r)) (sym left)

by_words : {A : Type 0} (before : Option (SoFar A)) (words : List (List ℕ)) (skipped good : Bool) → is_skipped words ≡ skipped
    → cond skipped (Ok before) (cond good (read_words before words >>= (λ so_far. Ok (Some so_far))) (Err Byte))
    ≡ cond skipped (Ok []) (cond good (Ok words) (Err Byte)) >>= (λ words. read_cut before words)
by_words before words true good is = refl
by_words before words false false is = refl
by_words before [] false true is = absurd (false≢true (sym is))
by_words before (word ∷ words) false true is =
    let some : (length (word ∷ words) == 0) ≡ false = grind (arith, nat_tests) in
    rw some refl

-- a line is cut, and what was cut is read
pub cut_and_read : {A : Type 0} (before : Option (SoFar A)) (line : List ℕ) → read_line before line ≡ words_read line >>= (λ words. read_cut before words)
unfolding read_line
cut_and_read before line = by_words before (words_of line) (is_skipped (words_of line)) (has_good_bytes line) refl
