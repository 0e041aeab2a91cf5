-- Texts, line by line.
use Rattle.std.proofs.Common.{◌≡◌, ℕ, ◌+◌, ◌<◌, ◌≤◌, ◌==◌, Bool, true, false, List, [], ◌∷◌, ◌++◌, length, Result, Ok, Err, IfOk, refl, sym, ap, ◌∙◌, arith, append-nil, append_assoc, length-take}
use Rattle.std.proofs.Common.{nat_lt, take_all}
use Rattle.std.specs.List.{after_first, before_first, join_with_byte, position_or_len}
use Rattle.std.proofs.lemmas.Bool.{false≢true}
use Rattle.std.proofs.lemmas.Bool.Decides.{nat_tests}
use Rattle.std.proofs.lemmas.List.{drop_all}
use Rattle.std.proofs.lemmas.List.Sums.{fails_before_first}
use Rattle.std.proofs.lemmas.List.Splits.{slice_split_first, slice_split_none}
use Rattle.hv_script.proofs.CutLemmas.{choose}
use Rattle.hv_script.specs.Line.{◌>>=◌}
use Rattle.hv_script.specs.Words.{lines_of, words_of}
use Rattle.hv_asm.specs.Line.{line_of}
use Rattle.hv_asm.specs.Text.{at_line, line_end, lines_meant, with_lines}
use Rattle.hv_asm.specs.declared.fault.AsmError.{AsmError}
use Rattle.hv_asm.specs.declared.fault.AsmFault.{AsmFault}
use Rattle.hv_asm.proofs.Lists.{with_more}

-- the first line of a text, and what stands behind it
abbrev pub line_in : List ℕ → List ℕ
line_in text = before_first (λ byte. byte == 10) text

abbrev pub rest_in : List ℕ → List ℕ
rest_in text = after_first (λ byte. byte == 10) text

-- where the first line ends
abbrev pub end_of : List ℕ → ℕ
end_of text = position_or_len (λ byte. byte == 10) text

-- lines that begin with this one
abbrev Begins : List ℕ → List (List ℕ) → Type 0
Begins line lines = (tail : List (List ℕ)) × (lines ≡ line ∷ tail)

alone : (text : List ℕ) → length text ≤ end_of text → lines_of text ≡ line_in text ∷ []
alone text past =
    slice_split_none (λ byte. byte == 10) text (λ k d lt. fails_before_first (λ byte. byte == 10) text k d (omega (arith, lt, past)))
    ∙ ap (λ (l : List ℕ). l ∷ []) (sym (take_all (end_of text) text past))

begins : (text : List ℕ) → Begins (line_in text) (lines_of text)
begins text = choose (end_of text) (length text) (λ there. (lines_of (rest_in text), slice_split_first (λ byte. byte == 10) text 0 there)) (λ past. ([], alone text past))

-- the lines from a text on, behind another
abbrev behind : List ℕ → ℕ → List (List ℕ) → Result (List ℕ) AsmError
behind before number lines = lines_meant number lines >>= (λ lines. Ok (before ++ join_with_byte 10 lines))

-- a line with a fault
pub line_fails : (text before : List ℕ) (fault : AsmFault) → with_more before (line_of (line_in text)) ≡ Err fault
    → (number : ℕ) → with_lines before number text ≡ Err (record { line = number; kind = fault })
line_fails text before fault failed number =
    let first = begins text in
    ap (behind before number) first.1 ∙ by (line_of (line_in text)) failed
  where
    by : (r : Result (List ℕ) AsmFault) → with_more before r ≡ Err fault
        → at_line number r >>= (λ line. lines_meant (number + 1) (begins text).0 >>= (λ rest. Ok (line ∷ rest))) >>= (λ lines. Ok (before ++ join_with_byte 10 lines))
        ≡ Err (record { line = number; kind = fault })
    by (Ok more) e = cc
    by (Err other) e = let is : other ≡ fault = cc in ap (λ (k : AsmFault). Err (record { line = number; kind = k })) is

-- what some lines mean is some lines
some_meant : (number : ℕ) (line : List ℕ) (tail : List (List ℕ)) → IfOk (lines_meant number (line ∷ tail)) (λ lines. 0 < length lines)
some_meant number line tail = by (at_line number (line_of line)) (lines_meant (number + 1) tail)
  where
    by : (first : Result (List ℕ) AsmError) (rest : Result (List (List ℕ)) AsmError)
        → IfOk (first >>= (λ first. rest >>= (λ rest. Ok (first ∷ rest)))) (λ lines. 0 < length lines)
    by (Err fault) rest = tt
    by (Ok first) (Err fault) = tt
    by (Ok first) (Ok rest) = omega arith

some_lines : (number : ℕ) (text : List ℕ) → IfOk (lines_meant number (lines_of text)) (λ lines. 0 < length lines)
some_lines number text =
    let first = begins text in
    rw first.1 (some_meant number (line_in text) first.0)

joined : (before more new : List ℕ) (r : Result (List (List ℕ)) AsmError) → IfOk r (λ lines. 0 < length lines) → new ≡ before ++ more ++ 10 ∷ []
    → r >>= (λ rest. Ok (more ∷ rest)) >>= (λ lines. Ok (before ++ join_with_byte 10 lines)) ≡ r >>= (λ lines. Ok (new ++ join_with_byte 10 lines))
joined before more new (Err fault) some is = refl
joined before more new (Ok []) some is = absurd (omega (arith, some))
joined before more new (Ok (line ∷ lines)) some is =
    let rest = join_with_byte 10 (line ∷ lines) in
    let moved = append_assoc (before ++ more) (10 ∷ []) rest ∙ append_assoc before more (10 ∷ rest) in
    ap Ok (sym (ap (λ (l : List ℕ). l ++ rest) is ∙ moved))

-- a line with a line feed behind it is added
pub line_added : (text before mid new : List ℕ) → end_of text < length text → with_more before (line_of (line_in text)) ≡ Ok mid → new ≡ mid ++ 10 ∷ []
    → (number : ℕ) → with_lines before number text ≡ with_lines new (number + 1) (rest_in text)
line_added text before mid new there added is number =
    ap (behind before number) (slice_split_first (λ byte. byte == 10) text 0 there) ∙ by (line_of (line_in text)) added
  where
    by : (r : Result (List ℕ) AsmFault) → with_more before r ≡ Ok mid
        → at_line number r >>= (λ line. lines_meant (number + 1) (lines_of (rest_in text)) >>= (λ rest. Ok (line ∷ rest))) >>= (λ lines. Ok (before ++ join_with_byte 10 lines))
        ≡ with_lines new (number + 1) (rest_in text)
    by (Err fault) e = cc
    by (Ok more) e =
        let from : before ++ more ≡ mid = cc in
        joined before more new (lines_meant (number + 1) (lines_of (rest_in text))) (some_lines (number + 1) (rest_in text)) (is ∙ ap (λ (l : List ℕ). l ++ 10 ∷ []) (sym from))

-- nothing is one empty line
pub nothing_meant : (before : List ℕ) (number : ℕ) → with_lines before number [] ≡ Ok before
unfolding line_of words_of
nothing_meant before number = ap Ok (append-nil before)

-- the last line is added
pub last_added : (text before new : List ℕ) → length text ≤ end_of text → with_more before (line_of (line_in text)) ≡ Ok new
    → (number : ℕ) → with_lines before number text ≡ with_lines new (number + 1) (rest_in text)
last_added text before new past added number =
    let none : rest_in text ≡ [] = drop_all (end_of text + 1) text (omega (arith, past)) in
    ap (behind before number) (alone text past) ∙ by (line_of (line_in text)) added
    ∙ sym (ap (with_lines new (number + 1)) none ∙ nothing_meant new (number + 1))
  where
    by : (r : Result (List ℕ) AsmFault) → with_more before r ≡ Ok new
        → at_line number r >>= (λ line. Ok [] >>= (λ rest. Ok (line ∷ rest))) >>= (λ lines. Ok (before ++ join_with_byte 10 lines)) ≡ Ok new
    by (Err fault) e = cc
    by (Ok more) e = let is : before ++ more ≡ new = cc in ap Ok is

-- the next line is added, with its line feed if it has one
pub next_line : (text before mid new : List ℕ) (feed : Bool) → feed ≡ nat_lt (length (line_in text)) (length text) → with_more before (line_of (line_in text)) ≡ Ok mid
    → new ≡ mid ++ line_end feed → (number : ℕ) → with_lines before number text ≡ with_lines new (number + 1) (rest_in text)
next_line text before mid new true has added is =
    let long = length-take (end_of text) text in
    let there : end_of text < length text = grind (arith, nat_tests, long, has) in
    line_added text before mid new there added is
next_line text before mid new false has added is =
    let long = length-take (end_of text) text in
    let past : length text ≤ end_of text = grind (arith, nat_tests, long, has) in
    last_added text before new past (added ∙ ap Ok (sym (is ∙ append-nil mid)))

-- all of a text is added
pub all_added : (text before : List ℕ) (number : ℕ) → (length text == 0) ≡ true → with_lines before number text ≡ Ok before
all_added [] before number none = nothing_meant before number
all_added (byte ∷ text) before number none = let no : (length (byte ∷ text) == 0) ≡ false = grind (arith, nat_tests) in absurd (false≢true (sym no ∙ none))
