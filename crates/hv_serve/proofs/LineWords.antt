-- What a line says, by its words.
use Rattle.std.proofs.Common.{◌≡◌, ◌≢◌, ◌==◌, ◌≤◌, ◌<◌, ℕ, ◌+◌, suc, Bool, true, false, not, cond, List, [], ◌∷◌, length, take, refl, sym, ap, ◌∙◌, arith, Option, Some, None, Result, Ok, Err, nat_lt}
use Rattle.std.proofs.Common.{length-take, Global}
use Rattle.std.specs.List.{position_or_len}
use Rattle.std.proofs.lemmas.Bool.{false≢true}
use Rattle.std.proofs.lemmas.Bool.Decides.{nat_tests}
use Rattle.std.proofs.lemmas.List.Elements.{All-head, All-tail}
use Rattle.hv_script.specs.Cursor.{line_of, words_read}
use Rattle.hv_script.specs.Line.{◌>>=◌}
use Rattle.hv_script.specs.Script.{SoFar, read_line, read_words}
use Rattle.hv_script.specs.Words.{has_good_bytes, is_skipped, words_of}
use Rattle.hv_script.specs.declared.fault.FaultKind.{FaultKind}
use Rattle.hv_script.specs.declared.fault.FaultKind.TheVariants.{Byte, Long}
use Rattle.hv_script.specs.declared.script.TheConstants.{MOST_BYTES}
use Rattle.hv_serve.proofs.Lines.{IsOne}
use Rattle.hv_serve.specs.Bench.{reads, words_by, words_say}
use Rattle.hv_serve.specs.Meant.{Reads, meaning, meant, request_by, request_of}
use Rattle.hv_serve.specs.declared.request.Request.{Request}

chained : (r : Result (SoFar Global) FaultKind) → (r >>= (λ so_far. Ok (Some so_far))) >>= (λ after. Ok (Reads after)) ≡ reads r
chained (Ok so_far) = refl
chained (Err kind) = refl

-- where there are words, the first of them decides
pub by_first : (before : Option (SoFar Global)) (words : List (List ℕ)) (request : Option Request) → (length words == 0) ≡ false → request_of words ≡ request
    → words_say before words ≡ words_by request before words
by_first before words request some is =
    ap (λ (t : Bool). cond t (Ok (Reads before)) (words_by (request_of words) before words)) some ∙ ap (λ (r : Option Request). words_by r before words) is

pub by_none : (before : Option (SoFar Global)) (words : List (List ℕ)) → (length words == 0) ≡ true → words_say before words ≡ Ok (Reads before)
by_none before words none = ap (λ (t : Bool). cond t (Ok (Reads before)) (words_by (request_of words) before words)) none

-- a line that is read says what its words say
by_request : (before : Option (SoFar Global)) (line : List ℕ) (request : Option Request) → read_line before line ≡ read_words before (words_of line) >>= (λ so_far. Ok (Some so_far))
    → meaning request before line ≡ words_by request before (words_of line)
by_request before line (Some request) read = refl
by_request before line None read =
    ap (λ (r : Result (Option (SoFar Global)) FaultKind). r >>= (λ after. Ok (Reads after))) read ∙ chained (read_words before (words_of line))

-- whether it is skipped, and whether its bytes are good
by_tests : (before : Option (SoFar Global)) (line : List ℕ) (words : List (List ℕ)) (s g : Bool) → words_of line ≡ words → is_skipped words ≡ s
    → read_line before line ≡ cond s (Ok before) (cond g (read_words before words >>= (λ so_far. Ok (Some so_far))) (Err Byte))
    → meaning (cond s None (cond g (request_of words) None)) before line ≡ cond s (Ok []) (cond g (Ok words) (Err Byte)) >>= (λ words. words_say before words)
by_tests before line words true g are is read = ap (λ (r : Result (Option (SoFar Global)) FaultKind). r >>= (λ after. Ok (Reads after))) read
by_tests before line words false false are is read = ap (λ (r : Result (Option (SoFar Global)) FaultKind). r >>= (λ after. Ok (Reads after))) read
by_tests before line [] false true are is read = absurd (false≢true (sym is))
by_tests before line (word ∷ words) false true are is read =
    let some : (length (word ∷ words) == 0) ≡ false = grind (arith, nat_tests) in
    let request = request_of (word ∷ words) in
    by_request before line request (read ∙ ap (λ (ws : List (List ℕ)). read_words before ws >>= (λ so_far. Ok (Some so_far))) (sym are))
    ∙ ap (λ (ws : List (List ℕ)). words_by request before ws) are ∙ sym (by_first before (word ∷ words) request some refl)

not_long : (n : ℕ) → n ≤ MOST_BYTES → nat_lt MOST_BYTES n ≡ false
not_long n most = grind (arith, nat_tests)

too_long : (n : ℕ) → MOST_BYTES < n → nat_lt MOST_BYTES n ≡ true
too_long n more = grind (arith, nat_tests)

-- a line is cut, and its words say what it says
pub cut_says : (before : Option (SoFar Global)) (line : List ℕ) → length line ≤ MOST_BYTES → meant before line ≡ words_read line >>= (λ words. words_say before words)
unfolding meant read_line
cut_says before line most =
    ap (λ (t : Bool). cond t (Err Long) (meaning (request_by line) before line)) (not_long (length line) most)
    ∙ by_tests before line (words_of line) (is_skipped (words_of line)) (has_good_bytes line) refl refl refl

-- one that is longer than any script isn't
pub long_says : (before : Option (SoFar Global)) (line : List ℕ) → MOST_BYTES < length line → meant before line ≡ Err Long
unfolding meant
long_says before line more = ap (λ (t : Bool). cond t (Err Long) (meaning (request_by line) before line)) (too_long (length line) more)

pub line_shorter : (text : List ℕ) → length (line_of text) ≤ length text
line_shorter text = omega (arith, length-take (position_or_len (λ byte. byte == 10) text) text)

is_not : (byte : ℕ) → byte ≢ 10 → (byte == 10) ≡ false
is_not byte apart = grind (arith, nat_tests)

first_on : (t : Bool) (byte : ℕ) (rest : List ℕ) (n : ℕ) → t ≡ false → take (cond (not t) (1 + n) 0) (byte ∷ rest) ≡ byte ∷ take n rest
first_on false byte rest n is =
    let at : 1 + n ≡ suc n = omega arith in
    ap (λ (m : ℕ). take m (byte ∷ rest)) at
first_on true byte rest n is = absurd (false≢true (sym is))

-- a line without a line feed is all of its text
pub line_whole : (line : List ℕ) → IsOne line → line_of line ≡ line
line_whole [] one = refl
line_whole (byte ∷ rest) one =
    first_on (byte == 10) byte rest (position_or_len (λ byte. byte == 10) rest) (is_not byte (All-head (λ byte. byte ≢ 10) byte rest one))
    ∙ ap (λ (l : List ℕ). byte ∷ l) (line_whole rest (All-tail (λ byte. byte ≢ 10) byte rest one))
