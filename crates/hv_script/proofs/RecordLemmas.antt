-- What a script's reader makes of a recorded line.
use Rattle.std.proofs.Common.{◌≡◌, ℕ, zero, suc, ◌+◌, ◌^◌, ◌/◌, ◌%◌, ◌<◌, ◌≤◌, ◌==◌, ◌&&◌, nat_eq, nat_lt, nat_le, Bool, true, false, not, cond, List, [], ◌∷◌, ◌++◌, length, take, drop, get_or}
use Rattle.std.proofs.Common.{filter, codes, decimal, Some, option_and_then, Ok, refl, sym, ap, ◌∙◌, append-nil, append_assoc, arith, slice_index, length-append}
use Rattle.std.specs.Fmt.{digit_glyph, digits, digits_onto}
use Rattle.std.specs.List.{after_first, before_first, list_all, position_or_len, slice_split, starts_with}
use Rattle.std.specs.Str.{bytes_eq}
use Rattle.std.proofs.lemmas.Bool.{false≢true}
use Rattle.std.proofs.lemmas.Bool.Decides.{nat_tests}
use Rattle.std.proofs.lemmas.Fmt.{decimal_is_IsNumeral, digits_is_IsNumeral}
use Rattle.std.proofs.lemmas.List.Folds.{list_all-append}
use Rattle.std.proofs.lemmas.List.Splits.{slice_split_at, slice_split_none}
use Rattle.std.proofs.lemmas.List.Sums.{AllPass-from_list_all}
use Rattle.hex.proofs.HexLemmas.{decode_of-encode_lower, length-encode_with}
use Rattle.hex.specs.Hex.{IsBytes, encode_lower, encode_with, lower_digits}
use Rattle.hv_policy.specs.declared.event.Action.{Action}
use Rattle.hv_policy.specs.declared.event.Action.TheVariants as action
use Rattle.hv_policy.specs.declared.event.Caller.{Caller}
use Rattle.hv_script.proofs.CutLemmas.{choose}
use Rattle.hv_script.proofs.NumberLemmas.{hex_bytes, hex_number, hex_said, hex_test, narrower_number, no_bytes, plain_number, read_digits}
use Rattle.hv_script.proofs.WordLemmas.{is_good, word_is_good}
use Rattle.hv_script.specs.Callers.{callers_of, have_room}
use Rattle.hv_script.specs.Cursor.{is_of_word}
use Rattle.hv_script.specs.Line.{action_of, processor_of}
use Rattle.hv_script.specs.Number.{bytes_in, decimal_in, fitting, number_in}
use Rattle.hv_script.specs.Recorded.{IsInRange, IsRecordable, hex_text, input_text, line_text, spaced, words_by}
use Rattle.hv_script.specs.Script.{SoFar, later_line, processor_line, read_line, with_line}
use Rattle.hv_script.specs.Words.{begins_with, has_good_bytes, is_skipped, words_of}

-- bytes of decimal digits
abbrev is_decimal : ℕ → Bool
is_decimal byte = nat_le 48 byte && nat_lt byte 58

-- digits, each of which passes a test
onto_all : (test : ℕ → Bool) (base : ℕ) → 0 < base → ((d : ℕ) → d < base → test (digit_glyph false d) ≡ true) → (k n : ℕ) (acc : List ℕ)
    → list_all test acc ≡ true → list_all test (digits_onto k base false n acc) ≡ true
onto_all test base some pass zero n acc rest = rest
onto_all test base some pass (suc k) n acc rest =
    let here = pass (n % base) (omega (arith, some)) in
    let more : list_all test (digit_glyph false (n % base) ∷ acc) ≡ true = rw (here, rest) refl in
    by (n / base == 0) more (onto_all test base some pass k (n / base) (digit_glyph false (n % base) ∷ acc) more)
  where
    by : (b : Bool) → list_all test (digit_glyph false (n % base) ∷ acc) ≡ true
        → list_all test (digits_onto k base false (n / base) (digit_glyph false (n % base) ∷ acc)) ≡ true
        → list_all test (cond b (digit_glyph false (n % base) ∷ acc) (digits_onto k base false (n / base) (digit_glyph false (n % base) ∷ acc))) ≡ true
    by true more rest = more
    by false more rest = rest

glyph_of_word : (d : ℕ) → d < 16 → is_of_word (digit_glyph false d) ≡ true
glyph_of_word d less = grind (arith, nat_tests)

glyph_decimal : (d : ℕ) → d < 10 → is_decimal (digit_glyph false d) ≡ true
glyph_decimal d less = grind (arith, nat_tests)

hex_of_word : (n : ℕ) → list_all is_of_word (digits 16 false n) ≡ true
unfolding digits
hex_of_word n = onto_all is_of_word 16 (omega arith) glyph_of_word 64 n [] refl

are_decimal : (n : ℕ) → list_all is_decimal (decimal n) ≡ true
unfolding digits
are_decimal n = onto_all is_decimal 10 (omega arith) glyph_decimal 64 n [] refl

-- how many digits there are
onto_short : (k n j : ℕ) (acc : List ℕ) → n < 16 ^ suc j → length (digits_onto k 16 false n acc) ≤ suc j + length acc
onto_short zero n j acc less = omega arith
onto_short (suc k) n j acc less =
    by (n / 16 == 0) refl j less (λ i below. onto_short k (n / 16) i (digit_glyph false (n % 16) ∷ acc) below)
  where
    by : (b : Bool) → (n / 16 == 0) ≡ b → (j : ℕ) → n < 16 ^ suc j
        → ((i : ℕ) → n / 16 < 16 ^ suc i
        → length (digits_onto k 16 false (n / 16) (digit_glyph false (n % 16) ∷ acc)) ≤ suc i + length (digit_glyph false (n % 16) ∷ acc))
        → length (cond b (digit_glyph false (n % 16) ∷ acc) (digits_onto k 16 false (n / 16) (digit_glyph false (n % 16) ∷ acc))) ≤ suc j + length acc
    by true none j less rest = omega arith
    by false some zero less rest =
        let small : n < 16 = less in
        let no : (n / 16 == 0) ≡ true = grind (arith, nat_tests) in
        absurd (false≢true (sym some ∙ no))
    by false some (suc j) less rest =
        let below : n / 16 < 16 ^ suc j = omega (arith, less) in
        let shorter = rest j below in
        omega (arith, shorter)

hex_short : (n : ℕ) → n < 2 ^ 64 → length (digits 16 false n) ≤ 16
unfolding digits
hex_short n less = onto_short 64 n 15 [] less

-- a word: some bytes that may stand in one
abbrev IsWord : List ℕ → Type 0
IsWord word = (0 < length word) × (list_all is_of_word word ≡ true)

abbrev AreWords : List (List ℕ) → Type 0
AreWords [] = Unit {0}
AreWords (word ∷ words) = IsWord word × AreWords words

abbrev is_full : List ℕ → Bool
is_full word = not (length word == 0)

full : (word : List ℕ) (words : List (List ℕ)) → 0 < length word → filter is_full (word ∷ words) ≡ word ∷ filter is_full words
full word words some = let is : (length word == 0) ≡ false = grind (arith, nat_tests) in rw is refl

no_space : (x : ℕ) → is_of_word x ≡ true → (x == 32) ≡ false
no_space x e = grind (arith, nat_tests)

-- words with spaces before them are cut into these words
words_spaced : (first : List ℕ) (words : List (List ℕ)) → IsWord first → AreWords words → words_of (first ++ spaced words) ≡ first ∷ words
unfolding words_of
words_spaced first [] one each =
    ap words_of (append-nil first)
    ∙ ap (filter is_full) (slice_split_none (λ byte. byte == 32) first (λ k d lt. no_space _ (AllPass-from_list_all is_of_word first one.1 k d lt)))
    ∙ full first [] one.0
words_spaced first (word ∷ words) one each =
    ap (filter is_full) (slice_split_at (λ byte. byte == 32) first 32 (word ++ spaced words) (λ k d lt. no_space _ (AllPass-from_list_all is_of_word first one.1 k d lt)) refl)
    ∙ full first (slice_split (λ byte. byte == 32) (word ++ spaced words)) one.0
    ∙ ap (λ (ws : List (List ℕ)). first ∷ ws) (words_spaced word words each.0 each.1)

good_word : (word : List ℕ) → list_all is_of_word word ≡ true → has_good_bytes word ≡ true
good_word [] good = refl
good_word (x ∷ word) good =
    let here : is_of_word x ≡ true = grind (arith, nat_tests) in
    let more : list_all is_of_word word ≡ true = grind (arith, nat_tests) in
    rw (word_is_good x here, good_word word more) refl

good_line : (first : List ℕ) (words : List (List ℕ)) → IsWord first → AreWords words → has_good_bytes (first ++ spaced words) ≡ true
good_line first [] one each = ap has_good_bytes (append-nil first) ∙ good_word first one.1
good_line first (word ∷ words) one each =
    list_all-append is_good first (32 ∷ (word ++ spaced words))
    ∙ rw (good_word first one.1, good_line word words each.0 each.1) refl

-- numbers are read as they were written
decimal_read : (bits n : ℕ) → n < 2 ^ 64 → n < 2 ^ bits → decimal_in bits (decimal n) ≡ Some n
unfolding decimal_in
decimal_read bits n wide fits =
    let is = decimal_is_IsNumeral n wide in
    sym (read_digits 10 bits (decimal n) (Some n) ((is.0, rw is.1 fits), sym is.1))

fitting_is : (bits n : ℕ) → n < 2 ^ bits → fitting bits n ≡ Some n
fitting_is bits n fits = let is : nat_lt n (2 ^ bits) ≡ true = grind (arith, nat_tests) in rw is refl

hex_read : (bits n : ℕ) → bits ≤ 64 → n < 2 ^ 64 → n < 2 ^ bits → number_in bits (hex_text n) ≡ Some n
hex_read bits n few wide fits =
    let is = digits_is_IsNumeral 16 false (omega arith) (omega arith) n (omega (arith, wide)) in
    let whole : Some n ≡ number_in 64 (hex_text n) =
    hex_number (hex_text n) (digits 16 false n) (Some n) refl refl (hex_short n wide) ((is.0, rw is.1 wide), sym is.1) in
    narrower_number bits (hex_text n) few ∙ ap (option_and_then (fitting bits)) (sym whole) ∙ fitting_is bits n fits

second_is_no_x : (word : List ℕ) → list_all is_decimal word ≡ true → nat_eq (get_or word 1 0) 120 ≡ false
second_is_no_x [] pass = refl
second_is_no_x (x ∷ []) pass = refl
second_is_no_x (x ∷ y ∷ word) pass = grind (arith, nat_tests)

no_hex : (n : ℕ) → starts_with nat_eq (decimal n) (codes "0x") ≡ false
no_hex n = let other = second_is_no_x (decimal n) (are_decimal n) in hex_test (decimal n) ∙ grind (arith, nat_tests, other)

small_read : (bits n : ℕ) → bits ≤ 64 → n < 2 ^ 64 → n < 2 ^ bits → number_in bits (decimal n) ≡ Some n
small_read bits n few wide fits =
    let is = decimal_is_IsNumeral n wide in
    let whole : Some n ≡ number_in 64 (decimal n) = plain_number (decimal n) (Some n) (no_hex n) ((is.0, rw is.1 wide), sym is.1) in
    narrower_number bits (decimal n) few ∙ ap (option_and_then (fitting bits)) (sym whole) ∙ fitting_is bits n fits

-- a test that each number below another passes
abbrev all_below : (ℕ → Bool) → ℕ → Bool
all_below test zero = true
all_below test (suc n) = test n && all_below test n

passes : (test : ℕ → Bool) (n k : ℕ) → all_below test n ≡ true → k < n → test k ≡ true
passes test zero k all less = absurd (omega (arith, less))
passes test (suc n) k all less =
    let here : test n ≡ true = grind (arith, nat_tests) in
    let lower : all_below test n ≡ true = grind (arith, nat_tests) in
    choose k n (passes test n k lower) (λ past. let last : k ≡ n = omega (arith, less, past) in rw last here)

glyph_16 : (d : ℕ) → d < 16 → is_of_word (slice_index lower_digits d) ≡ true
glyph_16 d less = passes (λ k. is_of_word (slice_index lower_digits k)) 16 d refl less

pairs_of_word : (bytes : List ℕ) → IsBytes bytes → list_all is_of_word (encode_lower bytes) ≡ true
unfolding encode_with
pairs_of_word [] are = refl
pairs_of_word (byte ∷ bytes) are =
    let fits : byte < 256 = are 0 in
    rw (glyph_16 (byte / 16) (omega (arith, fits)), glyph_16 (byte % 16) (omega arith), pairs_of_word bytes (λ k. are (suc k))) refl

no_dash : (byte : ℕ) (bytes : List ℕ) → bytes_eq (encode_lower (byte ∷ bytes)) (codes "-") ≡ false
unfolding encode_with
no_dash byte bytes = grind (arith, nat_tests)

input_read : (bytes : List ℕ) → IsBytes bytes → length bytes ≤ 4096 → bytes_in (input_text bytes) ≡ Ok bytes
input_read [] are few = no_bytes (codes "-") refl
input_read (byte ∷ bytes) are few =
    let long = length-encode_with lower_digits (byte ∷ bytes) in
    hex_bytes (encode_lower (byte ∷ bytes)) (no_dash byte bytes) (omega (arith, long, few)) ∙ ap hex_said (decode_of-encode_lower (byte ∷ bytes) are)

-- each word is one
hex_word : (n : ℕ) → IsWord (hex_text n)
hex_word n = (omega arith, hex_of_word n)

decimal_to_word : (word : List ℕ) → list_all is_decimal word ≡ true → list_all is_of_word word ≡ true
decimal_to_word [] pass = refl
decimal_to_word (x ∷ word) pass =
    let here : is_of_word x ≡ true = grind (arith, nat_tests) in
    let more : list_all is_decimal word ≡ true = grind (arith, nat_tests) in
    rw (here, decimal_to_word word more) refl

decimal_word : (n : ℕ) → n < 2 ^ 64 → IsWord (decimal n)
decimal_word n wide = ((decimal_is_IsNumeral n wide).0.0, decimal_to_word (decimal n) (are_decimal n))

input_word : (bytes : List ℕ) → IsBytes bytes → IsWord (input_text bytes)
input_word [] are = (omega arith, refl)
input_word (byte ∷ bytes) are =
    let long = length-encode_with lower_digits (byte ∷ bytes) in
    (omega (arith, long), pairs_of_word (byte ∷ bytes) are)

are_words : {A : Type 0} (what : Action A) → IsInRange what → AreWords (words_by what)
are_words (action.Hypercall frame) fits =
    ((omega arith, refl), (hex_word frame.rcx, (hex_word frame.rdx, (hex_word frame.r8, (input_word frame.input fits.3, tt)))))
are_words (action.ReadMsr msr) fits = ((omega arith, refl), (hex_word msr, tt))
are_words (action.WriteMsr msr value) fits = ((omega arith, refl), (hex_word msr, (hex_word value, tt)))
are_words (action.ReadSlot sint) fits = ((omega arith, refl), (decimal_word sint (omega (arith, fits)), tt))
are_words (action.ClearSlot sint) fits = ((omega arith, refl), (decimal_word sint (omega (arith, fits)), tt))
are_words (action.ReadFlags sint) fits = ((omega arith, refl), (decimal_word sint (omega (arith, fits)), tt))
are_words (action.ClearFlag sint flag) fits =
    ((omega arith, refl), (decimal_word sint (omega (arith, fits.0)), (decimal_word flag (omega (arith, fits.1)), tt)))
are_words action.TakeInterrupt fits = ((omega arith, refl), tt)

-- the processor's word
abbrev caller_word : Caller → List ℕ
caller_word by = decimal by.part ++ 46 ∷ decimal by.vp

caller_is_word : (by : Caller) → by.part < 2 ^ 64 → by.vp < 2 ^ 32 → IsWord (caller_word by)
caller_is_word by part vp =
    let one = decimal_word by.part part in
    let other = decimal_word by.vp (omega (arith, vp)) in
    let some = one.0 in (
      omega (arith, some, length-append (decimal by.part) (46 ∷ decimal by.vp)),
      list_all-append is_of_word (decimal by.part) (46 ∷ decimal by.vp) ∙ rw (one.1, other.1) refl,
    )

no_dot : (x : ℕ) → is_decimal x ≡ true → (x == 46) ≡ false
no_dot x e = grind (arith, nat_tests)

abbrev dot_at : List ℕ → ℕ
dot_at text = position_or_len (λ byte. byte == 46) text

dot_later : (x : ℕ) (text : List ℕ) → (x == 46) ≡ false → dot_at (x ∷ text) ≡ suc (dot_at text)
dot_later x text other = ap (λ (b : Bool). cond (not b) (1 + dot_at text) 0) other ∙ (omega arith)

front_is : (xs ys : List ℕ) → list_all is_decimal xs ≡ true → before_first (λ byte. byte == 46) (xs ++ 46 ∷ ys) ≡ xs
front_is [] ys pass = refl
front_is (x ∷ xs) ys pass =
    let here : is_decimal x ≡ true = grind (arith, nat_tests) in
    let more : list_all is_decimal xs ≡ true = grind (arith, nat_tests) in
    ap (λ (n : ℕ). take n (x ∷ (xs ++ 46 ∷ ys))) (dot_later x (xs ++ 46 ∷ ys) (no_dot x here))
    ∙ ap (λ (l : List ℕ). x ∷ l) (front_is xs ys more)

back_is : (xs ys : List ℕ) → list_all is_decimal xs ≡ true → after_first (λ byte. byte == 46) (xs ++ 46 ∷ ys) ≡ ys
back_is [] ys pass = refl
back_is (x ∷ xs) ys pass =
    let here : is_decimal x ≡ true = grind (arith, nat_tests) in
    let more : list_all is_decimal xs ≡ true = grind (arith, nat_tests) in
    let one : suc (dot_at (xs ++ 46 ∷ ys)) + 1 ≡ suc (dot_at (xs ++ 46 ∷ ys) + 1) = omega arith in
    ap (λ (n : ℕ). drop (n + 1) (x ∷ (xs ++ 46 ∷ ys))) (dot_later x (xs ++ 46 ∷ ys) (no_dot x here))
    ∙ ap (λ (n : ℕ). drop n (x ∷ (xs ++ 46 ∷ ys))) one
    ∙ back_is xs ys more

caller_read : (by : Caller) → by.part < 2 ^ 64 → by.vp < 2 ^ 32 → processor_of (caller_word by) ≡ Ok by
unfolding processor_of
caller_read by part vp =
    rw (
      front_is (decimal by.part) (decimal by.vp) (are_decimal by.part),
      back_is (decimal by.part) (decimal by.vp) (are_decimal by.part),
      decimal_read 64 by.part part part,
      decimal_read 32 by.vp (omega (arith, vp)) vp,
    ) refl

-- the words after the processor's say what it asks for
action_read : {A : Type 0} (first : List ℕ) (what : Action A) → IsInRange what → action_of (first ∷ words_by what) ≡ Ok what
unfolding action_of
action_read first (action.Hypercall frame) fits =
    rw (
      hex_read 64 frame.rcx (omega arith) fits.0 fits.0,
      hex_read 64 frame.rdx (omega arith) fits.1 fits.1,
      hex_read 64 frame.r8 (omega arith) fits.2 fits.2,
      input_read frame.input fits.3 fits.4,
    ) refl
action_read first (action.ReadMsr msr) fits = rw (hex_read 32 msr (omega arith) (omega (arith, fits)) fits) refl
action_read first (action.WriteMsr msr value) fits =
    let low = fits.0 in
    rw (hex_read 32 msr (omega arith) (omega (arith, low)) fits.0, hex_read 64 value (omega arith) fits.1 fits.1) refl
action_read first (action.ReadSlot sint) fits = rw (small_read 8 sint (omega arith) (omega (arith, fits)) fits) refl
action_read first (action.ClearSlot sint) fits = rw (small_read 8 sint (omega arith) (omega (arith, fits)) fits) refl
action_read first (action.ReadFlags sint) fits = rw (small_read 8 sint (omega arith) (omega (arith, fits)) fits) refl
action_read first (action.ClearFlag sint flag) fits =
    let low = fits.0 in
    let high = fits.1 in
    rw (small_read 8 sint (omega arith) (omega (arith, low)) fits.0, small_read 16 flag (omega arith) (omega (arith, high)) fits.1) refl
action_read first action.TakeInterrupt fits = refl

-- the first word begins with a digit, so that it is no other
abbrev IsNone : List (List ℕ) → Type 0
IsNone words = (is_skipped words ≡ false) × (begins_with words (codes "boot") ≡ false) × (begins_with words (codes "phase") ≡ false)

digit_first : (word rest : List ℕ) (words : List (List ℕ)) → 0 < length word → list_all is_decimal word ≡ true → IsNone ((word ++ rest) ∷ words)
digit_first [] rest words some pass = absurd (omega (arith, some))
digit_first (x ∷ word) rest words some pass = (grind (arith, nat_tests), grind (arith, nat_tests), grind (arith, nat_tests))

line_cut : {A : Type 0} (by : Caller) (what : Action A) → line_text by what ≡ caller_word by ++ spaced (words_by what)
line_cut by what = by_parts (decimal by.part) (decimal by.vp) (spaced (words_by what))
  where
    by_parts : (front index rest : List ℕ) → front ++ codes "." ++ index ++ rest ≡ (front ++ 46 ∷ index) ++ rest
    by_parts front index rest = ap (λ (l : List ℕ). l ++ rest) (append_assoc front (codes ".") index)

pub read_back : {A : Type 0} (so_far : SoFar A) (by : Caller) (what : Action A) → IsRecordable by what
    → have_room (callers_of so_far.phase so_far.lines) by ≡ true
    → read_line (Some so_far) (line_text by what) ≡ Ok (Some (with_line so_far by what))
unfolding read_line later_line processor_line
read_back so_far by what fits room =
    let word = caller_is_word by fits.0 fits.1 in
    let words = are_words what fits.2 in
    let cut = words_spaced (caller_word by) (words_by what) word words in
    let good = good_line (caller_word by) (words_by what) word words in
    let none = digit_first (decimal by.part) (46 ∷ decimal by.vp) (words_by what) (decimal_word by.part fits.0).0 (are_decimal by.part) in
    ap (read_line (Some so_far)) (line_cut by what)
    ∙ rw (cut, good, none.0, none.1, none.2, caller_read by fits.0 fits.1, action_read (caller_word by) what fits.2, room) refl
