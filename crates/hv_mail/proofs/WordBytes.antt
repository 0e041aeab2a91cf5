-- The bytes of words, written a word at a time.
use Rattle.std.proofs.Common.{◌≡◌, ℕ, zero, suc, ◌+◌, ◌*◌, ◌/◌, ◌%◌, ◌^◌, ◌<◌, ◌≤◌, List, [], ◌∷◌, ◌++◌, map, length, get_or, take, arith, add-zero, zero-add, lit<, sym, refl, ap, ◌∙◌}
use Rattle.std.specs.Int.{to_le_bytes, w64}
use Rattle.std.specs.List.{range_with_len}
use Rattle.std.proofs.lemmas.Slice.{take-put_mid}
use borrow.Rule.Slice.PartMut.{put_mid}
use Rattle.hv_mail.specs.Words.{byte_of}

-- lists of eight
same_parts : {a b c d e f g h a' b' c' d' e' f' g' h' : ℕ} → a ≡ a' → b ≡ b' → c ≡ c' → d ≡ d' → e ≡ e' → f ≡ f' → g ≡ g' → h ≡ h'
    → a ∷ b ∷ c ∷ d ∷ e ∷ f ∷ g ∷ h ∷ [] ≡ a' ∷ b' ∷ c' ∷ d' ∷ e' ∷ f' ∷ g' ∷ h' ∷ []
same_parts p q r s t u v w = cc

-- the bytes from a place on, so many of them
abbrev pub bytes_from : List ℕ → ℕ → ℕ → ℕ → List ℕ
bytes_from words first from n = map (λ i. byte_of words (8 * first + i)) (range_with_len from n)

-- byte j of a word
byte_in_word : (words : List ℕ) (first i at j : ℕ) → j < 8 → at ≡ 8 * i + j → byte_of words (8 * first + at) ≡ get_or words (first + i) 0 / 2 ^ (j * 8) % 256
byte_in_word words first i at j low is =
    let word : (8 * first + at) / 8 ≡ first + i = omega arith in
    let byte : (8 * first + at) % 8 ≡ j = omega arith in
    rw (word, byte) refl

-- those of one word
bytes_of_word : (words : List ℕ) (first i : ℕ) → to_le_bytes w64 (get_or words (first + i) 0) ≡ bytes_from words first (8 * i) 8
bytes_of_word words first i =
    let byte : (at j : ℕ) → j < 8 → at ≡ 8 * i + j → get_or words (first + i) 0 / 2 ^ (j * 8) % 256 ≡ byte_of words (8 * first + at) = λ at j low is. sym (byte_in_word words first i at j low is) in
    let lowest : get_or words (first + i) 0 % 256 ≡ get_or words (first + i) 0 / 2 ^ 0 % 256 = omega arith in
    same_parts
    (lowest ∙ byte (8 * i) 0 (lit< tt) (omega arith))
    (byte (8 * i + 1) 1 (lit< tt) (omega arith))
    (byte (8 * i + 1 + 1) 2 (lit< tt) (omega arith))
    (byte (8 * i + 1 + 1 + 1) 3 (lit< tt) (omega arith))
    (byte (8 * i + 1 + 1 + 1 + 1) 4 (lit< tt) (omega arith))
    (byte (8 * i + 1 + 1 + 1 + 1 + 1) 5 (lit< tt) (omega arith))
    (byte (8 * i + 1 + 1 + 1 + 1 + 1 + 1) 6 (lit< tt) (omega arith))
    (byte (8 * i + 1 + 1 + 1 + 1 + 1 + 1 + 1) 7 (lit< tt) (omega arith))

-- and those of two stretches
two_stretches : (words : List ℕ) (first from n m : ℕ) → bytes_from words first from (n + m) ≡ bytes_from words first from n ++ bytes_from words first (from + n) m
two_stretches words first from zero m = rw (zero-add, add-zero) refl
two_stretches words first from (suc n) m =
    let more : suc n + m ≡ suc (n + m) = omega arith in
    let next : from + suc n ≡ from + 1 + n = omega arith in
    rw (more, next) (ap (λ (bs : List ℕ). byte_of words (8 * first + from) ∷ bs) (two_stretches words first (from + 1) n m))

-- one word more
pub word_more : (words bytes ys : List ℕ) (first i k : ℕ) → take (8 * i) bytes ≡ bytes_from words first 0 (8 * i) → 8 * i ≤ length bytes
    → ys ≡ to_le_bytes w64 (get_or words (first + i) 0) → take (8 * (i + 1)) (put_mid (8 * i) k bytes ys) ≡ bytes_from words first 0 (8 * (i + 1))
word_more words bytes ys first i k held fits is =
    let eight : length ys ≡ 8 = rw is refl in
    let more : 8 * (i + 1) ≡ 8 * i + 8 = omega arith in
    take-put_mid (8 * i) k bytes ys (8 * (i + 1)) (omega arith) fits
    ∙ rw (held, is, bytes_of_word words first i, more, two_stretches words first 0 (8 * i) 8, zero-add) refl
