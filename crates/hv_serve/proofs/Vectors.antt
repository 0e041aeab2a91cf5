-- The bytes of words are those of their vectors.
use Rattle.std.proofs.Common.{◌≡◌, ℕ, zero, suc, ◌+◌, ◌*◌, ◌/◌, ◌%◌, ◌^◌, ◌<◌, Bool, List, [], ◌∷◌, ◌++◌, length, drop, map, slice_index, arith, sym, refl, ap, ◌∙◌}
use Rattle.std.specs.FinSet as set
use Rattle.std.specs.Int.{w64, to_le_bytes}
use Rattle.std.specs.List.{range_with_len}
use Rattle.std.proofs.lemmas.List.FromFn.{fill_by_all, length-map-range_with_len, get_or-map-range_with_len}
use Rattle.hv_defs.specs.Flags.{number_where}
use Rattle.hv_mail.specs.Flags.{flags_of}
use Rattle.hv_mail.specs.Words.{byte_of, has_bit, numbers_of}
use Rattle.hv_mail.proofs.FlagBytes.{flag_byte}
use Rattle.hv_mail.proofs.FlagMembers.{has_flag}
use Rattle.hv_mail.proofs.Members.{contains-numbers_of}
use Rattle.hv_serve.specs.Peek.{vector_bytes}

-- tests that agree make one number
same_number : (t u : ℕ → Bool) (n : ℕ) → ((j : ℕ) → j < n → t j ≡ u j) → number_where t n ≡ number_where u n
unfolding number_where
same_number t u zero same = refl
same_number t u (suc n) same =
    let rest = same_number t u n (λ j below. same j (omega arith)) in
    rw (rest, same n (omega arith)) refl

-- bit k of the words is a vector, as it is a flag of SINT 0
vector_is_flag : (words : List ℕ) (k : ℕ) → k < 2048 → set.contains (numbers_of words) k ≡ set.contains (flags_of words) (0, k)
vector_is_flag words k low =
    let at : k ≡ 0 * 2048 + k = omega arith in
    contains-numbers_of words k ∙ ap (has_bit words) at ∙ sym (has_flag words 0 k low)

vector_byte : (words : List ℕ) (i : ℕ) → i < 32 → number_where (λ j. set.contains (numbers_of words) (i * 8 + j)) 8 ≡ byte_of words i
vector_byte words i low =
    let at : 0 * 256 + i ≡ i = omega arith in
    same_number (λ j. set.contains (numbers_of words) (i * 8 + j)) (λ j. set.contains (flags_of words) (0, i * 8 + j)) 8 (λ j below. vector_is_flag words (i * 8 + j) (omega arith))
    ∙ flag_byte words 0 i (omega arith) ∙ ap (byte_of words) at

-- each byte of the words
bytes_of_vectors : (words : List ℕ) → map (byte_of words) (range_with_len 0 32) ≡ vector_bytes (numbers_of words)
unfolding vector_bytes
bytes_of_vectors words =
    fill_by_all (λ i. number_where (λ j. set.contains (numbers_of words) (i * 8 + j)) 8) (map (byte_of words) (range_with_len 0 32)) 32 0
    (length-map-range_with_len (byte_of words) 0 32)
    (λ k below. get_or-map-range_with_len (byte_of words) 0 32 k k 0 below (omega arith) ∙ sym (vector_byte words k below))

-- and those of four words, one word after another
lowest : (word : ℕ) → word % 256 ≡ word / 2 ^ 0 % 256
lowest word = omega arith

four_words : (a b c d : ℕ)
    → to_le_bytes w64 a ++ to_le_bytes w64 b ++ to_le_bytes w64 c ++ to_le_bytes w64 d ≡ map (byte_of (a ∷ b ∷ c ∷ d ∷ [])) (range_with_len 0 32)
four_words a b c d = λ i.
    (lowest a i ∷ drop 1 (to_le_bytes w64 a)) ++ (lowest b i ∷ drop 1 (to_le_bytes w64 b)) ++ (lowest c i ∷ drop 1 (to_le_bytes w64 c)) ++ (lowest d i ∷ drop 1 (to_le_bytes w64 d))

pub four_bytes : (a b c d : ℕ) → to_le_bytes w64 a ++ to_le_bytes w64 b ++ to_le_bytes w64 c ++ to_le_bytes w64 d ≡ vector_bytes (numbers_of (a ∷ b ∷ c ∷ d ∷ []))
four_bytes a b c d = four_words a b c d ∙ bytes_of_vectors (a ∷ b ∷ c ∷ d ∷ [])

pub vectors_written : (words : List ℕ) → length words ≡ 4
    → to_le_bytes w64 (slice_index words 0) ++ to_le_bytes w64 (slice_index words 1) ++ to_le_bytes w64 (slice_index words 2) ++ to_le_bytes w64 (slice_index words 3) ≡ vector_bytes (numbers_of words)
vectors_written [] four = absurd (omega arith)
vectors_written (a ∷ []) four = absurd (omega arith)
vectors_written (a ∷ b ∷ []) four = absurd (omega arith)
vectors_written (a ∷ b ∷ c ∷ []) four = absurd (omega arith)
vectors_written (a ∷ b ∷ c ∷ d ∷ []) four = four_bytes a b c d
vectors_written (a ∷ b ∷ c ∷ d ∷ e ∷ rest) four = absurd (omega arith)
