-- The bytes of a SINT's flags.
use Rattle.std.proofs.Common.{◌≡◌, ℕ, zero, suc, ◌+◌, ◌*◌, ◌/◌, ◌%◌, ◌^◌, ◌<◌, Bool, cond, ◌==◌, List, map, get_or, arith, inl, inr, sym, refl, ap, ◌∙◌, shr-shr}
use Rattle.std.specs.Int.{bit_at}
use Rattle.std.specs.List.{range_with_len}
use Rattle.std.specs.FinSet as set
use Rattle.std.proofs.lemmas.Bool.{cases_eq}
use Rattle.std.proofs.lemmas.List.FromFn.{fill_by_all, length-map-range_with_len, get_or-map-range_with_len}
use Rattle.std.proofs.lemmas.Nat.{mod-pow-add}
use Rattle.std.proofs.lemmas.Nat.Bits.{bit_at-lt}
use Rattle.hv_defs.specs.Flags.{flag_bytes, number_where}
use Rattle.hv_mail.specs.Flags.{flags_of}
use Rattle.hv_mail.specs.Words.{byte_of}
use Rattle.hv_mail.proofs.FlagMembers.{has_flag}

-- tests that agree make one number
number_where-same : (t u : ℕ → Bool) (n : ℕ) → ((j : ℕ) → j < n → t j ≡ u j) → number_where t n ≡ number_where u n
unfolding number_where
number_where-same t u zero same = refl
number_where-same t u (suc n) same =
    let rest = number_where-same t u n (λ j below. same j (omega arith)) in
    rw (rest, same n (omega arith)) refl

-- a bit is worth its power
worth : (m k : ℕ) → cond (bit_at m k == 1) (2 ^ k) 0 ≡ bit_at m k * 2 ^ k
worth m k =
    elim (cases_eq (bit_at m k) 1) [
      | inl one ↦ rw one (omega arith)
      | inr other ↦
          let below = bit_at-lt m k in
          let zero : bit_at m k ≡ 0 = omega arith in
          rw zero (omega arith)
    ]

-- the bits of a number make the number
number_where-bits : (m k : ℕ) → number_where (λ j. bit_at m j == 1) k ≡ m % 2 ^ k
unfolding number_where
number_where-bits m zero = omega arith
number_where-bits m (suc k) =
    let more : m % 2 ^ (1 + k) ≡ m / 2 ^ k % 2 ^ 1 * 2 ^ k + m % 2 ^ k = mod-pow-add m 1 k in
    let e : 1 + k ≡ suc k = omega arith in
    rw (number_where-bits m k, worth m k) (sym (rw e at more ∙ omega arith))

module _ (words : List ℕ) (s i : ℕ) (low : i < 256) where
  -- bit j of the byte is flag i * 8 + j
  bit_of_byte : (j : ℕ) → j < 8 → set.contains (flags_of words) (s, i * 8 + j) ≡ (bit_at (get_or words ((s * 256 + i) / 8) 0 / 2 ^ ((s * 256 + i) % 8 * 8)) j == 1)
  bit_of_byte j below =
      let word : (s * 2048 + (i * 8 + j)) / 64 ≡ (s * 256 + i) / 8 = omega arith in
      let bit : (s * 2048 + (i * 8 + j)) % 64 ≡ (s * 256 + i) % 8 * 8 + j = omega arith in
      has_flag words s (i * 8 + j) (omega arith)
      ∙ rw (word, bit) (ap (λ m. m % 2 == 1) (sym (shr-shr (get_or words ((s * 256 + i) / 8) 0) ((s * 256 + i) % 8 * 8) j)))

  pub flag_byte : number_where (λ j. set.contains (flags_of words) (s, i * 8 + j)) 8 ≡ byte_of words (s * 256 + i)
  flag_byte = number_where-same _ _ 8 bit_of_byte ∙ number_where-bits (get_or words ((s * 256 + i) / 8) 0 / 2 ^ ((s * 256 + i) % 8 * 8)) 8

-- the bytes of the words are those of the flags
pub flag_bytes-words : (words : List ℕ) (s : ℕ) → map (λ i. byte_of words (8 * (s * 32) + i)) (range_with_len 0 256) ≡ flag_bytes (flags_of words) s
unfolding flag_bytes
flag_bytes-words words s =
    let first : 8 * (s * 32) ≡ s * 256 = omega arith in
    rw first
    (fill_by_all (λ i. number_where (λ j. set.contains (flags_of words) (s, i * 8 + j)) 8) (map (λ i. byte_of words (s * 256 + i)) (range_with_len 0 256)) 256 0
    (length-map-range_with_len (λ i. byte_of words (s * 256 + i)) 0 256)
    (λ k below. get_or-map-range_with_len (λ i. byte_of words (s * 256 + i)) 0 256 k k 0 below (omega arith) ∙ sym (flag_byte words s k below)))
