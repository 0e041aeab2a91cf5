-- One bit of words that is set or cleared.
use Rattle.std.proofs.Common.{◌≡◌, ℕ, suc, ◌+◌, ◌-◌, ◌*◌, ◌/◌, ◌%◌, ◌^◌, ◌<◌, ◌≤◌, true, false, not, ◌||◌, ◌&&◌, ◌==◌, List, length, get_or, set as list_set, arith, inl, inr, sym, refl, ap, ◌∙◌}
use Rattle.std.proofs.Common.{ne_eqb, eq-eqb, get_or-set_same, get_or-set_other, pow_pos}
use Rattle.std.specs.Int.{bit_at, leading_zeros, w64}
use lib.Count.{count_leading_zeros}
use native.Mathlib.Numerals.{unary_clauses}
use Rattle.std.specs.Int.RustNames.{bit_and, bit_or}
use Rattle.std.proofs.lemmas.Bool.{cases_eq, cases_lt}
use Rattle.std.proofs.lemmas.List.{get_or_past}
use Rattle.std.proofs.lemmas.Nat.{one_shl, leading_top, le-div, div_below}
use Rattle.std.proofs.lemmas.Nat.Bits.{and_pow, bit_at-lt, bit_at-zero, bit_at_above, bit_at_set_same, bit_at_set_other, bit_at_clear_same, bit_at_clear_other}
use Rattle.hv_mail.specs.Words.{has_bit}

-- what a written word has at its own place
module _ (words : List ℕ) (at word k : ℕ) (within : at / 64 < length words) where
  in_word : k / 64 ≡ at / 64 → get_or (list_set words (at / 64) word) (k / 64) 0 ≡ word
  in_word same = rw same (get_or-set_same words (at / 64) word 0 within)

  in_other : (k / 64 ≡ at / 64 → ⊥) → has_bit (list_set words (at / 64) word) k ≡ has_bit words k
  in_other apart = ap (λ n. bit_at n (k % 64) == 1) (get_or-set_other words (at / 64) (k / 64) word 0 apart)

-- `words[at / 64] |= 1 << (at % 64)`
pub bit_set : (words : List ℕ) (at k : ℕ) → at / 64 < length words
    → has_bit (list_set words (at / 64) (bit_or (get_or words (at / 64) 0) (1 * 2 ^ (at % 64) % 2 ^ 64))) k ≡ ((k == at) || has_bit words k)
bit_set words at k within =
    let n : ℕ = get_or words (at / 64) 0 in
    let word : ℕ = bit_or n (1 * 2 ^ (at % 64) % 2 ^ 64) in
    let low : at % 64 < 64 = omega arith in
    elim (cases_eq k at) [
      | inl same ↦ rw (same, eq-eqb at at refl) (ap (λ m. bit_at m (at % 64) == 1) (in_word words at word at within refl) ∙ ap (λ b. b == 1) (bit_at_set_same w64 n (at % 64) low))
      | inr apart ↦ rw (ne_eqb k at apart) (elim (cases_eq (k / 64) (at / 64)) [
        | inl same ↦
            ap (λ m. bit_at m (k % 64) == 1) (in_word words at word k within same)
            ∙ ap (λ b. b == 1) (bit_at_set_other w64 n (at % 64) low (k % 64) (λ e. apart (omega arith)))
            ∙ ap (λ i. bit_at (get_or words i 0) (k % 64) == 1) (sym same)
        | inr other ↦ in_other words at word k within other
      ])
    ]

-- `words[at / 64] &= !(1 << (at % 64))`
pub bit_cleared : (words : List ℕ) (at k : ℕ) → at / 64 < length words
    → has_bit (list_set words (at / 64) (bit_and (get_or words (at / 64) 0) (2 ^ 64 - 1 - 1 * 2 ^ (at % 64) % 2 ^ 64))) k ≡ (not (k == at) && has_bit words k)
bit_cleared words at k within =
    let n : ℕ = get_or words (at / 64) 0 in
    let word : ℕ = bit_and n (2 ^ 64 - 1 - 1 * 2 ^ (at % 64) % 2 ^ 64) in
    let low : at % 64 < 64 = omega arith in
    elim (cases_eq k at) [
      | inl same ↦ rw (same, eq-eqb at at refl) (ap (λ m. bit_at m (at % 64) == 1) (in_word words at word at within refl) ∙ ap (λ b. b == 1) (bit_at_clear_same w64 n (at % 64) low))
      | inr apart ↦ rw (ne_eqb k at apart) (elim (cases_eq (k / 64) (at / 64)) [
        | inl same ↦
            ap (λ m. bit_at m (k % 64) == 1) (in_word words at word k within same)
            ∙ ap (λ b. b == 1) (bit_at_clear_other w64 n (at % 64) low (k % 64) (omega arith) (λ e. apart (omega arith)))
            ∙ ap (λ i. bit_at (get_or words i 0) (k % 64) == 1) (sym same)
        | inr other ↦ in_other words at word k within other
      ])
    ]

-- `words[at / 64] & (1 << (at % 64)) == 0`
pub clear_tested : (words : List ℕ) (at : ℕ) → (bit_and (get_or words (at / 64) 0) (1 * 2 ^ (at % 64) % 2 ^ 64) == 0) ≡ not (has_bit words at)
clear_tested words at =
    let n : ℕ = get_or words (at / 64) 0 in
    let j : ℕ = at % 64 in
    let below : bit_at n j < 2 = bit_at-lt n j in
    let masked : bit_and n (1 * 2 ^ j % 2 ^ 64) ≡ bit_at n j * 2 ^ j = ap (bit_and n) (one_shl j 64 (omega arith)) ∙ and_pow n j in
    elim (cases_eq (bit_at n j) 0) [
      | inl zero ↦ rw zero (eq-eqb _ 0 (masked ∙ ap (λ b. b * 2 ^ j) zero ∙ omega arith))
      | inr one ↦
          let is : bit_at n j ≡ 1 = omega arith in
          rw is (ne_eqb _ 0 (λ e. omega (arith, sym e ∙ masked ∙ ap (λ b. b * 2 ^ j) is, pow_pos j)))
    ]

-- all bits of the words from place n on are 0
abbrev pub IsClearFrom : List ℕ → ℕ → Type 0
IsClearFrom words n = (k : ℕ) → n ≤ k → has_bit words k ≡ false

-- no bit past the words is 1
pub clear_past : (words : List ℕ) (n : ℕ) → 64 * length words ≤ n → IsClearFrom words n
clear_past words n past k above =
    ap (λ m. bit_at m (k % 64) == 1) (get_or_past words (k / 64) 0 (omega arith)) ∙ ap (λ b. b == 1) (bit_at-zero (k % 64))

-- a word that is 0 has no bit
pub clear_word : (words : List ℕ) (n : ℕ) → get_or words n 0 ≡ 0 → IsClearFrom words (64 * (n + 1)) → IsClearFrom words (64 * n)
clear_word words n zero above k from =
    elim (cases_lt k (64 * (n + 1))) [
      | inl here ↦
          let place : k / 64 ≡ n = omega arith in
          ap (λ i. bit_at (get_or words i 0) (k % 64) == 1) place ∙ ap (λ m. bit_at m (k % 64) == 1) zero ∙ ap (λ b. b == 1) (bit_at-zero (k % 64))
      | inr past ↦ above k past
    ]

-- the highest bit of a word that is not 0
module _ (words : List ℕ) (n word : ℕ) (is : word ≡ get_or words n 0) (some : 0 < word) (fits : word < 2 ^ 64) where
  top : ℕ
  top = 63 - leading_zeros w64 word

  top_at : (top < 64) × (2 ^ top ≤ word) × (word < 2 ^ suc top)
  unfolding top
  top_at =
      let t = leading_top 64 word some fits in
      let j : 63 - count_leading_zeros 64 word ≡ t.0 = omega (arith, t.1) in
      (omega (arith, t.1), rw j t.2, rw j t.3)

  place_at : (n * 64 + top) / 64 ≡ n
  place_at = omega (arith, top_at.0)

  bit_place : (n * 64 + top) % 64 ≡ top
  bit_place = omega (arith, top_at.0)

  top_bit : bit_at word top ≡ 1
  top_bit =
      let least : 1 ≤ word / 2 ^ top = le-div 1 word (2 ^ top) (pow_pos top) (omega (arith, top_at.1)) in
      let below : word / 2 ^ top < 2 = div_below word (2 ^ top) 2 (pow_pos top) (omega (arith, simp unary_clauses at top_at.2)) in
      let one : word / 2 ^ top ≡ 1 = omega arith in
      ap (λ q. q % 2) one

  pub top_is_set : has_bit words (n * 64 + (63 - leading_zeros w64 word)) ≡ true
  unfolding top
  top_is_set =
      ap (λ i. bit_at (get_or words i 0) ((n * 64 + top) % 64) == 1) place_at
      ∙ ap (λ b. bit_at (get_or words n 0) b == 1) bit_place
      ∙ ap (λ m. bit_at m top == 1) (sym is) ∙ ap (λ b. b == 1) top_bit

  pub clear_above_top : IsClearFrom words (64 * (n + 1)) → IsClearFrom words (n * 64 + (63 - leading_zeros w64 word) + 1)
  unfolding top
  clear_above_top above k from =
      elim (cases_lt k (64 * (n + 1))) [
        | inl here ↦
            let place : k / 64 ≡ n = omega arith in
            ap (λ i. bit_at (get_or words i 0) (k % 64) == 1) place ∙ ap (λ m. bit_at m (k % 64) == 1) (sym is)
            ∙ ap (λ b. b == 1) (bit_at_above word (suc top) (k % 64) top_at.2 (omega (arith, top_at.0)))
        | inr past ↦ above k past
      ]
