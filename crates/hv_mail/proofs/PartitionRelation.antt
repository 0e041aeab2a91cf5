-- Show at each SINT, one after the other, and the bits that tell where a message became shown.
use Rattle.std.proofs.Common.{◌≡◌, ℕ, zero, suc, ◌+◌, ◌*◌, ◌/◌, ◌%◌, ◌^◌, ◌<◌, ◌≤◌, ◌==◌, ◌&&◌, nat_lt, Bool, true, false, not, cond, inl, inr, refl, sym, ap, subst, ◌∙◌, arith, add-one, ne_eqb}
use Rattle.std.proofs.Common.{lt-ltb, le-ltb}
use Rattle.std.specs.Int.{bit_at, w16}
use Rattle.std.specs.Int.RustNames.{bit_or}
use Rattle.std.proofs.lemmas.Bool.{false≢true, cases_eq, cases_lt}
use Rattle.std.proofs.lemmas.Nat.Bits.{bit_at-zero, bit_at_above, bit_at_set_same, bit_at_set_other}
use Rattle.std.proofs.Math.Nat.{lt-mul-div-succ}
use Rattle.hv_mail.proofs.Rows.{at-with_at}
use Rattle.hv_mail.specs.Mail.{Mail, all_next, at, with_at, with_next}

-- Show at the first SINTs: none of them
pub all_next-zero : (mail : Mail) → all_next 0 mail ≡ mail
unfolding all_next
all_next-zero mail = refl

-- and one more
pub all_next-more : (sint : ℕ) (first mail : Mail) → mail ≡ all_next sint first → with_at mail sint (with_next (at mail sint)) ≡ all_next
    (sint + 1) first
unfolding all_next
all_next-more sint first mail is = ap (λ m. with_at m sint (with_next (at m sint))) is ∙ ap (λ n. all_next n first) (sym (add-one sint))

-- at the others stands what stood there
pub at-all_next : (n : ℕ) (mail : Mail) (k : ℕ) → n ≤ k → at (all_next n mail) k ≡ at mail k
unfolding all_next
at-all_next zero mail k above = refl
at-all_next (suc n) mail k above =
    let there = with_next (at (all_next n mail) n) in
    at-with_at (all_next n mail) n there k ∙ ap (λ b. cond b there (at (all_next n mail) k)) (ne_eqb k n (λ e. omega (arith, e)))
    ∙ at-all_next n mail k (omega arith)

-- where Show changes nothing at the further SINTs, it is done
pub all_next-rest : (d sint : ℕ) (first mail : Mail) → mail ≡ all_next sint first
    → ((k : ℕ) → sint ≤ k → k < sint + d → with_at mail k (with_next (at mail k)) ≡ mail) → mail ≡ all_next (sint + d) first
all_next-rest zero sint first mail is stays = is ∙ ap (λ n. all_next n first) (omega arith)
all_next-rest (suc d) sint first mail is stays =
    let so_far = all_next-rest d sint first mail is (λ k from to. stays k from (omega arith)) in
    sym (stays (sint + d) (omega arith) (omega arith)) ∙ all_next-more (sint + d) first mail so_far ∙ ap (λ n. all_next n first) (omega arith)

-- a number that isn't told from zero is zero
pub is_none : (n : ℕ) → not (n == 0) ≡ false → n ≡ 0
is_none n idle =
    elim (cases_eq n 0) [
      | inl is ↦ is
      | inr apart ↦ absurd (false≢true (sym idle ∙ ap not (ne_eqb n 0 apart)))
    ]

positive : (n : ℕ) → 0 < 2 ^ n
positive zero = omega arith
positive (suc n) = let below = positive n in omega arith

-- a number whose bits from one on are none has none of them
pub no_bits_from : (mask sint k : ℕ) → mask / 2 ^ sint ≡ 0 → sint ≤ k → bit_at mask k ≡ 0
no_bits_from mask sint k none from =
    let fits : mask < 2 ^ sint * (mask / 2 ^ sint + 1) = lt-mul-div-succ mask (positive sint) in
    let one : mask < 2 ^ sint * 1 = subst (λ n. mask < 2 ^ sint * (n + 1)) none fits in
    bit_at_above mask sint k (omega (arith, one)) from

-- the bits so far are all, where no further SINT passes the test
pub rest_keeps : (test : ℕ → Bool) (shown sint : ℕ) → ((k : ℕ) → k < 16 → (bit_at shown k == 1) ≡ (nat_lt k sint && test k))
    → ((k : ℕ) → sint ≤ k → k < 16 → test k ≡ false) → (k : ℕ) → k < 16 → (bit_at shown k == 1) ≡ test k
rest_keeps test shown sint so_far none k low =
    elim (cases_lt k sint) [
      | inl below ↦ so_far k low ∙ ap (λ b. b && test k) (lt-ltb k sint below)
      | inr past ↦ so_far k low ∙ ap (λ b. b && test k) (le-ltb k sint past) ∙ sym (none k past low)
    ]

-- no bit is set at first
pub none_set : (test : ℕ → Bool) (k : ℕ) → (bit_at 0 k == 1) ≡ (nat_lt k 0 && test k)
none_set test k = rw (bit_at-zero k, le-ltb k 0 (omega arith)) refl

-- a mask of 16 bits has no bit from 16 on
pub no_bit_above : (mask k : ℕ) → mask < 2 ^ 16 → 16 ≤ k → (bit_at mask k == 1) ≡ false
no_bit_above mask k fits past = ap (λ n. n == 1) (bit_at_above mask 16 k fits past)

-- the bits of the SINTs below one, and then with its own
module _ (test : ℕ → Bool) (shown sint : ℕ) (fits : sint < 16) (so_far : (k : ℕ) → k < 16 → (bit_at shown k == 1) ≡ (nat_lt k sint && test k)) where
  other : (k : ℕ) → (k ≡ sint → ⊥) → (nat_lt k sint && test k) ≡ (nat_lt k (sint + 1) && test k)
  other k apart =
      elim (cases_lt k sint) [
        | inl below ↦ rw (lt-ltb k sint below, lt-ltb k (sint + 1) (omega arith)) refl
        | inr past ↦ rw (le-ltb k sint past, le-ltb k (sint + 1) (omega arith)) refl
      ]

  pub set_more : test sint ≡ true → (k : ℕ) → k < 16 → (bit_at (bit_or shown (1 * 2 ^ sint % 2 ^ 16)) k == 1) ≡ (nat_lt k (sint + 1) && test k)
  set_more is k low =
      elim (cases_eq k sint) [
        | inl same ↦ rw (same, bit_at_set_same w16 shown sint fits, lt-ltb sint (sint + 1) (omega arith), is) refl
        | inr apart ↦ ap (λ b. b == 1) (bit_at_set_other w16 shown sint fits k apart) ∙ so_far k low ∙ other k apart
      ]

  pub keep_more : test sint ≡ false → (k : ℕ) → k < 16 → (bit_at shown k == 1) ≡ (nat_lt k (sint + 1) && test k)
  keep_more is k low =
      elim (cases_eq k sint) [
        | inl same ↦ so_far k low ∙ rw (same, le-ltb sint sint (omega arith), lt-ltb sint (sint + 1) (omega arith), is) refl
        | inr apart ↦ so_far k low ∙ other k apart
      ]
