-- What is in a set that is kept as bits.
use Rattle.std.proofs.Common.{◌≡◌, ℕ, zero, suc, ◌*◌, ◌/◌, ◌%◌, ◌<◌, ◌≤◌, Bool, true, false, not, cond, ◌||◌, ◌&&◌, ◌==◌, nat_lt, Some, None, List, length, get_or, replicate, arith, inl, inr, sym}
use Rattle.std.proofs.Common.{refl, ap, ◌∙◌, nat_cmp, Ordering, ne_eqb, eq-eqb, lt-ltb, le-ltb}
use Rattle.std.specs.Int.{bit_at}
use Rattle.std.specs.Ordering.{eq_by_cmp}
use Rattle.std.specs.Cmp.{IsTotalOrder, nat_cmp_total, unsigned_tied}
use Rattle.std.specs.FinSet as set
use Rattle.std.specs.FinSet.{nat_cmp-IsAntisymmetric, contains-empty, contains-insert, contains-remove, same_set}
use Rattle.std.proofs.lemmas.Bool.{both_ways, cases_lt, cases_eq, and_right}
use Rattle.std.proofs.lemmas.List.{get_or_past, get_or-replicate, length-replicate}
use Rattle.std.proofs.lemmas.Nat.Bits.{bit_at-zero}
use Rattle.hv_defs.specs.Vectors.{highest, highest_below}
use Rattle.hv_mail.specs.Words.{has_bit, keys_where, numbers_of}

-- one place more
one_more : (fits : Bool) (test : ℕ → Bool) (place n : ℕ) (b : Bool) → test n ≡ b
    → (cond b (fits && (place == n)) false || (fits && (nat_lt place n && test place))) ≡ (fits && (nat_lt place (suc n) && test place))
one_more false test place n true is = refl
one_more false test place n false is = refl
one_more true test place n b is =
    elim (cases_eq place n) [
      | inl same ↦ rw (same, eq-eqb n n refl, le-ltb n n (omega arith), lt-ltb n (suc n) (omega arith), is) (elim b as (λ c. (cond c true false || false) ≡ c) [ true ↦ refl | false ↦ refl ])
      | inr apart ↦ rw (ne_eqb place n apart) (elim (cases_lt place n) [
        | inl below ↦ rw (lt-ltb place n below, lt-ltb place (suc n) (omega arith)) (elim b as (λ c. (cond c false false || test place) ≡ test place) [ true ↦ refl | false ↦ refl ])
        | inr above ↦ rw (le-ltb place n above, le-ltb place (suc n) (omega arith)) (elim b as (λ c. (cond c false false || false) ≡ false) [ true ↦ refl | false ↦ refl ])
      ])
    ]

module _ {K : Type 0} (R : K → K → Ordering) (o : IsTotalOrder R) (key : ℕ → K) (test : ℕ → Bool) where
  contains-chosen : (b : Bool) (s : set.FinSet R) (k q : K) → set.contains (cond b (set.insert s k) s) q ≡ (cond b (eq_by_cmp R q k) false || set.contains s q)
  contains-chosen true s k q = contains-insert o s k q
  contains-chosen false s k q = refl

  -- a key stands there where its place is below n and passes, if each key has the one place
  pub contains-keys_where : (q : K) (fits : Bool) (place : ℕ) → ((i : ℕ) → eq_by_cmp R q (key i) ≡ (fits && (place == i))) → (n : ℕ)
      → set.contains (keys_where R key test n) q ≡ (fits && (nat_lt place n && test place))
  unfolding keys_where
  contains-keys_where q fits place tied zero = contains-empty R q ∙ sym (and_right fits _ (ap (λ b. b && test place) (le-ltb place 0 (omega arith))))
  contains-keys_where q fits place tied (suc n) =
      contains-chosen (test n) (keys_where R key test n) (key n) q
      ∙ ap (λ t. cond (test n) t false || set.contains (keys_where R key test n) q) (tied n)
      ∙ ap (λ c. cond (test n) (fits && (place == n)) false || c) (contains-keys_where q fits place tied n)
      ∙ one_more fits test place n (test n) refl

-- no bit past the words is 1
pub bit_past : (words : List ℕ) (k : ℕ) → 64 * length words ≤ k → has_bit words k ≡ false
bit_past words k past = ap (λ n. bit_at n (k % 64) == 1) (get_or_past words (k / 64) 0 (omega arith)) ∙ ap (λ b. b == 1) (bit_at-zero (k % 64))

pub below_or_not : (words : List ℕ) (k : ℕ) → (nat_lt k (64 * length words) && has_bit words k) ≡ has_bit words k
below_or_not words k =
    elim (cases_lt k (64 * length words)) [
      | inl below ↦ rw (lt-ltb k (64 * length words) below) refl
      | inr past ↦ rw (bit_past words k past) (and_right _ false refl)
    ]

-- what is in the set is what the bits say
pub contains-numbers_of : (words : List ℕ) (q : ℕ) → set.contains (numbers_of words) q ≡ has_bit words q
unfolding numbers_of
contains-numbers_of words q =
    contains-keys_where nat_cmp nat_cmp_total (λ k. k) (has_bit words) q true q (λ i. unsigned_tied q i) (64 * length words) ∙ below_or_not words q

-- a set with one bit more, and with one less
pub numbers_of-insert : (words new : List ℕ) (at : ℕ) → ((k : ℕ) → has_bit new k ≡ ((k == at) || has_bit words k)) → numbers_of new ≡ set.insert (numbers_of words) at
numbers_of-insert words new at bits =
    same_set nat_cmp_total nat_cmp-IsAntisymmetric _ _
    (λ q. contains-numbers_of new q ∙ bits q ∙ sym (contains-insert nat_cmp_total (numbers_of words) at q ∙ rw (unsigned_tied q at, contains-numbers_of words q) refl))

pub numbers_of-remove : (words new : List ℕ) (at : ℕ) → ((k : ℕ) → has_bit new k ≡ (not (k == at) && has_bit words k)) → numbers_of new ≡ set.remove (numbers_of words) at
numbers_of-remove words new at bits =
    same_set nat_cmp_total nat_cmp-IsAntisymmetric _ _
    (λ q. contains-numbers_of new q ∙ bits q ∙ sym (contains-remove nat_cmp_total (numbers_of words) at q ∙ rw (unsigned_tied q at, contains-numbers_of words q) refl))

-- words that are all 0 have no bit
pub zero_words : (n k : ℕ) → has_bit (replicate n 0) k ≡ false
zero_words n k =
    let zero : get_or (replicate n 0) (k / 64) 0 ≡ 0 = elim (cases_lt (k / 64) n) [
      | inl within ↦ get_or-replicate n (k / 64) 0 0 within
      | inr past ↦ get_or_past (replicate n 0) (k / 64) 0 (omega (arith, length-replicate {A = ℕ} n 0))
    ] in
    ap (λ m. bit_at m (k % 64) == 1) zero ∙ ap (λ b. b == 1) (bit_at-zero (k % 64))

-- the set of words without a bit
pub numbers_of-none : (words : List ℕ) → ((k : ℕ) → has_bit words k ≡ false) → numbers_of words ≡ set.empty
numbers_of-none words none = same_set nat_cmp_total nat_cmp-IsAntisymmetric _ _ (λ q. contains-numbers_of words q ∙ none q ∙ sym (contains-empty nat_cmp q))

-- the highest member below n, and that there is none
highest_below-is : (s : set.FinSet nat_cmp) (at n : ℕ) → at < n → set.contains s at ≡ true → ((k : ℕ) → at < k → set.contains s k ≡ false) → highest_below n s ≡ Some at
unfolding highest_below
highest_below-is s at zero less held above = absurd (omega arith)
highest_below-is s at (suc n) less held above =
    elim (cases_eq at n) [
      | inl same ↦ ap (λ k. cond (set.contains s k) (Some k) (highest_below n s)) (sym same) ∙ ap (λ b. cond b (Some at) (highest_below n s)) held
      | inr apart ↦ ap (λ b. cond b (Some n) (highest_below n s)) (above n (omega arith)) ∙ highest_below-is s at n (omega arith) held above
    ]

highest_below-none : (s : set.FinSet nat_cmp) (n : ℕ) → ((k : ℕ) → set.contains s k ≡ false) → highest_below n s ≡ None
unfolding highest_below
highest_below-none s zero none = refl
highest_below-none s (suc n) none = ap (λ b. cond b (Some n) (highest_below n s)) (none n) ∙ highest_below-none s n none

-- the highest bit of the words is the highest member
pub highest_of : (words : List ℕ) (at : ℕ) → at < 256 → has_bit words at ≡ true → ((k : ℕ) → at < k → has_bit words k ≡ false) → highest (numbers_of words) ≡ Some at
highest_of words at low one above =
    highest_below-is (numbers_of words) at 256 low (contains-numbers_of words at ∙ one) (λ k higher. contains-numbers_of words k ∙ above k higher)

pub highest_of-none : (words : List ℕ) → ((k : ℕ) → has_bit words k ≡ false) → highest (numbers_of words) ≡ None
highest_of-none words none = highest_below-none (numbers_of words) 256 (λ k. contains-numbers_of words k ∙ none k)

-- a bit that is 1 stands within the words
pub bit_within : (words : List ℕ) (k : ℕ) → has_bit words k ≡ true → k < 64 * length words
bit_within words k one =
    elim (cases_lt k (64 * length words)) [
      | inl below ↦ below
      | inr past ↦ absurd (both_ways _ (bit_past words k past) one)
    ]
