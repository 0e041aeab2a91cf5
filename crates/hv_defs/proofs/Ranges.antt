-- Sets of the numbers from one up to another, and lists of these.
use Rattle.std.proofs.Common.{◌≡◌, ℕ, zero, suc, ◌+◌, ◌<◌, ◌≤◌, ◌==◌, inl, inr, false, ◌&&◌, ◌||◌, nat_le, nat_lt, refl, sym, ap, ◌∙◌, arith, eq-eqb, ne_eqb, lt-ltb, le-ltb, le-leb, nat_cmp}
use Rattle.std.proofs.lemmas.Bool.{lt-leb, cases_lt, cases_eq}
use Rattle.std.specs.Cmp.{nat_cmp_total, unsigned_tied}
use Rattle.std.specs.FinSet.{FinSet, empty, contains, insert, len, contains-empty, contains-insert, len-empty, len-insert}
use Rattle.std.specs.List.{list_any, range_with_len}

-- the set holds the numbers from low on and below high, and so as many as there are of these
pub record IsRange (s : FinSet nat_cmp) (low high : ℕ) : Type 0 where
  pub members : (k : ℕ) → contains s k ≡ nat_le low k && nat_lt k high
  pub count : len s + low ≡ high

pub beneath : (low high k : ℕ) → k < low → (nat_le low k && nat_lt k high) ≡ false
beneath low high k h = ap (λ b. b && nat_lt k high) (lt-leb low k h)

pub within : (low high k : ℕ) → low ≤ k → (nat_le low k && nat_lt k high) ≡ nat_lt k high
within low high k h = ap (λ b. b && nat_lt k high) (le-leb low k h)

pub beyond : (low high k : ℕ) → high ≤ k → (nat_le low k && nat_lt k high) ≡ false
beyond low high k h = elim (cases_lt k low) [
  | inl lt ↦ beneath low high k lt
  | inr le ↦ within low high k le ∙ le-ltb k high h
]

-- one number more below the others
lower : (low next high k : ℕ) → low + 1 ≡ next → next ≤ high → ((k == low) || (nat_le next k && nat_lt k high)) ≡ nat_le low k && nat_lt k high
lower low next high k e h = elim (cases_eq k low) [
  | inl is ↦ ap (λ b. b || (nat_le next k && nat_lt k high)) (eq-eqb k low is) ∙ sym (within low high k (omega arith) ∙ lt-ltb k high (omega arith))
  | inr ne ↦ ap (λ b. b || (nat_le next k && nat_lt k high)) (ne_eqb k low ne) ∙ (elim (cases_lt k low) [
    | inl lt ↦ beneath next high k (omega arith) ∙ sym (beneath low high k lt)
    | inr le ↦ within next high k (omega (arith, ne)) ∙ sym (within low high k le)
  ])
]

-- one number more above the others
upper : (low high next k : ℕ) → high + 1 ≡ next → low ≤ high → ((k == high) || (nat_le low k && nat_lt k high)) ≡ nat_le low k && nat_lt k next
upper low high next k e h = elim (cases_eq k high) [
  | inl is ↦ ap (λ b. b || (nat_le low k && nat_lt k high)) (eq-eqb k high is) ∙ sym (within low next k (omega arith) ∙ lt-ltb k next (omega arith))
  | inr ne ↦ ap (λ b. b || (nat_le low k && nat_lt k high)) (ne_eqb k high ne) ∙ (elim (cases_lt k high) [
    | inl lt ↦ ap (λ b. nat_le low k && b) (lt-ltb k high lt ∙ sym (lt-ltb k next (omega arith)))
    | inr le ↦ beyond low high k le ∙ sym (beyond low next k (omega (arith, ne)))
  ])
]

-- the empty set holds the numbers from one up to itself
pub no_range : (s : FinSet nat_cmp) (n : ℕ) → s ≡ empty → IsRange s n n
no_range s n e = record {
  members = λ k. ap (λ t. contains t k) e ∙ contains-empty nat_cmp k ∙ sym (elim (cases_lt k n) [ inl lt ↦ beneath n n k lt | inr le ↦ beyond n n k le ]);
  count = let none = ap len e ∙ len-empty nat_cmp in omega arith;
}

one_more : (s : FinSet nat_cmp) (k : ℕ) → contains s k ≡ false → len (insert s k) ≡ len s + 1
one_more s k new = len-insert nat_cmp_total s k ∙ rw new refl

-- the set with the number after its last
pub range_upper : (s t : FinSet nat_cmp) (low high next : ℕ) → high + 1 ≡ next → IsRange s low high → t ≡ insert s high → IsRange t low next
range_upper s t low high next e range made =
    let counted = range.count in
    let longer = ap len made ∙ one_more s high (range.members high ∙ beyond low high high (omega arith)) in
    record {
      members = λ k. ap (λ u. contains u k) made ∙ contains-insert nat_cmp_total s high k ∙ ap (λ b. b || contains s k) (unsigned_tied k high) ∙ ap (λ b. (k == high) || b) (range.members k) ∙ upper
          low high next k e (omega arith);
      count = omega arith;
    }

-- which numbers the list of the numbers from one on has
pub listed_range : (a n q : ℕ) → list_any (λ k. q == k) (range_with_len a n) ≡ nat_le a q && nat_lt q (a + n)
listed_range a zero q = sym (elim (cases_lt q a) [ inl lt ↦ beneath a (a + 0) q lt | inr le ↦ beyond a (a + 0) q (omega arith) ])
listed_range a (suc n) q =
    let e : a + 1 + n ≡ a + suc n = omega arith in
    ap (λ b. (q == a) || b) (listed_range (a + 1) n q ∙ ap (λ m. nat_le (a + 1) q && nat_lt q m) e) ∙ lower a (a + 1) (a + suc n) q refl (omega arith)

-- the list of the numbers from 0 on has those below its length
pub listed_below : (n q : ℕ) → list_any (λ k. q == k) (range_with_len 0 n) ≡ nat_lt q n
listed_below n q = let e : 0 + n ≡ n = omega arith in listed_range 0 n q ∙ ap (λ m. nat_le 0 q && nat_lt q m) e ∙ within 0 n q (omega arith)
