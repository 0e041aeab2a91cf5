-- What is in a set of pairs that is kept as bits.
use Rattle.std.proofs.Common.{◌≡◌, ℕ, ◌+◌, ◌*◌, ◌/◌, ◌%◌, ◌<◌, Bool, true, false, not, ◌||◌, ◌&&◌, ◌==◌, nat_lt, List, length, arith, sym, refl, ap, ◌∙◌, nat_cmp, lt-ltb}
use Rattle.std.specs.Ordering.{eq_by_cmp}
use Rattle.std.specs.Cmp.{IsTotalOrder, nat_cmp_total, unsigned_tied, on_total, then_total, tied_then}
use Rattle.std.specs.FinSet as set
use Rattle.std.specs.FinSet.{IsAntisymmetric, nat_cmp-IsAntisymmetric, contains-empty, contains-insert, contains-remove, same_set}
use Rattle.std.proofs.lemmas.Bool.{and_right}
use Rattle.std.proofs.lemmas.Bool.Decides.{nat_tests}
use Rattle.std.proofs.lemmas.Map.Lookups.{exact_pairs}
use Rattle.hv_defs.specs.Flags.{pair_cmp}
use Rattle.hv_mail.specs.Flags.{flags_of}
use Rattle.hv_mail.specs.Words.{has_bit}
use Rattle.hv_mail.proofs.Members.{contains-keys_where, below_or_not}

pub pair_cmp_total : IsTotalOrder pair_cmp
pair_cmp_total = then_total (on_total (λ (p : ℕ × ℕ). p.0) nat_cmp_total) (on_total (λ (p : ℕ × ℕ). p.1) nat_cmp_total)

-- only equal pairs tie
pub pair_cmp_exact : IsAntisymmetric pair_cmp
pair_cmp_exact = exact_pairs nat_cmp nat_cmp nat_cmp-IsAntisymmetric nat_cmp-IsAntisymmetric

pub tied_pairs : (a i b j : ℕ) → eq_by_cmp pair_cmp (a, i) (b, j) ≡ ((a == b) && (i == j))
tied_pairs a i b j = sym (tied_then (nat_cmp a b) (nat_cmp i j)) ∙ rw (unsigned_tied a b, unsigned_tied i j) refl

-- a pair ties with that of a place where it has that place
tied_place : (s f k : ℕ) → ((s == k / 2048) && (f == k % 2048)) ≡ (nat_lt f 2048 && (s * 2048 + f == k))
tied_place s f k = grind (arith, nat_tests)

-- what is in the set is what the bits say
pub contains-flags_of : (words : List ℕ) (s f : ℕ) → set.contains (flags_of words) (s, f) ≡ (nat_lt f 2048 && has_bit words (s * 2048 + f))
unfolding flags_of
contains-flags_of words s f =
    contains-keys_where pair_cmp pair_cmp_total (λ k. (k / 2048, k % 2048)) (has_bit words) (s, f) (nat_lt f 2048) (s * 2048 + f)
    (λ i. tied_pairs s f (i / 2048) (i % 2048) ∙ tied_place s f i) (64 * length words)
    ∙ ap (λ b. nat_lt f 2048 && b) (below_or_not words (s * 2048 + f))

-- of a flag with a number below 2048
pub has_flag : (words : List ℕ) (s f : ℕ) → f < 2048 → set.contains (flags_of words) (s, f) ≡ has_bit words (s * 2048 + f)
has_flag words s f low = contains-flags_of words s f ∙ ap (λ b. b && has_bit words (s * 2048 + f)) (lt-ltb f 2048 low)

same_place : (s f t g : ℕ) → g < 2048 → (nat_lt f 2048 && (s * 2048 + f == t * 2048 + g)) ≡ ((s == t) && (f == g))
same_place s f t g low = grind (arith, nat_tests)

both_flags : (fits a b c : Bool) → (fits && a) ≡ c → (fits && (a || b)) ≡ (c || (fits && b))
both_flags true a b c e = ap (λ d. d || b) e
both_flags false a b c e = ap (λ d. d || false) e

neither_flag : (fits a b c : Bool) → (fits && a) ≡ c → (fits && (not a && b)) ≡ (not c && (fits && b))
neither_flag true a b c e = ap (λ d. not d && b) e
neither_flag false a b c e = sym (and_right (not c) false refl)

-- a set with one bit more, and with one less
module _ (words new : List ℕ) (sint flag : ℕ) (low : flag < 2048) where
  pub flags_of-insert : ((k : ℕ) → has_bit new k ≡ ((k == sint * 2048 + flag) || has_bit words k)) → flags_of new ≡ set.insert (flags_of words) (sint, flag)
  flags_of-insert bits =
      same_set pair_cmp_total pair_cmp_exact _ _
      (λ q. contains-flags_of new q.0 q.1 ∙ ap (λ b. nat_lt q.1 2048 && b) (bits (q.0 * 2048 + q.1))
      ∙ both_flags (nat_lt q.1 2048) _ _ _ (same_place q.0 q.1 sint flag low)
      ∙ sym (contains-insert pair_cmp_total (flags_of words) (sint, flag) q ∙ rw (tied_pairs q.0 q.1 sint flag, contains-flags_of words q.0 q.1) refl))

  pub flags_of-remove : ((k : ℕ) → has_bit new k ≡ (not (k == sint * 2048 + flag) && has_bit words k)) → flags_of new ≡ set.remove (flags_of words) (sint, flag)
  flags_of-remove bits =
      same_set pair_cmp_total pair_cmp_exact _ _
      (λ q. contains-flags_of new q.0 q.1 ∙ ap (λ b. nat_lt q.1 2048 && b) (bits (q.0 * 2048 + q.1))
      ∙ neither_flag (nat_lt q.1 2048) _ _ _ (same_place q.0 q.1 sint flag low)
      ∙ sym (contains-remove pair_cmp_total (flags_of words) (sint, flag) q ∙ rw (tied_pairs q.0 q.1 sint flag, contains-flags_of words q.0 q.1) refl))

-- the set of words without a bit
pub flags_of-none : (words : List ℕ) → ((k : ℕ) → has_bit words k ≡ false) → flags_of words ≡ set.empty
flags_of-none words none =
    same_set pair_cmp_total pair_cmp_exact _ _
    (λ q. contains-flags_of words q.0 q.1 ∙ and_right _ _ (none (q.0 * 2048 + q.1)) ∙ sym (contains-empty pair_cmp q))
