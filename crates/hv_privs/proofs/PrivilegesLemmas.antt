-- The bits of a mask, one by one.
use Rattle.std.proofs.Common.{◌≡◌, ℕ, ◌*◌, ◌^◌, ◌<◌, min, IsTrue, ◌↔◌, arith, ap, sym, ◌∙◌, eq-eqb, eqb-true, pow_pos}
use Rattle.std.proofs.lemmas.Nat.Bits.{and_pow, bit_at_and, bit_at-lt, same_from_bits}
use Rattle.std.specs.Int.{bit_at, IsBitSet}
use Rattle.std.specs.Int.RustNames.{bit_and}
use Rattle.hv_privs.specs.declared.Privileges.{Privileges}
use Rattle.hv_privs.specs.Privileges.{IsSubset, contains, HasBit, restrict}

-- a bit that is set is 1, and the other way round
bit_at-set : (n k : ℕ) → IsBitSet n k → bit_at n k ≡ 1
bit_at-set n k set =
    let unless_zero : bit_at n k ≡ 0 → ⊥ = λ zero. set (and_pow n k ∙ ap (λ bit. bit * 2 ^ k) zero ∙ omega arith) in
    let below : bit_at n k < 2 = bit_at-lt n k in
    omega (arith, unless_zero, below)

set-bit_at : (n k : ℕ) → bit_at n k ≡ 1 → IsBitSet n k
set-bit_at n k one clear =
    let whole : 1 * 2 ^ k ≡ 0 = sym (ap (λ bit. bit * 2 ^ k) one) ∙ sym (and_pow n k) ∙ clear in
    omega (arith, whole, pow_pos k)

-- a bit of `a & b` is one of both
and-set : (a b k : ℕ) → bit_at (bit_and a b) k ≡ 1 → (bit_at a k ≡ 1) × (bit_at b k ≡ 1)
and-set a b k one =
    let least : min (bit_at a k) (bit_at b k) ≡ 1 = sym (bit_at_and a b k) ∙ one in
    let a_below : bit_at a k < 2 = bit_at-lt a k in
    let b_below : bit_at b k < 2 = bit_at-lt b k in
    (omega (arith, least, a_below, b_below), omega (arith, least, a_below, b_below))

-- the test `contains` says whether each bit is set
pub contains-IsSubset : (mask other : Privileges) → IsTrue (contains mask other) ↔ IsSubset other mask
contains-IsSubset mask other = (
  (λ holds k set.
      let same : bit_and mask.0 other.0 ≡ other.0 = eqb-true _ _ holds in
      set-bit_at mask.0 k (and-set mask.0 other.0 k (ap (λ n. bit_at n k) same ∙ bit_at-set other.0 k set)).0),
  (λ subset. eq-eqb _ _ (same_from_bits _ _ (λ k.
      let kept : bit_at other.0 k ≡ 1 → bit_at mask.0 k ≡ 1 = λ one. bit_at-set mask.0 k (subset k (set-bit_at other.0 k one)) in
      let least : bit_at (bit_and mask.0 other.0) k ≡ min (bit_at mask.0 k) (bit_at other.0 k) = bit_at_and mask.0 other.0 k in
      let below : bit_at other.0 k < 2 = bit_at-lt other.0 k in
      let mask_below : bit_at mask.0 k < 2 = bit_at-lt mask.0 k in
      grind (arith, kept, least, below, mask_below)))),
)

-- `restrict` keeps the bits that both have
pub restrict-HasBit : (mask to : Privileges) (k : ℕ) → HasBit (restrict mask to) k ↔ (HasBit mask k × HasBit to k)
restrict-HasBit mask to k = (
  (λ set.
      let both = and-set mask.0 to.0 k (bit_at-set _ k set) in
      (set-bit_at mask.0 k both.0, set-bit_at to.0 k both.1)),
  (λ both.
      let in_mask : bit_at mask.0 k ≡ 1 = bit_at-set mask.0 k both.0 in
      let in_to : bit_at to.0 k ≡ 1 = bit_at-set to.0 k both.1 in
      set-bit_at _ k (bit_at_and mask.0 to.0 k ∙ omega (arith, in_mask, in_to))),
)
