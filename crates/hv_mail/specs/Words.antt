-- Sets that are kept as bits of words.
use Rattle.std.specs.Prelude.{ℕ, zero, suc, ◌*◌, ◌/◌, ◌%◌, ◌^◌, ◌==◌, Bool, cond, List, length, slice_index}
use Rattle.std.specs.Int.{bit_at}
use Rattle.std.specs.Ordering.{nat_cmp}
use Rattle.std.specs.declared.cmp.Ordering.{Ordering}
use Rattle.std.specs.FinSet as set
use Rattle.hv_defs.specs.Vectors.{VectorSet}

-- bit k, which is bit k % 64 of word k / 64, is 1. No bit past the words is
abbrev pub has_bit : List ℕ → ℕ → Bool
has_bit words k = bit_at (slice_index words (k / 64)) (k % 64) == 1

-- byte i of the words, which is byte i % 8 of word i / 8, the lowest first
abbrev pub byte_of : List ℕ → ℕ → ℕ
byte_of words i = slice_index words (i / 8) / 2 ^ (i % 8 * 8) % 256

-- the keys of the places below n that pass the test
unfoldable pub keys_where : {K : Type 0} → (R : K → K → Ordering) → (ℕ → K) → (ℕ → Bool) → ℕ → set.FinSet R
keys_where R key test zero = set.empty
keys_where R key test (suc n) = cond (test n) (set.insert (keys_where R key test n) (key n))
    (keys_where R key test n)

-- the numbers k for which bit k of the words is 1
unfoldable pub numbers_of : List ℕ → VectorSet
numbers_of words = keys_where nat_cmp (λ k. k) (has_bit words) (64 * length words)
