-- The event flags that are set, as pairs (SINT, flag).
use Rattle.std.specs.Prelude.{ℕ, zero, suc, ◌+◌, ◌*◌, ◌^◌, Bool, cond, List, map}
use Rattle.std.specs.Coded.{Coded, coded×, coded_ℕ}
use Rattle.std.specs.FinSet as set
use Rattle.std.specs.List.{range_with_len}
use Rattle.std.specs.Ordering.{nat_cmp, ordering_then}
use Rattle.std.specs.declared.cmp.Ordering.{Ordering}

-- pairs of numbers in order: (SINT, flag) here, and the keys (partition, number) of the policy's maps
abbrev pub pair_cmp : ℕ × ℕ → ℕ × ℕ → Ordering
pair_cmp a b = ordering_then (nat_cmp a.0 b.0) (nat_cmp a.1 b.1)

-- the flags that are set
abbrev pub FlagSet : Type 0
FlagSet = set.FinSet pair_cmp

-- the stored form of these flags: a set of pairs of numbers
abbrev pub flags_code : Coded FlagSet
flags_code = set.code (coded× coded_ℕ coded_ℕ)

-- the number whose bit j, below n, is 1 where j passes the test
unfoldable pub number_where : (ℕ → Bool) → ℕ → ℕ
number_where test zero = 0
number_where test (suc n) = number_where test n + cond (test n) (2 ^ n) 0

-- the 256 bytes of a SINT's flags: flag f is bit f % 8 of byte f / 8
unfoldable pub flag_bytes : FlagSet → ℕ → List ℕ
flag_bytes flags sint = map (λ i. number_where (λ j. set.contains flags (sint, i * 8 + j)) 8)
    (range_with_len 0 256)
