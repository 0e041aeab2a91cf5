-- Interrupt vectors, numbers below 256.
use Rattle.std.specs.Prelude.{ℕ, zero, suc, ◌+◌, ◌==◌, cond, Option, None, Some}
use Rattle.std.specs.Coded.{Coded, coded_ℕ}
use Rattle.std.specs.FinMap.{FinMap, get}
use Rattle.std.specs.FinSet as set
use Rattle.std.specs.Ordering.{nat_cmp}
use Rattle.hv_defs.specs.Bits.{bits}
use Rattle.hv_defs.specs.declared.registers.TheConstants.{SINT0}

-- a set of vectors
abbrev pub VectorSet : Type 0
VectorSet = set.FinSet nat_cmp

-- the stored form of these vectors: a set of numbers
abbrev pub vectors_code : Coded VectorSet
vectors_code = set.code coded_ℕ

-- the highest number below n in a set, if there is one
unfoldable pub highest_below : ℕ → VectorSet → Option ℕ
highest_below zero numbers = None
highest_below (suc n) numbers = cond (set.contains numbers n) (Some n) (highest_below n numbers)

-- the highest of the vectors, if there is one
abbrev pub highest : VectorSet → Option ℕ
highest vectors = highest_below 256 vectors

-- the vectors without one of them
abbrev pub without : VectorSet → Option ℕ → VectorSet
without vectors None = vectors
without vectors (Some vector) = set.remove vectors vector

-- the vectors with the one in bits 7:0 of a SINT's register, unless bit 16 masks it
abbrev pub with_vector : VectorSet → Option ℕ → VectorSet
with_vector vectors None = vectors
with_vector vectors (Some value) = cond (bits value 16 1 == 1) vectors (set.insert vectors (bits value 0 8))

-- the vectors after a SINT of a processor with these registers raised its own
abbrev pub raised : FinMap nat_cmp ℕ → ℕ → VectorSet → VectorSet
raised registers sint vectors = with_vector vectors (get registers (SINT0 + sint))
