-- A privilege mask, seen as its 64 bits. A privilege is the mask of its bit alone. A definition names it by
-- its constant, such as `CREATE_PARTITIONS` of `Rattle.hv_privs.specs.declared.TheConstants.Privileges`.
use Rattle.std.specs.Prelude.{ℕ, Bool, ◌==◌, IsBitSet, bit_and}
use Rattle.hv_privs.specs.declared.Privileges.{Privileges}

-- the mask as one number
abbrev pub bits_of : Privileges → ℕ
bits_of mask = mask.0

-- the mask of these bits, named or not
abbrev pub of : ℕ → Privileges
of bits = record { 0 = bits }

-- bit k of the mask is set
abbrev pub HasBit : Privileges → ℕ → Type 0
HasBit mask k = IsBitSet (bits_of mask) k

-- every bit of the one mask is set in the other
abbrev pub IsSubset : Privileges → Privileges → Type 0
IsSubset part whole = (k : ℕ) → HasBit part k → HasBit whole k

-- a test that computes: the mask has every bit of the other
abbrev pub contains : Privileges → Privileges → Bool
contains mask other = bit_and (bits_of mask) (bits_of other) == bits_of other

-- the bits that both masks have
abbrev pub restrict : Privileges → Privileges → Privileges
restrict mask to = of (bit_and (bits_of mask) (bits_of to))
