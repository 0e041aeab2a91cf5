-- The event flags that words hold.
use Rattle.std.specs.Prelude.{ℕ, ◌*◌, ◌/◌, ◌%◌, List, length}
use Rattle.hv_defs.specs.Flags.{FlagSet, pair_cmp}
use Rattle.hv_defs.specs.declared.sizes.TheConstants.{EVENT_FLAGS}
use Rattle.hv_mail.specs.Words.{has_bit, keys_where}

-- a flag of a SINT is bit sint * EVENT_FLAGS + flag
unfoldable pub flags_of : List ℕ → FlagSet
flags_of words = keys_where pair_cmp (λ k. (k / EVENT_FLAGS, k % EVENT_FLAGS)) (has_bit words)
    (64 * length words)
