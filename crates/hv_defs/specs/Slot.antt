-- The bytes of a message slot.
use Rattle.std.specs.Prelude.{ℕ, ◌-◌, Bool, if◌then◌else◌, List, ◌∷◌, ◌++◌, length, replicate}
use Rattle.std.specs.Int.{w32, w64, to_le_bytes}
use Rattle.hv_defs.specs.declared.sizes.TheConstants.{MAX_PAYLOAD}

-- a list of this many zeros
abbrev pub zeros : ℕ → List ℕ
zeros n = replicate n 0

-- a slot that shows a message: type, payload size, flags with bit 0 set if another message is at the SINT,
-- two zeros, port id, and the payload with zeros after it
abbrev pub message_bytes : ℕ → ℕ → List ℕ → Bool → List ℕ
message_bytes type port payload pending =
    to_le_bytes w32 type ++ length payload ∷ (if pending then 1 else 0) ∷ 0 ∷ 0
    ∷ (to_le_bytes w64 port ++ payload ++ zeros (MAX_PAYLOAD - length payload))
