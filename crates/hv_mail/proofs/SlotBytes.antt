-- The bytes of a slot, written in their places over zeros.
use Rattle.std.proofs.Common.{◌≡◌, ℕ, ◌+◌, ◌-◌, List, ◌∷◌, ◌++◌, length, set, arith, refl}
use Rattle.std.specs.Int.{w32, w64, to_le_bytes}
use Rattle.std.proofs.lemmas.List.{drop-replicate}
use borrow.Rule.Slice.PartMut.{put_mid}
use Rattle.hv_defs.specs.Slot.{zeros}

-- kind, payload size, flags, port and payload
pub slot_written : (kind port flags : ℕ) (payload head number : List ℕ) → head ≡ to_le_bytes w32 kind → number ≡ to_le_bytes w64 port
    → put_mid 16 (16 + length payload - 16) (put_mid 8 8 (set (set (put_mid 0 4 (zeros 256) head) 4 (length payload)) 5 flags) number) payload
    ≡ to_le_bytes w32 kind ++ length payload ∷ flags ∷ 0 ∷ 0 ∷ (to_le_bytes w64 port ++ payload ++ zeros (240 - length payload))
slot_written kind port flags payload head number first second =
    let size : 16 + length payload - 16 ≡ length payload = omega arith in
    let rest = drop-replicate {X = ℕ} (length payload) 240 0 in
    rw (first, second, size, ← rest) refl
