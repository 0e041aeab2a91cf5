-- The bytes of a message slot.
use Rattle.std.specs.Prelude.{ℕ, Bool, true, false, List, [], ◌∷◌, Option, None, Some}
use Rattle.hv_defs.specs.Slot.{zeros, message_bytes}
use Rattle.hv_mail.specs.Mail.{SintMail}
use Rattle.hv_mail.specs.declared.message.Message.{Message}

-- whether a list has an element
abbrev pub is_some_of : {X : Type 0} → List X → Bool
is_some_of [] = false
is_some_of (x ∷ xs) = true

-- the bytes of the shown message, or 256 zeros if there is none
abbrev pub bytes_of : Option Message → Bool → List ℕ
bytes_of None pending = zeros 256
bytes_of (Some m) pending = message_bytes m.kind m.port m.payload.items pending

-- the slot's bytes for the messages at a SINT; another message is pending if one waits
abbrev pub slot_bytes : SintMail → List ℕ
slot_bytes mail = bytes_of mail.slot (is_some_of mail.waiting)
