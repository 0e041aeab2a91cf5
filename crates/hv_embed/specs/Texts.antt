-- Texts written into a buffer of C's.
use Rattle.std.specs.Prelude.{◌≡◌, ◌≢◌, ◌++◌, ◌&&◌, ◌==◌, ℕ, nat_le, nat_lt, List, length, take, drop, codes}
use Rattle.std.specs.Prelude.{Option, None, Some, if◌then◌else◌}
use Rattle.std.specs.Global.{Global}
use Rattle.hv_policy.specs.declared.event.Action.{Action}
use Rattle.hv_policy.specs.declared.event.Action.TheVariants.{ReadMsr, WriteMsr, ReadSlot, ClearSlot}
use Rattle.hv_policy.specs.declared.event.Action.TheVariants.{ReadFlags, ClearFlag, TakeInterrupt}
use Rattle.hv_policy.specs.declared.event.Caller.{Caller}
use Rattle.hv_script.specs.Recorded.{line_text}
use Rattle.hv_embed.specs.declared.layout.TheConstants.{READ_MSR, WRITE_MSR, READ_SLOT, CLEAR_SLOT}
use Rattle.hv_embed.specs.declared.layout.TheConstants.{READ_FLAGS, CLEAR_FLAG, TAKE_INTERRUPT}
use Rattle.hv_embed.specs.declared.status.TheConstants.{DONE, MEMORY, NONE, SHORT}
use Rattle.hv_embed.specs.declared.texts.TheConstants.{MOST_INPUT}

-- A text is written into a buffer that has room for it, and its length is reported. If memory runs out,
-- nothing is written.
pub record IsPut (text : List ℕ) (status : ℕ) (old new : List ℕ) (old_len new_len : ℕ) : Type 0 where
  pub told : status ≢ MEMORY → status ≡ if nat_lt (length old) (length text) then SHORT else DONE
  pub len : status ≢ MEMORY → new_len ≡ length text
  pub bytes : status ≡ DONE → take (length text) new ≡ text
  pub rest : drop (length text) new ≡ drop (length text) old
  pub unwritten : status ≢ DONE → new ≡ old
  pub untold : status ≡ MEMORY → new_len ≡ old_len

-- the bytes of an input list that a line has: at most a page, and no valid list is longer
abbrev pub readable : List ℕ → List ℕ
readable input = take MOST_INPUT input

-- the access that C names by these numbers. The number of a SINT has 8 bits
abbrev pub access_named : (access number value : ℕ) → Option (Action Global)
access_named access number value =
    if access == READ_MSR then Some (ReadMsr number)
    else if access == WRITE_MSR then Some (WriteMsr number value)
    else if access == TAKE_INTERRUPT then Some TakeInterrupt
    else if nat_le 256 number then None
    else if access == READ_SLOT then Some (ReadSlot number)
    else if access == CLEAR_SLOT then Some (ClearSlot number)
    else if access == READ_FLAGS then Some (ReadFlags number)
    else if (access == CLEAR_FLAG) && nat_le value 0xFFFF then Some (ClearFlag number value)
    else None

-- the line of an access is written, or there is no such access
abbrev pub IsAccessLine : Caller → Option (Action Global) → ℕ → (old new : List ℕ) → (old_len new_len : ℕ)
    → Type 0
IsAccessLine by None status old new old_len new_len = (status ≡ NONE) × (new ≡ old) × (new_len ≡ old_len)
IsAccessLine by (Some access) status old new old_len new_len =
    IsPut (line_text by access ++ codes "\n") status old new old_len new_len
