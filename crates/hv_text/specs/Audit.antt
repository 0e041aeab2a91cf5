-- The bytes of an audit.
use Rattle.std.specs.Prelude.{ℕ, ◌+◌, List, [], ◌∷◌, ◌++◌, length, codes, decimal}
use Rattle.std.specs.Int.{w32, w64, to_be_bytes}
use Rattle.hex.specs.Hex.{encode_lower}
use Rattle.hv_policy.specs.Result.{result_of}
use Rattle.hv_policy.specs.Rule.{rule_name}
use Rattle.hv_policy.specs.declared.event.Action.{Action}
use Rattle.hv_policy.specs.declared.event.Action.TheVariants.{Hypercall, ReadMsr, WriteMsr, ReadSlot}
use Rattle.hv_policy.specs.declared.event.Action.TheVariants.{ClearSlot, ReadFlags, ClearFlag, TakeInterrupt}
use Rattle.hv_policy.specs.declared.event.Caller.{Caller}
use Rattle.hv_policy.specs.declared.reply.Reply.{Reply}
use Rattle.hv_policy.specs.declared.reply.Reply.TheVariants.{Served, More, Denied, Fault}
use Rattle.hv_history.specs.declared.entry.Entry.{Entry}

-- a number in 8 and in 16 hexadecimal digits
abbrev pub hex_32 : ℕ → List ℕ
hex_32 n = encode_lower (to_be_bytes w32 n)

abbrev pub hex_64 : ℕ → List ℕ
hex_64 n = encode_lower (to_be_bytes w64 n)

-- the processor that asked
abbrev pub caller_text : Caller → List ℕ
caller_text by = decimal by.part ++ codes "." ++ decimal by.vp

-- the request of an event
abbrev pub what_text : {A : Type 0} → Action A → List ℕ
what_text (Hypercall frame) = codes "call " ++ hex_64 frame.rcx
what_text (ReadMsr msr) = codes "rdmsr " ++ hex_32 msr
what_text (WriteMsr msr value) = codes "wrmsr " ++ hex_32 msr ++ codes " " ++ hex_64 value
what_text (ReadSlot sint) = codes "slot " ++ decimal sint
what_text (ClearSlot sint) = codes "clearslot " ++ decimal sint
what_text (ReadFlags sint) = codes "flags " ++ decimal sint
what_text (ClearFlag sint flag) = codes "clearflag " ++ decimal sint ++ codes " " ++ decimal flag
what_text TakeInterrupt = codes "interrupt"

-- the output of an event, two digits for each byte
abbrev pub output_text : List ℕ → List ℕ
output_text [] = codes "-"
output_text (byte ∷ bytes) = encode_lower (byte ∷ bytes)

-- a space and the result value, for a hypercall alone
abbrev pub result_text : {A : Type 0} → Action A → Reply → List ℕ
result_text (Hypercall frame) reply = codes " " ++ hex_64 (result_of frame reply)
result_text what reply = []

-- the reply to an event
abbrev pub reply_text : {A : Type 0} → Action A → Reply → List ℕ
reply_text what (Served output) = codes "ok" ++ result_text what (Served output) ++ codes " " ++ output_text
    output
reply_text what (More next output) = codes "more" ++ result_text what (More next output) ++ codes " " ++
    output_text output
reply_text what (Denied rule status reps) = codes "denied" ++ result_text what (Denied rule status reps) ++
    codes " " ++ rule_name rule
reply_text what (Fault rule) = codes "fault " ++ rule_name rule

-- the line of an event with its number, without its line feed
unfoldable pub entry_text : {A : Type 0} → ℕ → Entry A → List ℕ
entry_text number entry =
    decimal number ++ codes " " ++ caller_text entry.event.by ++ codes " " ++ what_text entry.event.what ++
    codes " " ++ reply_text entry.event.what entry.reply

-- the lines of events, numbered from this number on, each with its line feed
abbrev pub entries_text : {A : Type 0} → ℕ → List (Entry A) → List ℕ
entries_text number [] = []
entries_text number (entry ∷ entries) = entry_text number entry ++ codes "\n" ++ entries_text (number + 1)
    entries

-- the audit: a line for each event, numbered from 1, then the number of events
unfoldable pub audit_text : {A : Type 0} → List (Entry A) → List ℕ
audit_text entries = entries_text 1 entries ++ codes "events " ++ decimal (length entries) ++ codes "\n"
