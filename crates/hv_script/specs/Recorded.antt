-- An event as a line of a script.
use Rattle.std.specs.Prelude.{ℕ, false, ◌<◌, ◌≤◌, ◌^◌, List, [], ◌∷◌, ◌++◌, length, codes, decimal}
use Rattle.std.specs.Fmt.{digits}
use Rattle.hex.specs.Hex.{IsBytes, encode_lower}
use Rattle.hv_policy.specs.declared.event.Action.{Action}
use Rattle.hv_policy.specs.declared.event.Action.TheVariants.{Hypercall, ReadMsr, WriteMsr, ReadSlot}
use Rattle.hv_policy.specs.declared.event.Action.TheVariants.{ClearSlot, ReadFlags, ClearFlag, TakeInterrupt}
use Rattle.hv_policy.specs.declared.event.Caller.{Caller}

-- a number in hexadecimal digits, without leading zeros
abbrev pub hex_text : ℕ → List ℕ
hex_text n = codes "0x" ++ digits 16 false n

-- the bytes of an input list, two digits each, or a dash where there are none
abbrev pub input_text : List ℕ → List ℕ
input_text [] = codes "-"
input_text (byte ∷ bytes) = encode_lower (byte ∷ bytes)

-- the words after the processor's
abbrev pub words_by : {A : Type 0} → Action A → List (List ℕ)
words_by (Hypercall frame) = codes "call" ∷ hex_text frame.rcx ∷ hex_text frame.rdx ∷ hex_text frame.r8 ∷
    input_text frame.input ∷ []
words_by (ReadMsr msr) = codes "rdmsr" ∷ hex_text msr ∷ []
words_by (WriteMsr msr value) = codes "wrmsr" ∷ hex_text msr ∷ hex_text value ∷ []
words_by (ReadSlot sint) = codes "slot" ∷ decimal sint ∷ []
words_by (ClearSlot sint) = codes "clearslot" ∷ decimal sint ∷ []
words_by (ReadFlags sint) = codes "flags" ∷ decimal sint ∷ []
words_by (ClearFlag sint flag) = codes "clearflag" ∷ decimal sint ∷ decimal flag ∷ []
words_by TakeInterrupt = codes "interrupt" ∷ []

-- words, each with a space before it
abbrev pub spaced : List (List ℕ) → List ℕ
spaced [] = []
spaced (word ∷ words) = codes " " ++ word ++ spaced words

-- the line: the processor, then the words
abbrev pub line_text : {A : Type 0} → Caller → Action A → List ℕ
line_text by what = decimal by.part ++ codes "." ++ decimal by.vp ++ spaced (words_by what)

-- each number fits its type, and a script's line has room for the input list
abbrev pub IsInRange : {A : Type 0} → Action A → Type 0
IsInRange (Hypercall frame) =
    (frame.rcx < 2 ^ 64) × (frame.rdx < 2 ^ 64) × (frame.r8 < 2 ^ 64) × IsBytes frame.input ×
    (length frame.input ≤ 4096)
IsInRange (ReadMsr msr) = msr < 2 ^ 32
IsInRange (WriteMsr msr value) = (msr < 2 ^ 32) × (value < 2 ^ 64)
IsInRange (ReadSlot sint) = sint < 2 ^ 8
IsInRange (ClearSlot sint) = sint < 2 ^ 8
IsInRange (ReadFlags sint) = sint < 2 ^ 8
IsInRange (ClearFlag sint flag) = (sint < 2 ^ 8) × (flag < 2 ^ 16)
IsInRange TakeInterrupt = Unit {0}

abbrev pub IsRecordable : {A : Type 0} → Caller → Action A → Type 0
IsRecordable by what = (by.part < 2 ^ 64) × (by.vp < 2 ^ 32) × IsInRange what
