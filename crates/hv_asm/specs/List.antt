-- The input list of a call by names.
use Rattle.std.specs.Prelude.{ℕ, ◌||◌, ◌&&◌, not, Bool, List, [], ◌∷◌, ◌++◌, length, filter, codes}
use Rattle.std.specs.Prelude.{nat_eq, nat_le, replicate, false, Result, Ok, Err, if◌then◌else◌}
use Rattle.std.specs.List.{list_any}
use Rattle.std.specs.Str.{bytes_eq}
use Rattle.byteorder.specs.Endian.{little_bytes}
use Rattle.hv_abi.specs.declared.call_kind.CallKind.{CallKind}
use Rattle.hv_abi.specs.declared.call_kind.CallKind.TheVariants as kind
use Rattle.hv_defs.specs.declared.sizes.TheConstants.{MAX_PAYLOAD}
use Rattle.hv_script.specs.Line.{◌>>=◌}
use Rattle.hv_script.specs.Number.{bytes_in}
use Rattle.hv_script.specs.declared.fault.FaultKind.{FaultKind}
use Rattle.hv_script.specs.declared.fault.FaultKind.TheVariants.{Hex}
use Rattle.hv_asm.specs.Names.{register_of}
use Rattle.hv_asm.specs.Table.{field_name, parts_of, size_of}
use Rattle.hv_asm.specs.Values.{at_most_one, field_value, given, name_in, numeral, required, value_in}
use Rattle.hv_asm.specs.declared.fault.AsmFault.{AsmFault}
use Rattle.hv_asm.specs.declared.fault.AsmFault.TheVariants.{Script, UnknownField}
use Rattle.hv_asm.specs.declared.field.Part.{Part}
use Rattle.hv_asm.specs.declared.field.Part.TheVariants.{Field, Unused, Payload}

-- a script's fault as one of a line by names
abbrev pub as_script : {T : Type 0} → Result T FaultKind → Result T AsmFault
as_script (Ok value) = Ok value
as_script (Err fault) = Err (Script fault)

-- A payload of at most 240 bytes, which a word gives that isn't empty. It ends the list, and each byte past
-- the end of a list is 0.
abbrev pub fitting : List ℕ → Result (List ℕ) AsmFault
fitting bytes = if nat_le (length bytes) MAX_PAYLOAD then Ok bytes else Err (Script Hex)

abbrev pub payload_of : List ℕ → Result (List ℕ) AsmFault
payload_of word = if nat_eq (length word) 0 then Err (Script Hex) else (as_script (bytes_in word) >>= fitting)

-- the bytes of a part
abbrev pub part_bytes : List (List ℕ) → Part → Result (List ℕ) AsmFault
part_bytes words (Field field) = field_value field words
    >>= (λ value. Ok (little_bytes (size_of field) value))
part_bytes words (Unused count) = Ok (replicate count 0)
part_bytes words Payload = at_most_one (given (codes "Payload") words) >>= required payload_of

-- the bytes of several, one after another; the first fault decides
abbrev pub all_bytes : {X : Type 0} → (X → Result (List ℕ) AsmFault) → List X → Result (List ℕ) AsmFault
all_bytes bytes [] = Ok []
all_bytes bytes (x ∷ xs) = do
  first ← bytes x
  rest ← all_bytes bytes xs
  Ok (first ++ rest)

-- the list without its elements
abbrev pub header_of : CallKind → List (List ℕ) → Result (List ℕ) AsmFault
header_of call words = all_bytes (part_bytes words) (parts_of call)

-- a word that gives a field of a call, or an option. A fast call has no addresses
abbrev pub is_part : List ℕ → Part → Bool
is_part name (Field field) = bytes_eq (field_name field) name
is_part name (Unused count) = false
is_part name Payload = bytes_eq name (codes "Payload")

abbrev pub is_rep_word : List ℕ → Bool
is_rep_word name = bytes_eq name (codes "reps") || bytes_eq name (codes "start")

abbrev pub is_address : List ℕ → Bool
is_address name = bytes_eq name (codes "input") || bytes_eq name (codes "output")

abbrev pub is_setting : CallKind → Bool → List ℕ → Bool
is_setting call fast word =
    list_any (is_part (name_in word)) (parts_of call) || is_rep_word (name_in word) ||
    (not fast && is_address (name_in word))

-- the words for a rep call's elements: all others
abbrev pub elements_of : CallKind → Bool → List (List ℕ) → List (List ℕ)
elements_of call fast words = filter (λ word. not (is_setting call fast word)) words

-- a register's name and the 16 bytes of its value
abbrev pub register_value : List ℕ → Result (List ℕ) AsmFault
register_value word = do
  name ← register_of (name_in word)
  value ← numeral 64 (value_in word)
  Ok (little_bytes 4 name ++ replicate 12 0 ++ little_bytes 8 value ++ replicate 8 0)

-- the bytes of an element
abbrev pub element_bytes : CallKind → List ℕ → Result (List ℕ) AsmFault
element_bytes kind.DepositMemory word = numeral 64 word >>= (λ page. Ok (little_bytes 8 page))
element_bytes kind.GetVpRegisters word = register_of word >>= (λ name. Ok (little_bytes 4 name))
element_bytes kind.SetVpRegisters word = register_value word
element_bytes call word = Err UnknownField

-- the whole list, of at most 4,096 bytes
unfoldable pub list_of : CallKind → Bool → List (List ℕ) → Result (List ℕ) AsmFault
list_of call fast words = do
  elements ← all_bytes (element_bytes call) (elements_of call fast words)
  header ← header_of call words
  if nat_le (length (header ++ elements)) 4096 then Ok (header ++ elements) else Err (Script Hex)
