-- The values that the words of a line by names give.
use Rattle.std.specs.Prelude.{ℕ, ◌*◌, ◌==◌, ◌&&◌, List, [], ◌∷◌, map, filter, codes, Option, Some, None}
use Rattle.std.specs.Prelude.{Result, Ok, Err, ok_or, if◌then◌else◌}
use Rattle.std.specs.List.{after_first, before_first}
use Rattle.std.specs.Str.{bytes_eq}
use Rattle.hv_defs.specs.declared.sizes.TheConstants.{SELF_ID}
use Rattle.hv_script.specs.Line.{◌>>=◌}
use Rattle.hv_script.specs.Number.{number_in}
use Rattle.hv_script.specs.declared.fault.FaultKind.TheVariants.{Number}
use Rattle.hv_asm.specs.Table.{field_name, size_of}
use Rattle.hv_asm.specs.declared.fault.AsmFault.{AsmFault}
use Rattle.hv_asm.specs.declared.fault.AsmFault.TheVariants.{Script, FieldTwice, MissingField}
use Rattle.hv_asm.specs.declared.field.Field.{Field}

-- the name and the value of a word `NAME=VALUE`
abbrev pub name_in : List ℕ → List ℕ
name_in word = before_first (λ byte. byte == 61) word

abbrev pub value_in : List ℕ → List ℕ
value_in word = after_first (λ byte. byte == 61) word

-- the values that words give to a name
abbrev pub given : List ℕ → List (List ℕ) → List (List ℕ)
given name words = map value_in (filter (λ word. bytes_eq (name_in word) name) words)

-- at most one value
abbrev pub at_most_one : List (List ℕ) → Result (Option (List ℕ)) AsmFault
at_most_one [] = Ok None
at_most_one (value ∷ []) = Ok (Some value)
at_most_one (value ∷ more ∷ rest) = Err FieldTwice

-- the number of `bits` bits that a word writes
abbrev pub numeral : ℕ → List ℕ → Result ℕ AsmFault
numeral bits word = ok_or (number_in bits word) (Script Number)

-- the same, where `self` is the id by which a caller names its own partition
abbrev pub number_of : ℕ → List ℕ → Result ℕ AsmFault
number_of bits word = if (bits == 64) && bytes_eq word (codes "self") then Ok SELF_ID else numeral bits word

-- what a value says, which has to be given
abbrev pub required : {T : Type 0} → (List ℕ → Result T AsmFault) → Option (List ℕ) → Result T AsmFault
required read (Some value) = read value
required read None = Err MissingField

-- what a value says, or what it is where it isn't given
abbrev pub defaulted : {T : Type 0} → (List ℕ → Result T AsmFault) → T → Option (List ℕ) → Result T AsmFault
defaulted read default (Some value) = read value
defaulted read default None = Ok default

-- the value of a field
unfoldable pub field_value : Field → List (List ℕ) → Result ℕ AsmFault
field_value field words = at_most_one (given (field_name field) words) >>= required
    (number_of (8 * size_of field))

-- the value of an option
unfoldable pub option_value : List ℕ → ℕ → List (List ℕ) → Result ℕ AsmFault
option_value name default words = at_most_one (given name words) >>= defaulted (numeral 64) default
