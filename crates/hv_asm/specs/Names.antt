-- What the names of a line mean.
use Rattle.std.specs.Prelude.{ℕ, List, drop, find, codes, Option, Some, None, Result, Ok, ok_or}
use Rattle.std.specs.Prelude.{nat_eq, if◌then◌else◌, false}
use Rattle.std.specs.List.{starts_with}
use Rattle.std.specs.Option.{option_map_or}
use Rattle.std.specs.Str.{bytes_eq}
use Rattle.hv_abi.specs.declared.call_kind.CallKind.{CallKind}
use Rattle.hv_abi.specs.declared.call_kind.TheConstants.{ALL_CALLS}
use Rattle.hv_defs.specs.declared.registers.RegisterRow.{RegisterRow}
use Rattle.hv_defs.specs.declared.registers.TheConstants.{REGISTERS}
use Rattle.hv_script.specs.declared.fault.FaultKind.TheVariants.{Number}
use Rattle.hv_words.specs.Names.{call_name, register_name}
use Rattle.hv_asm.specs.Values.{numeral}
use Rattle.hv_asm.specs.declared.fault.AsmFault.{AsmFault}
use Rattle.hv_asm.specs.declared.fault.AsmFault.TheVariants.{Script}

-- the call with this name
unfoldable pub call_named : List ℕ → Option CallKind
call_named word = find (λ call. bytes_eq (call_name call) word) ALL_CALLS

-- the register with this name
unfoldable pub row_named : List ℕ → Option RegisterRow
row_named word = find (λ row. option_map_or (λ name. bytes_eq name word) (register_name row.name) false)
    REGISTERS

-- a register's number in a call, which is written itself where no register has the name
abbrev pub register_or : List ℕ → Option RegisterRow → Result ℕ AsmFault
register_or word (Some row) = Ok row.name
register_or word None = numeral 32 word

abbrev pub register_of : List ℕ → Result ℕ AsmFault
register_of word = register_or word (row_named word)

-- an MSR's name without its prefix
abbrev pub short : List ℕ → List ℕ
short word = if starts_with nat_eq word (codes "HV_X64_MSR_") then drop 11 word else word

-- an MSR's number, which is written itself where no register has the name
abbrev pub msr_or : List ℕ → Option RegisterRow → Result ℕ AsmFault
msr_or word (Some row) = ok_or row.msr (Script Number)
msr_or word None = numeral 32 word

abbrev pub msr_of : List ℕ → Result ℕ AsmFault
msr_of word = msr_or word (row_named (short word))
