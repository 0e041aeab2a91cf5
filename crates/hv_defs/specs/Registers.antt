-- The registers of a virtual processor, by name.
use Rattle.std.specs.Prelude.{ℕ, ◌==◌, ◌||◌, ◌&&◌, Bool, false, cond, find, map, nat_le, Option, None, Some}
use Rattle.std.specs.Prelude.{option_map, Result, Ok, Err}
use Rattle.std.specs.Option.{option_map_or}
use Rattle.std.specs.Ordering.{nat_cmp}
use Rattle.std.specs.FinMap.{FinMap, from_entries, get, insert}
use Rattle.hv_defs.specs.Bits.{bits}
use Rattle.hv_defs.specs.declared.registers.RegFault.{RegFault}
use Rattle.hv_defs.specs.declared.registers.RegFault.TheVariants.{Unknown, ReadOnly, Value}
use Rattle.hv_defs.specs.declared.registers.RegisterRow.{RegisterRow}
use Rattle.hv_defs.specs.declared.registers.Takes.{Takes}
use Rattle.hv_defs.specs.declared.registers.Takes.TheVariants.{Nothing, Any, SintValue, EndOfMessage}
use Rattle.hv_defs.specs.declared.registers.TheConstants.{REGISTERS, SCONTROL, SIEFP, SIMP, VP_INDEX}

-- the registers of a new processor with this index, by name
abbrev pub start_registers : ℕ → FinMap nat_cmp ℕ
start_registers index = insert (from_entries (map (λ r. (r.name, r.start)) REGISTERS)) VP_INDEX index

-- the row of the register with this name, if there is one
unfoldable pub row_of : ℕ → Option RegisterRow
row_of name = find (λ row. row.name == name) REGISTERS

-- whether a row is that of a model-specific register
abbrev pub has_msr : ℕ → RegisterRow → Bool
has_msr msr row = option_map_or (λ number. number == msr) row.msr false

-- the name in a call of the model-specific register with this number, if there is one
unfoldable pub name_of_msr : ℕ → Option ℕ
name_of_msr msr = option_map (λ row. row.name) (find (has_msr msr) REGISTERS)

-- a value of a SINT's register: a vector of at least 16 in bits 7:0, or the mask bit 16
abbrev pub is_sint_value : ℕ → Bool
is_sint_value value = nat_le 16 (bits value 0 8) || (bits value 16 1 == 1)

-- what a register keeps of a written value, or why it does not take the value
abbrev pub take : Takes → ℕ → Result ℕ RegFault
take Nothing value = Err ReadOnly
take Any value = Ok value
take SintValue value = cond (is_sint_value value) (Ok value) (Err Value)
take EndOfMessage value = Ok 0

-- what the register with this row keeps of a written value. Without a row, the register is unknown
abbrev pub kept : Option RegisterRow → ℕ → Result ℕ RegFault
kept None value = Err Unknown
kept (Some row) value = take row.takes value

-- the registers after a write, given what the named register keeps of the value
abbrev pub after_write : FinMap nat_cmp ℕ → ℕ → Result ℕ RegFault → FinMap nat_cmp ℕ
after_write registers name (Ok value) = insert registers name value
after_write registers name (Err fault) = registers

-- whether bit 0 of a register is set
abbrev pub is_on : FinMap nat_cmp ℕ → ℕ → Bool
is_on registers name = option_map_or (λ value. bits value 0 1 == 1) (get registers name) false

-- whether a processor takes messages: its synthetic interrupt controller and its message page are on
abbrev pub takes_messages : FinMap nat_cmp ℕ → Bool
takes_messages registers = is_on registers SCONTROL && is_on registers SIMP

-- whether it takes event flags: its synthetic interrupt controller and its page of event flags are on
abbrev pub takes_flags : FinMap nat_cmp ℕ → Bool
takes_flags registers = is_on registers SCONTROL && is_on registers SIEFP
