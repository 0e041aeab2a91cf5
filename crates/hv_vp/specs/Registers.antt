-- The answers to reads and writes of registers, and the table of registers by place.
use Rattle.std.specs.Prelude.{ℕ, ◌==◌, List, map, Option, None, Some, Result, Ok, Err, zip}
use Rattle.std.specs.List.{position_from}
use lib.ListN.{get_or}
use Rattle.std.specs.Ordering.{nat_cmp}
use Rattle.std.specs.FinMap.{FinMap, from_entries, get}
use Rattle.hv_defs.specs.Registers.{has_msr, kept, row_of}
use Rattle.hv_defs.specs.declared.registers.RegFault.{RegFault}
use Rattle.hv_defs.specs.declared.registers.RegFault.TheVariants.{Unknown}
use Rattle.hv_defs.specs.declared.registers.RegisterRow.{RegisterRow}
use Rattle.hv_defs.specs.declared.registers.Takes.{Takes}
use Rattle.hv_defs.specs.declared.registers.Takes.TheVariants.{Nothing}
use Rattle.hv_defs.specs.declared.registers.TheConstants.{REGISTERS}

-- the answer to a write
abbrev pub answer : Result ℕ RegFault → Result (Unit {0}) RegFault
answer (Ok value) = Ok tt
answer (Err fault) = Err fault

-- the answer to a read
abbrev pub found : Option ℕ → Result ℕ RegFault
found None = Err Unknown
found (Some value) = Ok value

abbrev pub read_of : FinMap nat_cmp ℕ → ℕ → Result ℕ RegFault
read_of registers name = found (get registers name)

-- the answer to a read of a model-specific register, by the name that it has in a call
abbrev pub read_of_msr : FinMap nat_cmp ℕ → Option ℕ → Result ℕ RegFault
read_of_msr registers None = Err Unknown
read_of_msr registers (Some name) = read_of registers name

-- the value that a model-specific register keeps after a write, or why it refuses the value
abbrev pub kept_msr : Option ℕ → ℕ → Result ℕ RegFault
kept_msr None value = Err Unknown
kept_msr (Some name) value = kept (row_of name) value

-- the place of a register in the table
unfoldable pub place_of : ℕ → Option ℕ
place_of name = position_from (λ row. row.name == name) 0 REGISTERS

-- the place of a model-specific register in the table
unfoldable pub msr_place : ℕ → Option ℕ
msr_place msr = position_from (has_msr msr) 0 REGISTERS

-- the values that the register at a place takes; past the end it takes nothing
unfoldable pub takes_at : ℕ → Takes
takes_at place = (get_or REGISTERS place (record {
  name = 0;
  msr = None;
  privilege = 0;
  takes = Nothing;
  start
      = 0;
})).takes

-- the names of rows
abbrev pub names : List RegisterRow → List ℕ
names rows = map (λ row. row.name) rows

-- the values of the rows, by their names
unfoldable pub registers_of : List ℕ → FinMap nat_cmp ℕ
registers_of values = from_entries (zip (names REGISTERS) values)
