-- What a full handle lends.
use base.Fml.{Fml}
use Rattle.std.specs.Borrow.{Lends, MutBor}
use Rattle.hv_machine.specs.State.{State}
use Rattle.hv_embed.specs.Holds.{machine_row}
use Rattle.hv_embed.specs.contracts.raw_machine.RawMachine.{the_row}
use Rattle.hv_embed.specs.declared.raw_machine.RawMachine.{RawMachine}

-- a full handle with another machine
abbrev pub with_machine : RawMachine → State → RawMachine
with_machine h m = record h { machine = m }

-- when the loan ends, the handle has the last machine behind r
abbrev pub LendsMachine : MutBor RawMachine → MutBor State → Fml
LendsMachine h r = Lends the_row machine_row h r (with_machine h.now)
