-- Provenance: the entries of a history that account for what its machine has.
use Rattle.std.specs.Prelude.{◌≡◌, ℕ, true, false, List, Some}
use Rattle.std.specs.FinMap.{get}
use Rattle.std.specs.Option.{option_map_or}
use Rattle.hv_partition.specs.Partition.{PartitionState}
use Rattle.hv_policy.specs.Flat.{ConnRow, Flat, PortRow}
use Rattle.hv_policy.specs.declared.config.Config.{Config}
use Rattle.hv_security.specs.Operation.{Operation, operations_of}
use Rattle.hv_security.specs.Justified.{WasConnected, WasMade, WasSignalled, WerePosted, has_flag}
use Rattle.hv_security.specs.Justified.{state_before}
use Rattle.hv_admit.specs.Tie.{conn_row, here, mail_there, port_row, rows_of, vp_row}
use Rattle.hv_tree.specs.Rows.{Rows}
use Rattle.hv_history.specs.Row.{events_of, replies_of}
use Rattle.hv_history.specs.declared.entry.Entry.{Entry}

-- the operation of each entry, in order
abbrev pub operations_in : {A : Type 0} → List (Entry A) → List Operation
operations_in history = operations_of (events_of history) (replies_of history)

-- the state before the event of the entry with a number
abbrev pub states_in : {A : Type 0} → Config → List (Entry A) → ℕ → Flat
states_in config history = state_before config (events_of history)

-- Each port and each connection has the entry that made it, and no later entry ended it. A connection that
-- keeps its port's birth is of that port's peer. Each message at a SINT, shown or waiting, has the entry that
-- posted it, later than that of the message before it. Each event flag that is set has the entry that set it,
-- and no later entry cleared it. The partition for which the port was made posted or signalled it. The
-- message or flag is at the processor that took it in the state before that entry's event.
pub record IsJustified (states : ℕ → Flat) (operations : List Operation) (rows : Rows PartitionState) : Type 0
  where
    pub ports : (id number : ℕ) (port : PortRow) → port_row number (get rows id) ≡ Some port
        → WasMade operations (id, number) port
    pub conns : (id number : ℕ) (conn : ConnRow) → conn_row number (get rows id) ≡ Some conn
        → WasConnected operations (id, number) conn
    pub peers : (id number : ℕ) (conn : ConnRow) (port : PortRow) → conn_row number (get rows id) ≡ Some conn
        → port_row conn.port (get rows conn.part) ≡ Some port → port.born ≡ conn.born → port.peer ≡ id
    pub mail : (id vp sint : ℕ)
        → WerePosted states operations 0 (rows_of (here id vp sint) (mail_there vp sint (get rows id)))
    pub flags : (id vp sint flag : ℕ)
        → option_map_or (has_flag sint flag) (vp_row vp (get rows id)) false ≡ true
        → WasSignalled states operations id vp sint flag
