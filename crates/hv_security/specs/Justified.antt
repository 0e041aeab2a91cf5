-- Provenance of ports, connections, messages and event flags.
use Rattle.std.specs.Prelude.{◌≡◌, ℕ, zero, suc, ◌+◌, ◌<◌, Bool, take, List, [], ◌∷◌, Some}
use Rattle.std.specs.FinMap.{get}
use Rattle.std.specs.FinSet as set
use Rattle.hv_defs.specs.declared.port_kind.PortKind.TheVariants as port_type
use Rattle.hv_policy.specs.Aim.{is_ready_for_flags, is_ready_for_messages, on_vp, select_vp}
use Rattle.hv_policy.specs.Boot.{boot}
use Rattle.hv_policy.specs.Effect.{flags_of}
use Rattle.hv_policy.specs.Flat.{ConnRow, Flat, MailRow, PortRow, VpRow}
use Rattle.hv_policy.specs.Step.{run}
use Rattle.hv_policy.specs.declared.config.Config.{Config}
use Rattle.hv_policy.specs.declared.event.Event.{Event}
use Rattle.hv_security.specs.Operation.{Operation, DidAt, MakesPort, DeletesPort, Connects, Disconnects}
use Rattle.hv_security.specs.Operation.{Posts, Signals, DeletesVp, Finalizes, ClearsFlag, served_to}

-- no entry strictly between numbers `from` and `to` did this operation
abbrev pub HasNot : List Operation → ℕ → ℕ → Operation → Type 0
HasNot operations from to operation = (n : ℕ) → from < n → n < to → DidAt operations n operation → ⊥

-- no entry after number `from` did this operation
abbrev pub HasNotSince : List Operation → ℕ → Operation → Type 0
HasNotSince operations from operation = (n : ℕ) → from < n → DidAt operations n operation → ⊥

-- the state before the entry of a number, which the earlier entries leave
abbrev pub state_before : {A : Type 0} → Config → List (Event A) → ℕ → Flat
state_before config events zero = boot config
state_before config events (suc before) = (run config (take before events)).0

-- the entry of this number created the port with this key, (partition, id). The count of served events, that
-- entry included, is the port's birth
pub record IsMaking (operations : List Operation) (at : ℕ) (key : ℕ × ℕ) (port : PortRow) : Type 0 where
  pub base : ℕ
  pub count : ℕ
  pub first : port.base ≡ flags_of port.kind base
  pub number : port.count ≡ flags_of port.kind count
  pub made : DidAt operations at
      (MakesPort key.0 key.1 port.peer port.kind port.sint port.vp base count)
  pub birth : served_to operations at ≡ port.born

-- an entry created the port with this key, and nothing has ended the port since
pub record WasMade (operations : List Operation) (key : ℕ × ℕ) (port : PortRow) : Type 0 where
  pub at : ℕ
  pub making : IsMaking operations at key port
  pub kept : HasNotSince operations at (DeletesPort key.0 key.1)
  pub alive : HasNotSince operations at (Finalizes key.0)

-- the port with this key existed at the entry of number k: an earlier entry created it, and nothing ended it
-- before entry k
pub record StoodAt (operations : List Operation) (k : ℕ) (key : ℕ × ℕ) (port : PortRow) : Type 0 where
  pub from : ℕ
  pub making : IsMaking operations from key port
  pub before : from < k
  pub kept : HasNot operations from k (DeletesPort key.0 key.1)
  pub alive : HasNot operations from k (Finalizes key.0)

-- an entry created the connection with this key, (partition, id), and nothing has ended it since. Its port
-- existed at that entry, for the connection's partition. The connection keeps the port's type and birth
pub record WasConnected (operations : List Operation) (key : ℕ × ℕ) (conn : ConnRow) : Type 0 where
  pub at : ℕ
  pub port : PortRow
  pub stood : StoodAt operations at (conn.part, conn.port) port
  pub peer : port.peer ≡ key.0
  pub kind : port.kind ≡ conn.kind
  pub born : port.born ≡ conn.born
  pub connected : DidAt operations at (Connects key.0 key.1 conn.part conn.port conn.kind)
  pub kept : HasNotSince operations at (Disconnects key.0 key.1)
  pub alive : HasNotSince operations at (Finalizes key.0)

-- a port and a connection to it both existed at the entry of number k. The port was created for the sender, a
-- later entry connected the sender to it, and nothing ended either before entry k
pub record HasWay (operations : List Operation) (k : ℕ) (key : ℕ × ℕ) (port : PortRow)
    (sender connection : ℕ) : Type 0 where
  pub stood : StoodAt operations k key port
  pub peer : port.peer ≡ sender
  pub at : ℕ
  pub connected : DidAt operations at (Connects sender connection key.0 key.1 port.kind)
  pub after : stood.from < at
  pub before : at < k
  pub conn_kept : HasNot operations at k (Disconnects sender connection)
  pub conn_alive : HasNot operations at k (Finalizes sender)

-- the entry of number k posted a message, through a connection of the sender to the message port of its
-- birth, which aims at the message's SINT. The message is at the processor that took it in the state before
-- that entry: the one at which the port aims, which was ready for messages, or for any the lowest that was
-- ready. Neither this processor nor its partition has ended since
pub record WasPosted (states : ℕ → Flat) (operations : List Operation) (row : MailRow) (k : ℕ) : Type 0 where
  pub port : PortRow
  pub sender : ℕ
  pub connection : ℕ
  pub way : HasWay operations k (row.part, row.port) port sender connection
  pub kind : port.kind ≡ port_type.Message
  pub aimed : port.sint ≡ row.sint
  pub born : port.born ≡ row.born
  pub taken : select_vp is_ready_for_messages (states k) row.part port.vp ≡ Some row.vp
  pub posted : DidAt operations k (Posts sender connection row.type row.payload)
  pub kept : HasNotSince operations k (DeletesVp row.part row.vp)
  pub alive : HasNotSince operations k (Finalizes row.part)

-- each message was posted later than the one before it, and the first later than a given entry. So no post
-- yields two messages, and no message overtakes another
abbrev pub WerePosted : (ℕ → Flat) → List Operation → ℕ → List MailRow → Type 0
WerePosted states operations before [] = Unit {0}
WerePosted states operations before (row ∷ mail) =
    (k : ℕ) × (before < k) × WasPosted states operations row k × WerePosted states operations k mail

-- the entry of number k set a flag of a processor's SINT, one of the flags of an event port that aims at the
-- SINT, through a connection of the sender to that port. The processor is the one that took it in the state
-- before that entry: the one at which the port aims, which was ready for event flags, or for any the lowest
-- that was ready. Neither the processor nor its partition has ended since, and the processor has not cleared
-- the flag
pub record WasSignalled (states : ℕ → Flat) (operations : List Operation) (id vp sint flag : ℕ) : Type 0 where
  pub k : ℕ
  pub port_id : ℕ
  pub port : PortRow
  pub sender : ℕ
  pub connection : ℕ
  pub number : ℕ
  pub way : HasWay operations k (id, port_id) port sender connection
  pub kind : port.kind ≡ port_type.Event
  pub aimed : port.sint ≡ sint
  pub within : number < port.count
  pub is : flag ≡ port.base + number
  pub taken : select_vp is_ready_for_flags (states k) id port.vp ≡ Some vp
  pub signalled : DidAt operations k (Signals sender connection number)
  pub kept : HasNotSince operations k (DeletesVp id vp)
  pub alive : HasNotSince operations k (Finalizes id)
  pub set : HasNotSince operations k (ClearsFlag id vp sint flag)

-- every connection that keeps the birth of the port to which it leads belongs to that port's peer
abbrev pub AreOfPeers : Flat → Type 0
AreOfPeers f = (key : ℕ × ℕ) (conn : ConnRow) (port : PortRow) → get f.conn key ≡ Some conn
    → get f.port (conn.part, conn.port) ≡ Some port → port.born ≡ conn.born → port.peer ≡ key.0

-- whether an event flag of a SINT is set, at the processor with this row
abbrev pub has_flag : ℕ → ℕ → VpRow → Bool
has_flag sint flag row = set.contains row.flags (sint, flag)

-- whether an event flag of a processor's SINT is set
abbrev pub is_flag_set : Flat → ℕ → ℕ → ℕ → ℕ → Bool
is_flag_set f id vp sint flag = on_vp f (id, vp) (has_flag sint flag)
