-- Low equivalence for one event: the part of a state on which the reply depends.
use Rattle.std.specs.Prelude.{◌≡◌, ℕ, true, Option, None, Some, option_map}
use Rattle.std.specs.FinMap.{get}
use Rattle.hv_calls.specs.declared.call.Call.{Call}
use Rattle.hv_calls.specs.declared.call.Call.TheVariants.{PostMessage, SignalEvent, ConnectPort}
use Rattle.hv_policy.specs.Aim.{aims_at}
use Rattle.hv_policy.specs.Call.{called}
use Rattle.hv_policy.specs.Flat.{ConnRow, Flat, PartRow, PortRow}
use Rattle.hv_policy.specs.Mail.{kept_of}
use Rattle.hv_policy.specs.Needs.{resolved_id}
use Rattle.hv_policy.specs.declared.event.Action.{Action}
use Rattle.hv_policy.specs.declared.event.Action.TheVariants.{Hypercall}
use Rattle.hv_policy.specs.declared.event.Event.{Event}
use Rattle.hv_security.specs.Same.{HasSame, is_relative}

-- whether a partition exists, and its parent if it does
abbrev pub lineage : Option PartRow → Option (Option ℕ)
lineage row = option_map (λ row. row.parent) row

-- two states agree for a caller: on the next id, on which partitions exist and their parents, and on
-- everything that the caller's relatives have
pub record Agrees (caller : ℕ) (f g : Flat) : Type 0 where
  pub next : f.next ≡ g.next
  pub parents : (id : ℕ) → lineage (get f.part id) ≡ lineage (get g.part id)
  pub relatives : (id : ℕ) → is_relative f caller id ≡ true → HasSame id f g

-- two states agree on a connection's port: on its row, and on the processor at which it aims, or on all of
-- its partition's processors if it aims at any
pub record AgreesOnPort (conn : ConnRow) (f g : Flat) : Type 0 where
  pub port : get f.port (conn.part, conn.port) ≡ get g.port (conn.part, conn.port)
  pub aimed : (port : PortRow) → get f.port (conn.part, conn.port) ≡ Some port
      → (vp : ℕ) → aims_at port.vp vp ≡ true → get f.vp (conn.part, vp) ≡ get g.vp (conn.part, vp)

abbrev pub AgreesThrough : Option ConnRow → Flat → Flat → Type 0
AgreesThrough None f g = Unit {0}
AgreesThrough (Some conn) f g = AgreesOnPort conn f g

-- two states agree on the number of messages that came through a connection's port and are kept
abbrev pub AgreesOnKept : Option ConnRow → Flat → Flat → Type 0
AgreesOnKept None f g = Unit {0}
AgreesOnKept (Some conn) f g =
    kept_of conn.part conn.port conn.born f.mail ≡ kept_of conn.part conn.port conn.born g.mail

-- two states agree on the port that a call names: for a post or a signal the end of the caller's connection,
-- for a post also the number of its messages, for HvConnectPort the port to connect to. Every other call
-- names only ports of its own target
abbrev pub AgreesOnNamed : Call → ℕ → Flat → Flat → Type 0
AgreesOnNamed (PostMessage connection message_type payload) caller f g =
    AgreesThrough (get f.conn (caller, connection)) f g × AgreesOnKept (get f.conn (caller, connection)) f g
AgreesOnNamed (SignalEvent connection flag) caller f g = AgreesThrough (get f.conn (caller, connection)) f g
AgreesOnNamed (ConnectPort partition connection port_partition port port_kind) caller f g =
    get f.port (resolved_id caller port_partition, port) ≡ get g.port
    (resolved_id caller port_partition, port)
AgreesOnNamed call caller f g = Unit {0}

abbrev pub AgreesOnCalled : Option Call → ℕ → Flat → Flat → Type 0
AgreesOnCalled None caller f g = Unit {0}
AgreesOnCalled (Some call) caller f g = AgreesOnNamed call caller f g

-- two states agree on the port that an action names. An access names none
abbrev pub AgreesOnAction : {A : Type 0} → Action A → ℕ → Flat → Flat → Type 0
AgreesOnAction (Hypercall frame) caller f g = AgreesOnCalled (called frame) caller f g
AgreesOnAction access caller f g = Unit {0}

-- two states are low-equivalent for an event: they agree for its caller, and on the port that it names
pub record LowEquivalent {A : Type 0} (e : Event A) (f g : Flat) : Type 0 where
  pub own : Agrees e.by.part f g
  pub named : AgreesOnAction e.what e.by.part f g
