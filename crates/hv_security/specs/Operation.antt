-- What each entry of a history did to ports, connections, messages and event flags.
use Rattle.std.specs.Prelude.{◌≡◌, ℕ, zero, suc, Bool, true, false, take, List, [], ◌∷◌, Option, None, Some}
use Rattle.std.specs.Prelude.{count_by, slice_get}
use Rattle.std.specs.Option.{option_map_or}
use Rattle.hv_calls.specs.declared.call.Call.{Call}
use Rattle.hv_calls.specs.declared.call.Call.TheVariants.{CreatePort, DeletePort, ConnectPort, DisconnectPort}
use Rattle.hv_calls.specs.declared.call.Call.TheVariants.{PostMessage, SignalEvent, DeleteVp}
use Rattle.hv_calls.specs.declared.call.Call.TheVariants.{FinalizePartition}
use Rattle.hv_defs.specs.declared.aim.Aim.{Aim}
use Rattle.hv_defs.specs.declared.port_kind.PortKind.{PortKind}
use Rattle.hv_policy.specs.Call.{called}
use Rattle.hv_policy.specs.Needs.{resolved_id}
use Rattle.hv_policy.specs.declared.event.Action.{Action}
use Rattle.hv_policy.specs.declared.event.Action.TheVariants.{Hypercall, ClearFlag}
use Rattle.hv_policy.specs.declared.event.Caller.{Caller}
use Rattle.hv_policy.specs.declared.event.Event.{Event}
use Rattle.hv_policy.specs.declared.reply.Reply.{Reply}
use Rattle.hv_policy.specs.declared.reply.Reply.TheVariants.{Served, More, Denied, Fault}

-- What an entry did, with each partition by its id. HvCreatePort creates a port of a partition, for a peer,
-- with what it takes, its SINT, the processor at which it aims, or any, and the first and the number of its
-- flags; HvDeletePort deletes it. HvConnectPort creates a connection of a partition to a port, which takes
-- messages or flags; HvDisconnectPort deletes it. HvPostMessage posts a message through a connection of a
-- partition; HvSignalEvent sets the flag with a number through one. HvDeleteVp deletes a processor of a
-- partition; HvFinalizePartition ends a partition. A processor clears a flag of its own. A served event may
-- do none of these, and a refused one does nothing.
pub data Operation : Type 0 where
  MakesPort : (id port peer : ℕ) (kind : PortKind) (sint : ℕ) (aim : Aim) (base count : ℕ) → Operation
  DeletesPort : (id port : ℕ) → Operation
  Connects : (id connection port_id port : ℕ) (kind : PortKind) → Operation
  Disconnects : (id connection : ℕ) → Operation
  Posts : (id connection type : ℕ) (payload : List ℕ) → Operation
  Signals : (id connection number : ℕ) → Operation
  DeletesVp : (id vp : ℕ) → Operation
  Finalizes : (id : ℕ) → Operation
  ClearsFlag : (id vp sint flag : ℕ) → Operation
  DoesElse : Operation
  IsRefused : Operation

-- the operation of a call by a processor of a partition
abbrev pub call_operation : Call → ℕ → Operation
call_operation (CreatePort partition port peer port_kind sint vp base count) caller =
    MakesPort (resolved_id caller partition) port (resolved_id caller peer) port_kind sint vp base count
call_operation (DeletePort partition port) caller = DeletesPort (resolved_id caller partition) port
call_operation (ConnectPort partition connection port_partition port port_kind) caller =
    Connects (resolved_id caller partition) connection (resolved_id caller port_partition) port port_kind
call_operation (DisconnectPort partition connection) caller = Disconnects (resolved_id caller partition)
    connection
call_operation (PostMessage connection message_type payload) caller = Posts caller connection message_type
    payload
call_operation (SignalEvent connection flag) caller = Signals caller connection flag
call_operation (DeleteVp partition vp) caller = DeletesVp (resolved_id caller partition) vp
call_operation (FinalizePartition partition) caller = Finalizes (resolved_id caller partition)
call_operation call caller = DoesElse

abbrev pub called_deed : Option Call → ℕ → Operation
called_deed call caller = option_map_or (λ call. call_operation call caller) call DoesElse

abbrev pub action_deed : {A : Type 0} → Caller → Action A → Operation
action_deed by (Hypercall frame) = called_deed (called frame) by.part
action_deed by (ClearFlag sint flag) = ClearsFlag by.part by.vp sint flag
action_deed by access = DoesElse

-- the operation of a served event
abbrev pub served_deed : {A : Type 0} → Event A → Operation
served_deed event = action_deed event.by event.what

-- the operation of an event with this reply
abbrev pub operation_of : {A : Type 0} → Event A → Reply → Operation
operation_of event (Served output) = served_deed event
operation_of event (More next output) = served_deed event
operation_of event (Denied rule status reps) = IsRefused
operation_of event (Fault rule) = IsRefused

-- the operations of a history's entries, in order. The history is the events with their replies
abbrev pub operations_of : {A : Type 0} → List (Event A) → List Reply → List Operation
operations_of [] replies = []
operations_of (event ∷ events) [] = []
operations_of (event ∷ events) (reply ∷ replies) = operation_of event reply ∷ operations_of events replies

-- the operation of the entry of this number. Numbers start at 1, as the audit's lines do
abbrev pub operation_at : List Operation → ℕ → Option Operation
operation_at operations zero = None
operation_at operations (suc before) = slice_get operations before

-- the entry of this number did this operation
pub record DidAt (operations : List Operation) (number : ℕ) (operation : Operation) : Type 0 where
  pub is : operation_at operations number ≡ Some operation

-- whether an entry's event was served, and how many events were served up to a number
abbrev pub was_served : Operation → Bool
was_served IsRefused = false
was_served operation = true

abbrev pub served_to : List Operation → ℕ → ℕ
served_to operations number = count_by was_served (take number operations)
