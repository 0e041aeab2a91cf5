-- Which partitions an event is not about.
use Rattle.std.specs.Prelude.{◌≡◌, ℕ, ◌==◌, true, false, Option, None, Some}
use Rattle.std.specs.FinMap.{get}
use Rattle.hv_calls.specs.declared.call.Call.{Call}
use Rattle.hv_calls.specs.declared.call.Call.TheVariants.{CreatePartition, DeletePartition}
use Rattle.hv_calls.specs.declared.call.Call.TheVariants.{SetPartitionProperty, DepositMemory, WithdrawMemory}
use Rattle.hv_calls.specs.declared.call.Call.TheVariants.{PostMessage, SignalEvent}
use Rattle.hv_policy.specs.Call.{called}
use Rattle.hv_policy.specs.Effect.{narrows}
use Rattle.hv_policy.specs.Flat.{ConnRow, Flat}
use Rattle.hv_policy.specs.Needs.{target_of}
use Rattle.hv_policy.specs.Property.{property_of}
use Rattle.hv_policy.specs.Rules.{unmet}
use Rattle.hv_policy.specs.Subtree.{is_in_subtree}
use Rattle.hv_policy.specs.calls.{policy_of}
use Rattle.hv_policy.specs.declared.event.Action.{Action}
use Rattle.hv_policy.specs.declared.event.Action.TheVariants.{Hypercall}
use Rattle.hv_policy.specs.declared.event.Event.{Event}
use Rattle.hv_security.specs.Same.{HasSame}

-- a connection, if there is one, does not lead to a partition
abbrev pub IsNoEnd : ℕ → Option ConnRow → Type 0
IsNoEnd id conn = (row : ConnRow) → conn ≡ Some row → id == row.part ≡ false

-- a call that only reads is about no partition
abbrev pub UnlessReading : Option (Flat → ℕ → ℕ → Flat) → Type 0 → Type 0
UnlessReading None P = Unit {0}
UnlessReading (Some effect) P = P

-- a call is not about a partition: the partition is not its target, the one that it creates, the one to which
-- it sends, in the subtree that it narrows, or the caller whose pages it moves
abbrev pub Misses : Call → ℕ → Flat → ℕ → Type 0
Misses (CreatePartition flags) caller f id = id == f.next ≡ false
Misses (PostMessage connection message_type payload) caller f id = IsNoEnd id
    (get f.conn (caller, connection))
Misses (SignalEvent connection flag) caller f id = IsNoEnd id (get f.conn (caller, connection))
Misses (SetPartitionProperty partition code value) caller f id =
    (id == target_of (SetPartitionProperty partition code value) caller ≡ false)
    × (narrows (property_of code) f (target_of (SetPartitionProperty partition code value) caller) ≡ true
    → is_in_subtree f (target_of (SetPartitionProperty partition code value) caller) id ≡ false)
Misses (DeletePartition partition) caller f id = (id == target_of (DeletePartition partition) caller ≡ false)
    × (id == caller ≡ false)
Misses (DepositMemory partition page) caller f id =
    (id == target_of (DepositMemory partition page) caller ≡ false) × (id == caller ≡ false)
Misses (WithdrawMemory partition) caller f id = (id == target_of (WithdrawMemory partition) caller ≡ false) ×
    (id == caller ≡ false)
Misses call caller f id = UnlessReading (policy_of call).effect (id == target_of call caller ≡ false)

abbrev pub CallMisses : Option Call → ℕ → Flat → ℕ → Type 0
CallMisses None caller f id = Unit {0}
CallMisses (Some call) caller f id = Misses call caller f id

-- an action is not about a partition. An access is about its caller
abbrev pub ActionMisses : {A : Type 0} → Action A → ℕ → Flat → ℕ → Type 0
ActionMisses (Hypercall frame) caller f id = CallMisses (called frame) caller f id
ActionMisses access caller f id = id == caller ≡ false

-- an event that leads from `f` to `g` leaves unchanged every partition that it is not about. A refused event
-- is about none
abbrev pub LeavesOthers : {A : Type 0} → Event A → Flat → Flat → Type 0
LeavesOthers event f g = (id : ℕ) → (unmet f event ≡ None → ActionMisses event.what event.by.part f id) →
    HasSame id f g
