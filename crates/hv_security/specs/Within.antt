-- Members whose calls name only members.
use Rattle.std.specs.Prelude.{◌≡◌, ℕ, Bool, true, List, Option, None, Some}
use Rattle.std.specs.FinMap.{get}
use Rattle.hv_calls.specs.declared.call.Call.{Call}
use Rattle.hv_calls.specs.declared.call.Call.TheVariants.{CreatePartition, PostMessage, SignalEvent}
use Rattle.hv_calls.specs.declared.call.Call.TheVariants.{CreatePort, ConnectPort}
use Rattle.hv_policy.specs.Call.{called}
use Rattle.hv_policy.specs.Flat.{ConnRow, Flat}
use Rattle.hv_policy.specs.Needs.{resolved_id, target_of}
use Rattle.hv_policy.specs.declared.event.Action.{Action}
use Rattle.hv_policy.specs.declared.event.Action.TheVariants.{Hypercall}
use Rattle.hv_policy.specs.declared.event.Event.{Event}
use Rattle.hv_security.specs.Alike.{AreClosed}
use Rattle.hv_security.specs.Looks.{NextAlike}
use Rattle.hv_security.specs.Turns.{AreTurns, ComesAlike, Turn}

-- a connection, if there is one, leads to a member
abbrev pub LeadsWithin : (ℕ → Bool) → Option ConnRow → Type 0
LeadsWithin members conn = (row : ConnRow) → conn ≡ Some row → members row.part ≡ true

-- every partition that a call names is a member: its target, a port's peer, the partition of the port to
-- connect to, and the partition at the end of a connection. HvCreatePartition names none, but both states
-- agree on whether its caller is too deep, and, if it is served, on the next id
abbrev pub StaysWithin : (ℕ → Bool) → Call → ℕ → Flat → Flat → Type 0
StaysWithin members (CreatePartition flags) caller f g = NextAlike caller f g
StaysWithin members (PostMessage connection message_type payload) caller f g = LeadsWithin members
    (get f.conn (caller, connection))
StaysWithin members (SignalEvent connection flag) caller f g = LeadsWithin members
    (get f.conn (caller, connection))
StaysWithin members (CreatePort partition port peer port_kind sint vp base count) caller f g =
    (members (resolved_id caller partition) ≡ true) × (members (resolved_id caller peer) ≡ true)
StaysWithin members (ConnectPort partition connection port_partition port port_kind) caller f g =
    (members (resolved_id caller partition) ≡ true) × (members (resolved_id caller port_partition) ≡ true)
StaysWithin members call caller f g = members (target_of call caller) ≡ true

abbrev pub CallStaysWithin : (ℕ → Bool) → Option Call → ℕ → Flat → Flat → Type 0
CallStaysWithin members None caller f g = Unit {0}
CallStaysWithin members (Some call) caller f g = StaysWithin members call caller f g

-- every partition that an action names is a member. An access names none
abbrev pub ActionStaysWithin : {A : Type 0} → (ℕ → Bool) → Action A → ℕ → Flat → Flat → Type 0
ActionStaysWithin members (Hypercall frame) caller f g = CallStaysWithin members (called frame) caller f g
ActionStaysWithin members access caller f g = Unit {0}

-- an event that comes in both runs, while members' children are members: a member's, which names only
-- members; or another's, which does the same to members
abbrev pub IsWithin : {A : Type 0} → (ℕ → Bool) → Event A → Flat → Flat → Type 0
IsWithin members event f g =
    AreClosed members f × AreClosed members g
    × ComesAlike (members event.by.part) (ActionStaysWithin members event.what event.by.part f g) members
    event f g

abbrev pub AreWithin : {A : Type 0} → (ℕ → Bool) → List (Turn A) → Flat → Flat → Type 0
AreWithin members turns f g = AreTurns (IsWithin members) members turns f g
