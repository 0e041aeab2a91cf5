-- Two runs side by side, turn by turn.
use Rattle.std.specs.Prelude.{◌≡◌, ℕ, if◌then◌else◌, map, Bool, true, false, List, [], ◌∷◌, Option, None}
use Rattle.std.specs.Prelude.{Some, filter}
use Rattle.std.specs.FinMap.{get}
use Rattle.hv_calls.specs.declared.call.Call.{Call}
use Rattle.hv_calls.specs.declared.call.Call.TheVariants.{CreatePartition, PostMessage, SignalEvent}
use Rattle.hv_calls.specs.declared.call.Call.TheVariants.{SetPartitionProperty}
use Rattle.hv_policy.specs.BootFault.{boot_fault}
use Rattle.hv_policy.specs.Call.{called}
use Rattle.hv_policy.specs.Effect.{mask_of, narrows}
use Rattle.hv_policy.specs.Flat.{ConnRow, Flat}
use Rattle.hv_policy.specs.Needs.{target_of}
use Rattle.hv_policy.specs.Property.{property_of}
use Rattle.hv_policy.specs.Rules.{unmet}
use Rattle.hv_policy.specs.Step.{run, run_from, step}
use Rattle.hv_policy.specs.Subtree.{is_in_subtree}
use Rattle.hv_policy.specs.declared.config.Config.{Config}
use Rattle.hv_policy.specs.declared.event.Action.{Action}
use Rattle.hv_policy.specs.declared.event.Action.TheVariants.{Hypercall}
use Rattle.hv_policy.specs.declared.event.Event.{Event}
use Rattle.hv_policy.specs.declared.reply.Reply.{Reply}
use Rattle.hv_security.specs.Alike.{AreLowEquivalent, AreClosed}
use Rattle.hv_security.specs.Looks.{ActionLooksAlike}

-- a turn: an event that comes in the first run, in the second, or in both
pub data Turn (A : Type 0) : Type 0 where
  Here : (event : Event A) → Turn A
  There : (event : Event A) → Turn A
  Both : (event : Event A) → Turn A

-- the events of the first run, and those of the second
abbrev pub events_here : {A : Type 0} → List (Turn A) → List (Event A)
events_here [] = []
events_here (Here event ∷ turns) = event ∷ events_here turns
events_here (There event ∷ turns) = events_here turns
events_here (Both event ∷ turns) = event ∷ events_here turns

abbrev pub events_there : {A : Type 0} → List (Turn A) → List (Event A)
events_there [] = []
events_there (Here event ∷ turns) = events_there turns
events_there (There event ∷ turns) = event ∷ events_there turns
events_there (Both event ∷ turns) = event ∷ events_there turns

-- the replies to members' events, selected from all replies
abbrev pub own_replies : {A : Type 0} → (ℕ → Bool) → List (Event A) → List Reply → List Reply
own_replies members [] replies = []
own_replies members (event ∷ events) [] = []
own_replies members (event ∷ events) (reply ∷ replies) =
    if members event.by.part then reply ∷ own_replies members events replies else own_replies members events
    replies

-- two connections, if both exist, lead to the same port
abbrev pub LeadsAlike : Option ConnRow → Option ConnRow → Type 0
LeadsAlike c d = (conn other : ConnRow) → c ≡ Some conn → d ≡ Some other → (conn.part ≡ other.part) ×
    (conn.port ≡ other.port)

-- a call does the same to members in two states in which it is served. A new partition gets the same id and
-- mask. A post and a signal go to the same port. A property is set on a member, or a mask narrows the same
-- members. Every other call's target is a member
abbrev pub DoesAlike : (ℕ → Bool) → Call → ℕ → Flat → Flat → Type 0
DoesAlike members (CreatePartition flags) caller f g =
    (f.next ≡ g.next) × (mask_of (get f.part caller) ≡ mask_of (get g.part caller))
DoesAlike members (PostMessage connection message_type payload) caller f g =
    LeadsAlike (get f.conn (caller, connection)) (get g.conn (caller, connection))
DoesAlike members (SignalEvent connection flag) caller f g =
    LeadsAlike (get f.conn (caller, connection)) (get g.conn (caller, connection))
DoesAlike members (SetPartitionProperty partition code value) caller f g =
    members (target_of (SetPartitionProperty partition code value) caller) ≡ false
    → (narrows (property_of code) f (target_of (SetPartitionProperty partition code value) caller)
    ≡ narrows (property_of code) g (target_of (SetPartitionProperty partition code value) caller))
    × ((id : ℕ) → members id ≡ true → is_in_subtree f
    (target_of (SetPartitionProperty partition code value) caller) id
    ≡ is_in_subtree g (target_of (SetPartitionProperty partition code value) caller) id)
DoesAlike members call caller f g = members (target_of call caller) ≡ true

abbrev pub CallDoesAlike : (ℕ → Bool) → Option Call → ℕ → Flat → Flat → Type 0
CallDoesAlike members None caller f g = ⊥
CallDoesAlike members (Some call) caller f g = DoesAlike members call caller f g

-- an action does the same to members in two states. An access of another partition does nothing to members
abbrev pub ActionDoesAlike : {A : Type 0} → (ℕ → Bool) → Action A → ℕ → Flat → Flat → Type 0
ActionDoesAlike members (Hypercall frame) caller f g = CallDoesAlike members (called frame) caller f g
ActionDoesAlike members access caller f g = ⊥

-- an event of another partition is served in both states, and does the same to members
abbrev pub IsDoneAlike : {A : Type 0} → (ℕ → Bool) → Event A → Flat → Flat → Type 0
IsDoneAlike members event f g = (unmet f event ≡ None) × (unmet g event ≡ None) × ActionDoesAlike members
    event.what event.by.part f g

-- an event that comes in both runs: a member's, for which the given proposition holds, or another's, which
-- does the same to members
abbrev pub ComesAlike : {A : Type 0} → Bool → Type 0 → (ℕ → Bool) → Event A → Flat → Flat → Type 0
ComesAlike true known members event f g = known
ComesAlike false known members event f g = IsDoneAlike members event f g

-- an event that comes in only one run is another's, and leaves a state that is low-equivalent for the members
abbrev pub IsBeside : {A : Type 0} → (ℕ → Bool) → Event A → Flat → Type 0
IsBeside members event f = (members event.by.part ≡ false) × AreLowEquivalent members f (step f event).0

-- turn by turn: an event in only one run is beside the members, and the given relation holds for an event in
-- both
abbrev pub AreTurns : {A : Type 0} → (Event A → Flat → Flat → Type 0) → (ℕ → Bool) → List (Turn A) → Flat →
    Flat → Type 0
AreTurns known members [] f g = Unit {0}
AreTurns known members (Here event ∷ turns) f g = IsBeside members event f × AreTurns known members turns
    (step f event).0 g
AreTurns known members (There event ∷ turns) f g = IsBeside members event g × AreTurns known members turns f
    (step g event).0
AreTurns known members (Both event ∷ turns) f g = known event f g × AreTurns known members turns
    (step f event).0 (step g event).0

-- an event that comes in both runs, while members' children are members: a member's, which sees the same
-- outside the members; or another's, which does the same to members
abbrev pub IsMatched : {A : Type 0} → (ℕ → Bool) → Event A → Flat → Flat → Type 0
IsMatched members event f g =
    AreClosed members f × AreClosed members g
    × ComesAlike (members event.by.part) (ActionLooksAlike members event.what event.by.part f g) members event
    f g

abbrev pub AreMatched : {A : Type 0} → (ℕ → Bool) → List (Turn A) → Flat → Flat → Type 0
AreMatched members turns f g = AreTurns (IsMatched members) members turns f g

-- members get the same replies in both runs, and the final states are low-equivalent for them
abbrev pub AreAnsweredAlike : {A : Type 0} → (ℕ → Bool) → List (Turn A) → Flat → Flat → Type 0
AreAnsweredAlike members turns f g =
    (own_replies members (events_here turns) (run_from f (events_here turns)).1
    ≡ own_replies members (events_there turns) (run_from g (events_there turns)).1)
    × AreLowEquivalent members (run_from f (events_here turns)).0 (run_from g (events_there turns)).0

-- the members' events, and the turns that pair a run with the run of these events alone
abbrev pub own_events : {A : Type 0} → (ℕ → Bool) → List (Event A) → List (Event A)
own_events members events = filter (λ event. members event.by.part) events

abbrev pub turn_of : {A : Type 0} → (ℕ → Bool) → Event A → Turn A
turn_of members event = if members event.by.part then Both event else Here event

abbrev pub turns_of : {A : Type 0} → (ℕ → Bool) → List (Event A) → List (Turn A)
turns_of members events = map (turn_of members) events

-- a state that a run from boot reaches
pub record IsReached (A : Type 0) (f : Flat) : Type 0 where
  pub config : Config
  pub boots : boot_fault config ≡ None
  pub events : List (Event A)
  pub is : f ≡ (run config events).0
