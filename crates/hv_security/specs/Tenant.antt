-- A tenant: one partition that cannot look up others.
use Rattle.std.specs.Prelude.{◌≡◌, ℕ, ◌==◌, Bool, true, false, List, Option, None, Some}
use Rattle.std.specs.FinMap.{get}
use Rattle.hv_calls.specs.declared.call.Call.{Call}
use Rattle.hv_calls.specs.declared.call.Call.TheVariants.{PostMessage, SignalEvent}
use Rattle.hv_policy.specs.Call.{called}
use Rattle.hv_policy.specs.Flat.{Flat}
use Rattle.hv_policy.specs.Met.{is_child, is_running}
use Rattle.hv_policy.specs.declared.event.Action.{Action}
use Rattle.hv_policy.specs.declared.event.Action.TheVariants.{Hypercall}
use Rattle.hv_policy.specs.declared.event.Event.{Event}
use Rattle.hv_security.specs.Looks.{IfOutside, LooksUpNothing, PostEndsAlike, SignalEndsAlike}
use Rattle.hv_security.specs.Turns.{AreTurns, ComesAlike, Turn}

-- a tenant is Active, has no children, and has none of the privileges that allow it to look up others
pub record IsTenant (f : Flat) (id : ℕ) : Type 0 where
  pub running : is_running f id ≡ true
  pub nothing : LooksUpNothing f id
  pub childless : (child : ℕ) → is_child f id child ≡ false

-- the set of this partition alone
abbrev pub only : ℕ → ℕ → Bool
only id other = other == id

-- two states agree on what a call sees of others. A post and a signal see the end of the connection that they
-- name, and every other call sees nothing
abbrev pub SeesAlike : (ℕ → Bool) → Call → ℕ → Flat → Flat → Type 0
SeesAlike members (PostMessage connection message_type payload) caller f g =
    IfOutside members (get f.conn (caller, connection)) (PostEndsAlike (caller, connection) f g)
SeesAlike members (SignalEvent connection flag) caller f g =
    IfOutside members (get f.conn (caller, connection)) (SignalEndsAlike flag (caller, connection) f g)
SeesAlike members call caller f g = Unit {0}

abbrev pub CallSeesAlike : (ℕ → Bool) → Option Call → ℕ → Flat → Flat → Type 0
CallSeesAlike members None caller f g = Unit {0}
CallSeesAlike members (Some call) caller f g = SeesAlike members call caller f g

abbrev pub ActionSeesAlike : {A : Type 0} → (ℕ → Bool) → Action A → ℕ → Flat → Flat → Type 0
ActionSeesAlike members (Hypercall frame) caller f g = CallSeesAlike members (called frame) caller f g
ActionSeesAlike members access caller f g = Unit {0}

-- an event that comes in both runs: the tenant's own, which sees the same end of the connection that it
-- names; or another's, which does the same to the tenant
abbrev pub IsTenantTurn : {A : Type 0} → ℕ → Event A → Flat → Flat → Type 0
IsTenantTurn tenant event f g =
    ComesAlike (only tenant event.by.part) (ActionSeesAlike (only tenant) event.what event.by.part f g)
    (only tenant) event f g

abbrev pub AreTenantTurns : {A : Type 0} → ℕ → List (Turn A) → Flat → Flat → Type 0
AreTenantTurns tenant turns f g = AreTurns (IsTenantTurn tenant) (only tenant) turns f g
