-- Members that name members alone look at nothing outside.
use Rattle.std.proofs.Common.{◌≡◌, ℕ, Bool, true, false, List, Option, Some, None, sym, ◌∙◌}
use Rattle.hv_calls.specs.declared.call.Call.{Call}
use Rattle.hv_calls.specs.declared.call.Call.TheVariants.{CreatePartition, PostMessage, SignalEvent, CreatePort, ConnectPort}
use Rattle.hv_policy.specs.Call.{called}
use Rattle.hv_policy.specs.Flat.{Flat}
use Rattle.hv_policy.specs.declared.event.Action.{Action}
use Rattle.hv_policy.specs.declared.event.Action.TheVariants.{Hypercall}
use Rattle.hv_policy.specs.declared.event.Event.{Event}
use Rattle.hv_security.specs.Alike.{AreLowEquivalent}
use Rattle.hv_security.specs.Looks.{ActionLooksAlike, CallLooksAlike, LooksAlike}
use Rattle.hv_security.specs.Turns.{AreAnsweredAlike, IsMatched, IsReached, Turn}
use Rattle.hv_security.specs.Within.{ActionStaysWithin, AreWithin, CallStaysWithin, IsWithin, StaysWithin}
use Rattle.hv_security.proofs.StrongerTurns.{comes_narrower, turns_narrower}
use Rattle.hv_security.proofs.MatchedRuns.{replies_matched}

module _ (members : ℕ → Bool) (f g : Flat) (caller : ℕ) where
  -- a member is no outsider
  no_outsider : {P : Type 0} (id : ℕ) → members id ≡ true → members id ≡ false → P
  no_outsider id own off = let clash = sym own ∙ off in cc

  call_within : (call : Call) → StaysWithin members call caller f g → LooksAlike members call caller f g
  call_within (CreatePartition flags) stays = stays
  call_within (PostMessage connection message_type payload) stays = λ conn is off. no_outsider conn.part (stays conn is) off
  call_within (SignalEvent connection flag) stays = λ conn is off. no_outsider conn.part (stays conn is) off
  call_within (CreatePort partition port peer port_kind sint vp base count) stays = (no_outsider _ stays.0, no_outsider _ stays.1)
  call_within (ConnectPort partition connection port_partition port port_kind) stays = (no_outsider _ stays.0, no_outsider _ stays.1, no_outsider _ stays.1)
  call_within call stays = no_outsider _ stays

  called_within : (call : Option Call) → CallStaysWithin members call caller f g → CallLooksAlike members call caller f g
  called_within None stays = tt
  called_within (Some call) stays = λ has. call_within call stays

  action_within : {A : Type 0} (what : Action A) → ActionStaysWithin members what caller f g → ActionLooksAlike members what caller f g
  action_within (Hypercall frame) stays = called_within (called frame) stays
  action_within what stays = tt

module _ {A : Type 0} (members : ℕ → Bool) where
  event_within : (e : Event A) (f g : Flat) → IsWithin members e f g → IsMatched members e f g
  event_within e f g m = (m.0, m.1, comes_narrower (members e.by.part) _ _ members e f g (λ own stays. action_within members f g e.by.part e.what stays) m.2)

  pub replies_within : (turns : List (Turn A)) (f g : Flat) → IsReached A f → IsReached A g → AreLowEquivalent members f g → AreWithin members turns f g → AreAnsweredAlike members turns f g
  replies_within turns f g r q a m =
      replies_matched members turns f g r q a (turns_narrower members (IsWithin members) (IsMatched members) (λ f. Unit {0}) (λ f e h. tt) (λ e f g h k m. event_within e f g m) turns f g tt tt m)
