-- Accesses as events.
use Rattle.std.specs.Prelude.{ℕ, List, Result, Ok, Err}
use Rattle.hv_admit.specs.declared.effect.Effect.{Effect}
use Rattle.hv_admit.specs.declared.effect.Effect.TheVariants.{Nothing}
use Rattle.hv_policy.specs.Call.{action_of}
use Rattle.hv_policy.specs.declared.event.Access.{Access}
use Rattle.hv_policy.specs.declared.event.Caller.{Caller}
use Rattle.hv_policy.specs.declared.event.Event.{Event}
use Rattle.hv_policy.specs.declared.reply.Reply.{Reply}
use Rattle.hv_policy.specs.declared.reply.Reply.TheVariants.{Served, Fault}
use Rattle.hv_policy.specs.declared.rule.Rule.{Rule}

-- an access as an event
abbrev pub access_event : {A : Type 0} → Caller → Access → Event A
access_event by access = record { by = by; what = action_of access }

-- the reply to an access, from its result and its output
abbrev pub access_reply : {U : Type 0} → Result U Rule → List ℕ → Reply
access_reply (Ok _) output = Served output
access_reply (Err rule) output = Fault rule

-- the effect of an access, from its result. One that a rule refuses has none
abbrev pub effect_in : Result Effect Rule → Effect
effect_in (Ok effect) = effect
effect_in (Err rule) = Nothing
