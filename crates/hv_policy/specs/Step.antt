-- The flat machine.
use Rattle.std.specs.Prelude.{List, [], ◌∷◌, Option, None, Some, Contains}
use Rattle.hv_abi.specs.Check.{call_of}
use Rattle.hv_abi.specs.declared.status.Status.{Status}
use Rattle.hv_abi.specs.declared.frame.Frame.{Frame}
use Rattle.hv_policy.specs.declared.config.Config.{Config}
use Rattle.hv_policy.specs.declared.event.Action.{Action}
use Rattle.hv_policy.specs.declared.event.Action.TheVariants.{Hypercall}
use Rattle.hv_policy.specs.declared.event.Event.{Event}
use Rattle.hv_policy.specs.declared.reply.Reply.{Reply}
use Rattle.hv_policy.specs.declared.reply.Reply.TheVariants.{Served, More, Denied, Fault}
use Rattle.hv_policy.specs.declared.rule.Rule.{Rule}
use Rattle.hv_policy.specs.Answer.{answer}
use Rattle.hv_policy.specs.Boot.{boot}
use Rattle.hv_policy.specs.Effect.{effect}
use Rattle.hv_policy.specs.Flat.{Flat}
use Rattle.hv_policy.specs.Result.{refused_reps}
use Rattle.hv_policy.specs.Rule.{rule_status}
use Rattle.hv_policy.specs.Rules.{asked, unmet}

abbrev pub denied_with : {A : Type 0} → Frame A → Rule → Option Status → Reply
denied_with frame rule None = Fault rule
denied_with frame rule (Some status) = Denied rule status (refused_reps frame.rcx)

-- the reply to an event that a rule refuses: a call is denied with the rule's status, an access faults
abbrev pub refusal : {A : Type 0} → Action A → Rule → Reply
refusal (Hypercall frame) rule = denied_with frame rule (rule_status rule (call_of frame))
refusal access rule = Fault rule

abbrev pub step_by : {A : Type 0} → Flat → Event A → Option Rule → Flat × Reply
step_by f event None = (effect f event, answer f event)
step_by f event (Some rule) = (f, refusal event.what rule)

-- one event: it is served if all its rules hold, else the first that fails refuses it, and nothing changes
abbrev pub step : {A : Type 0} → Flat → Event A → Flat × Reply
step f event = step_by f event (unmet f event)

-- a rule applies to an event in every state, as the rule of a refusal does
abbrev pub IsAsked : {A : Type 0} → Event A → Rule → Type 0
IsAsked event rule = (f : Flat) → Contains (asked f event) rule

abbrev pub NamesAsked : {A : Type 0} → Event A → Reply → Type 0
NamesAsked event (Served output) = Unit {0}
NamesAsked event (More next output) = Unit {0}
NamesAsked event (Denied rule status reps) = IsAsked event rule
NamesAsked event (Fault rule) = IsAsked event rule

abbrev pub run_from : {A : Type 0} → Flat → List (Event A) → Flat × List Reply
run_from f [] = (f, [])
run_from f (event ∷ events) =
    ((run_from (step f event).0 events).0, (step f event).1 ∷ (run_from (step f event).0 events).1)

-- the state after a list of events from boot, and the list of their replies
abbrev pub run : {A : Type 0} → Config → List (Event A) → Flat × List Reply
run config events = run_from (boot config) events
