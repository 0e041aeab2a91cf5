-- What events leave as the count of served events.
use Rattle.std.proofs.Common.{◌≡◌, ℕ, ◌+◌, ◌≤◌, List, [], ◌∷◌, length, Option, Some, None, refl, arith}
use Rattle.hv_calls.specs.declared.call.Call.{Call}
use Rattle.hv_calls.specs.declared.call.Call.TheVariants.{CreatePartition, SetVpRegisters, PostMessage, SignalEvent}
use Rattle.hv_defs.specs.Registers.{name_of_msr}
use Rattle.hv_policy.specs.Aim.{aim_of}
use Rattle.hv_policy.specs.Boot.{boot}
use Rattle.hv_policy.specs.Call.{called}
use Rattle.hv_policy.specs.Effect.{action_effect, call_effect, served_effect}
use Rattle.hv_policy.specs.Flat.{Flat}
use Rattle.hv_policy.specs.Needs.{target_of}
use Rattle.hv_policy.specs.Rules.{unmet}
use Rattle.hv_policy.specs.Step.{run, run_from, step, step_by}
use Rattle.hv_policy.specs.declared.config.Config.{Config}
use Rattle.hv_policy.specs.declared.event.Action.{Action}
use Rattle.hv_policy.specs.declared.event.Action.TheVariants.{Hypercall, WriteMsr}
use Rattle.hv_policy.specs.declared.event.Caller.{Caller}
use Rattle.hv_policy.specs.declared.event.Event.{Event}
use Rattle.hv_policy.specs.declared.rule.Rule.{Rule}
use Rattle.hv_invariants.proofs.MessageChanges.{posted_counted, register_counted, signalled_counted, msr_counted}

-- what a call changes isn't the count
pub call_served : (call : Call) (f : Flat) (caller target : ℕ) → (call_effect call f caller target).served ≡ f.served
call_served (CreatePartition flags) f caller target = refl
call_served (SetVpRegisters partition vp name value) f caller target = (register_counted target vp name value f).served
call_served (PostMessage connection message_type payload) f caller target = (posted_counted (aim_of f (target, connection)) message_type payload f).served
call_served (SignalEvent connection flag) f caller target = (signalled_counted (aim_of f (target, connection)) flag f).served
call_served call f caller target = refl

served_by : (f : Flat) (caller : ℕ) (call : Option Call) → (served_effect f caller call).served ≡ f.served
served_by f caller None = refl
served_by f caller (Some call) = call_served call f caller (target_of call caller)

module _ {A : Type 0} where
  -- nor what any action changes
  pub action_served : (what : Action A) (f : Flat) (by : Caller) → (action_effect f by what).served ≡ f.served
  action_served (Hypercall frame) f by = served_by f by.part (called frame)
  action_served (WriteMsr msr value) f by = (msr_counted by.part by.vp (name_of_msr msr) value f).served
  action_served what f by = refl

  -- an event counts once where it is served, and not where it is refused
  pub step_served : (f : Flat) (e : Event A) → (step f e).0.served ≤ f.served + 1
  step_served f e = by (unmet f e)
    where
      by : (rule : Option Rule) → (step_by f e rule).0.served ≤ f.served + 1
      by None = let same = action_served e.what f e.by in omega arith
      by (Some rule) = omega arith

  -- so no more are served than there are
  pub run_served : (f : Flat) (events : List (Event A)) → (run_from f events).0.served ≤ f.served + length events
  run_served f [] = omega arith
  run_served f (e ∷ events) =
      let rest = run_served (step f e).0 events in
      let one = step_served f e in
      omega arith

  pub run_few : (config : Config) (events : List (Event A)) → (run config events).0.served ≤ length events
  run_few config events = let few = run_served (boot config) events in omega arith
