-- From what a call group made of an access to the machine.
use Rattle.std.proofs.Common.{◌≡◌, ℕ, ◌+◌, List, None, refl, sym, ap, ◌∙◌, Ok, Err}
use Rattle.hv_defs.specs.Registers.{name_of_msr}
use Rattle.hv_admit.specs.Effect.{Tells}
use Rattle.hv_admit.specs.declared.effect.Effect.{Effect}
use Rattle.hv_admit.specs.declared.effect.Effect.TheVariants.{Nothing}
use Rattle.hv_invariants.proofs.MessageChanges.{write_next_is}
use Rattle.hv_partition.specs.Partition.{PartitionState}
use Rattle.hv_policy.proofs.Unmet.{past_caller}
use Rattle.hv_policy.specs.Call.{action_of}
use Rattle.hv_policy.specs.Effect.{action_effect}
use Rattle.hv_policy.specs.Flat.{Flat}
use Rattle.hv_policy.specs.Rules.{unmet}
use Rattle.hv_policy.specs.Step.{refusal, step}
use Rattle.hv_policy.specs.declared.event.Access.{Access}
use Rattle.hv_policy.specs.declared.event.Access.TheVariants.{WriteMsr, TakeInterrupt}
use Rattle.hv_policy.specs.declared.event.Action.{Action}
use Rattle.hv_policy.specs.declared.event.Caller.{Caller}
use Rattle.hv_policy.specs.declared.event.Event.{Event}
use Rattle.hv_policy.specs.declared.reply.Reply.TheVariants.{Served, Fault}
use Rattle.hv_policy.specs.declared.rule.Rule.{Rule}
use Rattle.hv_admit.proofs.RoomIsNoState.{tied_roomless}
use Rattle.hv_admit.specs.Access.{IsAnswered}
use Rattle.hv_admit.specs.Tie.{Refines}
use Rattle.hv_tree.specs.Rows.{Rows}
use Rattle.hv_machine.proofs.Steps.{denied, nothing_told, served_step, state_of, step_told}
use Rattle.hv_machine.specs.Access.{access_event}
use Rattle.hv_machine.specs.IsFlat.{IsFlat}
use Rattle.hv_machine.specs.MachineInvariant.{MachineInvariant}
use Rattle.hv_machine.specs.Step.{IsStep}

-- an access that is an event's
pub access_event_is : {A : Type 0} (e : Event A) (access : Access) → action_of access ≡ e.what → access_event e.by access ≡ e
access_event_is {A = A} e access is = ap (λ (what : Action A). record { by = e.by; what = what }) is

module _ (A : Type 0) where
  -- an access that a rule refuses has a fault
  fault_is : (access : Access) (rule : Rule) → refusal {A = A} (action_of access) rule ≡ Fault rule
  fault_is TakeInterrupt rule = refl
  fault_is access rule = refl

  next_is : (access : Access) (f : Flat) (by : Caller) → (action_effect {A = A} f by (action_of access)).next ≡ f.next
  next_is (WriteMsr msr value) f by = write_next_is by.part by.vp (name_of_msr msr) value f
  next_is access f by = refl

  -- an access is a step where it is served, and where a rule refuses it
  module _ (tree new : Rows PartitionState) (pages next served : ℕ) (by : Caller) (access : Access) (was : MachineInvariant (state_of tree pages next served)) where
    module _ (output : List ℕ) (e : Effect) (done : (f : Flat) → Refines tree f → IsAnswered {A = A} f by (action_of access) tree (Ok (output, e)) new) where
      abbrev event : Event A
      event = access_event {A = A} by access

      met : (f : Flat) → IsFlat (state_of tree pages next served) f → unmet f event ≡ None
      met f flat = (let is = done f (tied_roomless tree f flat.tied) in past_caller f event is.0 ∙ is.1.met)

      pub access_served : IsStep {A = A} (access_event by access) (state_of tree pages next served) (Ok (Served output)) (state_of new pages next (served + 1))
      access_served =
          served_step event tree new pages next served was (Served output) next
          (λ f flat.
          let is = (done f (tied_roomless tree f flat.tied)).1 in
          record { met = met f flat; told = is.reply; rows = is.rows; follows = next_is access f by ∙ flat.next })

      pub access_told : (f : Flat) → IsFlat (state_of tree pages next served) f → Tells e f (step {A = A} f (access_event by access)).0
      access_told f flat = step_told event e f (met f flat) (done f (tied_roomless tree f flat.tied)).1.told

    module _ (rule : Rule) (kept : (f : Flat) → Refines tree f → IsAnswered {A = A} f by (action_of access) tree (Err rule) new) where
      pub access_refused : IsStep {A = A} (access_event by access) (state_of tree pages next served) (Ok (Fault rule)) (state_of new pages next served)
      access_refused =
          denied (access_event {A = A} by access) tree new pages next served was rule (Fault rule) (λ f flat. kept f (tied_roomless tree f flat.tied)) (sym (fault_is access rule))

      pub refused_told : (f : Flat) → IsFlat (state_of tree pages next served) f → Tells Nothing f (step {A = A} f (access_event by access)).0
      refused_told f flat = nothing_told (access_event {A = A} by access) f rule (kept f (tied_roomless tree f flat.tied)).0
