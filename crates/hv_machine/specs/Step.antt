-- The effect of one event on a machine.
use Rattle.std.specs.Prelude.{◌≡◌, None, IsTrue, IfOk, OnOk, OnErr, Result}
use Rattle.hv_abi.specs.declared.frame.Frame.{Frame}
use Rattle.hv_security.specs.Integrity.{Integrity}
use Rattle.hv_security.specs.Misses.{LeavesOthers}
use Rattle.hv_policy.specs.Call.{may_take_memory}
use Rattle.hv_policy.specs.Flat.{Flat}
use Rattle.hv_policy.specs.Result.{HasResult}
use Rattle.hv_policy.specs.Rules.{unmet}
use Rattle.hv_policy.specs.Step.{NamesAsked, step}
use Rattle.hv_policy.specs.declared.event.Action.TheVariants.{Hypercall}
use Rattle.hv_policy.specs.declared.event.Event.{Event}
use Rattle.hv_policy.specs.declared.reply.Reply.{Reply}
use Rattle.hv_machine.specs.IsFlat.{IsFlat}
use Rattle.hv_machine.specs.MachineInvariant.{MachineInvariant}
use Rattle.hv_machine.specs.Sound.{IsSound}
use Rattle.hv_machine.specs.State.{State}
use Rattle.hv_machine.specs.declared.machine.HostRefused.{HostRefused}

-- The machine took the event, or the host refused it: the promises of `Machine::step`, clause by clause, as a
-- relation on the event, the state before it, its result, and the state after it.
pub record IsStep {A : Type 0} (event : Event A) (old : State) (became : Result Reply HostRefused)
    (new : State) : Type 0 where
  pub reply : (f : Flat) → IsFlat old f → IfOk became (λ r. r ≡ (step f event).1)
  pub state : (f : Flat) → IsFlat old f → OnOk became (IsFlat new (step f event).0)
  pub refused : (f : Flat) → IsFlat old f → OnErr became (unmet f event ≡ None)
  pub memory : OnErr became (IsTrue (may_take_memory event))
  pub kept : OnErr became (new ≡ old)
  pub confined : (f g : Flat) → IsFlat old f → IsFlat new g → Integrity event f g
  pub others : (f g : Flat) → IsFlat old f → IsFlat new g → LeavesOthers event f g
  pub asked : IfOk became (NamesAsked event)
  pub result : (frame : Frame A) → event.what ≡ Hypercall frame → IfOk became HasResult
  pub lasting : MachineInvariant new
  pub pages : new.pages ≡ old.pages
  pub sound : IsSound new
