-- An event is confined.
use Rattle.std.proofs.Common.{◌≡◌, ℕ, ◌==◌, false, Option, Some, None, inl, refl, sym, subst}
use Rattle.std.specs.Option.{option_map_or}
use Rattle.hv_invariants.proofs.MetRules.{is_served}
use Rattle.hv_policy.specs.Effect.{counted, effect, served_effect}
use Rattle.hv_policy.specs.Flat.{Flat}
use Rattle.hv_policy.specs.Step.{step, step_by}
use Rattle.hv_policy.specs.Rules.{unmet}
use Rattle.hv_policy.specs.declared.event.Action.{Action}
use Rattle.hv_policy.specs.declared.event.Action.TheVariants.{Hypercall}
use Rattle.hv_policy.specs.declared.event.Caller.{Caller}
use Rattle.hv_policy.specs.declared.event.Event.{Event}
use Rattle.hv_policy.specs.declared.rule.Rule.{Rule}
use Rattle.hv_security.proofs.OtherRows.{nothing}
use Rattle.hv_security.proofs.CallConfinement.{call_confined}
use Rattle.hv_security.proofs.SendsOnlyAdd.{gains_nothing}
use Rattle.hv_security.proofs.OthersUnchanged.{action_misses}
use Rattle.hv_security.proofs.CallerAndChildren.{far_apart}
use Rattle.hv_security.proofs.AgreedReads.{caller_relative}
use Rattle.hv_security.specs.Integrity.{Integrity, IntegrityWithin, Reach, CallerAndChildren, AndPlace, AndMasks, reach_of, reach_of_call}
use Rattle.hv_security.specs.Same.{is_relative}

-- where nothing changes
pub unchanged : (to : Reach) (caller : ℕ) (f : Flat) → IntegrityWithin to caller f f
unchanged CallerAndChildren caller f = λ id apart. nothing id f
unchanged (AndPlace at gain) caller f = (
  λ id apart. record {
    part = refl;
    pages = λ _. refl;
    vps = λ _ _. refl;
    registers = λ _. refl;
    flags = λ _ _ _ _. refl;
    ports = λ _. refl;
    conns = λ _. refl;
    mail = λ _ _ _. refl;
  },
  gains_nothing at gain f,
)
unchanged (AndMasks top value) caller f = (
  λ id apart outside. nothing id f,
  λ id apart. record {
    part = inl refl;
    pages = λ _. refl;
    vps = λ _. refl;
    ports = λ _. refl;
    conns = λ _. refl;
    mail = λ _ _. refl;
  },
)

off : (f : Flat) (caller id : ℕ) → is_relative f caller id ≡ false → id == caller ≡ false
off f caller id far = far_apart f caller id caller far (caller_relative f caller)

module _ {A : Type 0} (f : Flat) (by : Caller) where
  abbrev event : Action A → Event A
  event what = record { by = by; what = what }

  action_confined : (what : Action A) → unmet f (event what) ≡ None → Integrity (event what) f (effect f (event what))
  action_confined (Hypercall frame) met =
      let s = is_served f by frame met in
      subst (λ call. IntegrityWithin (option_map_or (reach_of_call f by.part) call CallerAndChildren) by.part f (counted (served_effect f by.part call))) (sym s.called)
      (call_confined f by.part s.call s.granted)
  action_confined what met = λ id apart. action_misses f id by what met (off f by.part id apart.before)

  step_confined : (what : Action A) → Integrity (event what) f (step f (event what)).0
  step_confined what = at (unmet f (event what)) refl
    where
      at : (rule : Option Rule) → unmet f (event what) ≡ rule → Integrity (event what) f (step_by f (event what) rule).0
      at None met = action_confined what met
      at (Some rule) is = unchanged (reach_of f by.part what) by.part f

pub confined : {A : Type 0} (f : Flat) (e : Event A) → Integrity e f (step f e).0
confined f e = step_confined f e.by e.what
