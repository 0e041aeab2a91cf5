-- Turns of which more is known.
use Rattle.std.proofs.Common.{◌≡◌, ℕ, Bool, true, false, List, [], ◌∷◌, refl}
use Rattle.hv_policy.specs.Flat.{Flat}
use Rattle.hv_policy.specs.Step.{step}
use Rattle.hv_policy.specs.declared.event.Event.{Event}
use Rattle.hv_security.specs.Turns.{AreTurns, ComesAlike, Turn, Here, There, Both}

-- where what is known of an event is enough in states of which something holds that each event keeps
module _ {A : Type 0} (members : ℕ → Bool) (known enough : Event A → Flat → Flat → Type 0) (Holds : Flat → Type 0)
    (keeps : (f : Flat) (e : Event A) → Holds f → Holds (step f e).0)
    (narrower : (e : Event A) (f g : Flat) → Holds f → Holds g → known e f g → enough e f g) where
  pub turns_narrower : (turns : List (Turn A)) (f g : Flat) → Holds f → Holds g → AreTurns known members turns f g → AreTurns enough members turns f g
  turns_narrower [] f g s t m = tt
  turns_narrower (Here e ∷ turns) f g s t m = (m.0, turns_narrower turns (step f e).0 g (keeps f e s) t m.1)
  turns_narrower (There e ∷ turns) f g s t m = (m.0, turns_narrower turns f (step g e).0 s (keeps g e t) m.1)
  turns_narrower (Both e ∷ turns) f g s t m = (narrower e f g s t m.0, turns_narrower turns (step f e).0 (step g e).0 (keeps f e s) (keeps g e t) m.1)

-- by a member that more is known of
pub comes_narrower : {A : Type 0} (b : Bool) (known enough : Type 0) (members : ℕ → Bool) (e : Event A) (f g : Flat) → (b ≡ true → known → enough) → ComesAlike b known members e f g → ComesAlike b
    enough members e f g
comes_narrower true known enough members e f g more m = more refl m
comes_narrower false known enough members e f g more m = m
