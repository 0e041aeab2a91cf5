-- A run without the events of others.
use Rattle.std.proofs.Common.{◌≡◌, ℕ, Bool, true, false, cond, List, [], ◌∷◌, refl, sym, ap, subst, ◌∙◌}
use Rattle.hv_policy.specs.Flat.{Flat}
use Rattle.hv_policy.specs.Step.{run_from, step}
use Rattle.hv_policy.specs.declared.event.Event.{Event}
use Rattle.hv_security.specs.Alike.{AreLowEquivalent}
use Rattle.hv_security.specs.Turns.{AreMatched, IsReached, Here, Both, events_here, events_there, own_events, own_replies, turns_of}
use Rattle.hv_security.proofs.MatchedRuns.{replies_matched}
use Rattle.hv_security.proofs.Sends.{same}

module _ {A : Type 0} where
  module _ (members : ℕ → Bool) where
    all_here : (events : List (Event A)) → events_here (turns_of members events) ≡ events
    all_here [] = refl
    all_here (e ∷ events) = by (members e.by.part) ∙ ap (λ rest. e ∷ rest) (all_here events)
      where
        by : (b : Bool) → events_here (cond b (Both e) (Here e) ∷ turns_of members events) ≡ e ∷ events_here (turns_of members events)
        by true = refl
        by false = refl

    own_there : (events : List (Event A)) → events_there (turns_of members events) ≡ own_events members events
    own_there [] = refl
    own_there (e ∷ events) = by (members e.by.part) (own_there events)
      where
        by : (b : Bool) → events_there (turns_of members events) ≡ own_events members events → events_there (cond b (Both e) (Here e) ∷ turns_of members events) ≡ cond b
            (e ∷ own_events members events) (own_events members events)
        by true rest = ap (λ rest. e ∷ rest) rest
        by false rest = rest

    abbrev All : List (Event A) → Flat → Type 0
    All own h = own_replies members own (run_from h own).1 ≡ (run_from h own).1

    -- where members alone act each reply is to one of them
    all_own : (events : List (Event A)) (f : Flat) → own_replies members (own_events members events) (run_from f (own_events members events)).1 ≡ (run_from f (own_events members events)).1
    all_own [] f = refl
    all_own (e ∷ events) f = by (members e.by.part) refl (all_own events f) (all_own events (step f e).0)
      where
        by : (b : Bool) → members e.by.part ≡ b → All (own_events members events) f → All (own_events members events) (step f e).0 → All
            (cond b (e ∷ own_events members events) (own_events members events)) f
        by true own here there =
            ap (λ b. cond b ((step f e).1 ∷ own_replies members (own_events members events) (run_from (step f e).0 (own_events members events)).1)
            (own_replies members (own_events members events) (run_from (step f e).0 (own_events members events)).1)) own
            ∙ ap (λ rest. (step f e).1 ∷ rest) there
        by false off here there = here

    pub purged : (f : Flat) → IsReached A f → (events : List (Event A)) → AreMatched members (turns_of members events) f f
        → (own_replies members events (run_from f events).1 ≡ (run_from f (own_events members events)).1)
        × AreLowEquivalent members (run_from f events).0 (run_from f (own_events members events)).0
    purged f r events m =
        let both = replies_matched members (turns_of members events) f f r r (λ id own. same members id f) m in
        let here = all_here events in
        let there = own_there events in (
          sym (ap (λ es. own_replies members es (run_from f es).1) here) ∙ both.0 ∙ ap (λ es. own_replies members es (run_from f es).1) there ∙ all_own events f,
          subst (λ es. AreLowEquivalent members (run_from f es).0 (run_from f (own_events members events)).0) here
              (subst (λ es. AreLowEquivalent members (run_from f (events_here (turns_of members events))).0 (run_from f es).0) there both.1),
        )
