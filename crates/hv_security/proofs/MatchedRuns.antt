-- Two runs in which members do the same, and the same is done to them.
use Rattle.std.proofs.Common.{◌≡◌, ℕ, Bool, true, false, cond, List, [], ◌∷◌, Option, Some, None, refl, sym, ap, subst, ◌∙◌}
use Rattle.std.specs.FinMap.{get-empty}
use Rattle.hv_defs.specs.Flags.{pair_cmp}
use Rattle.hv_invariants.proofs.BootState.{lawful_boot}
use Rattle.hv_invariants.proofs.Laws.{lawful_step}
use Rattle.hv_policy.specs.Boot.{boot}
use Rattle.hv_invariants.specs.StateInvariant.{StateInvariant}
use Rattle.hv_policy.specs.Flat.{ConnRow, Flat}
use Rattle.hv_policy.specs.Rules.{unmet}
use Rattle.hv_policy.specs.Step.{run_from, step, step_by}
use Rattle.hv_policy.specs.declared.event.Event.{Event}
use Rattle.hv_policy.specs.declared.reply.Reply.{Reply}
use Rattle.hv_policy.specs.declared.rule.Rule.{Rule}
use Rattle.hv_security.specs.Alike.{AreLowEquivalent, AreClosed, AreConnsPast, ArePast}
use Rattle.hv_security.specs.Looks.{ActionLooksAlike}
use Rattle.hv_security.specs.Turns.{AreAnsweredAlike, AreMatched, ComesAlike, IsDoneAlike, IsReached, Turn, Here, There, Both, events_here, events_there, own_replies}
use Rattle.hv_security.proofs.Effects.{input_leaves, own_leaves}
use Rattle.hv_security.proofs.PastBirths.{births_past, step_past}
use Rattle.hv_security.proofs.AlikeReplies.{reply_alike, unmet_alike}
use Rattle.hv_security.proofs.Sends.{back, chain}

-- a state of a run: it is lawful, and births are past
pub record IsGood (pages : ℕ) (f : Flat) : Type 0 where
  pub lawful : StateInvariant pages f
  pub past : AreConnsPast f

pub next_good : {A : Type 0} (pages : ℕ) (f : Flat) (e : Event A) → IsGood pages f → IsGood pages (step f e).0
next_good pages f e s = record { lawful = lawful_step pages f e s.lawful; past = step_past pages f s.lawful s.past e }

good_past : (pages : ℕ) (f : Flat) → IsGood pages f → ArePast f
good_past pages f s = births_past pages f s.lawful s.past

module _ {A : Type 0} (members : ℕ → Bool) where
  module _ (pages others : ℕ) where
    -- a member's event
    own_step : (f g : Flat) (e : Event A) → IsGood pages f → IsGood others g → AreLowEquivalent members f g → members e.by.part ≡ true → AreClosed members f → AreClosed members g → ActionLooksAlike
        members e.what e.by.part f g → ((step f e).1 ≡ (step g e).1) × AreLowEquivalent members (step f e).0 (step g e).0
    own_step f g e s t a own closed closed_too n = (reply_alike members f g a closed closed_too e.by own e.what n, by (unmet f e) refl)
      where
        same : unmet f e ≡ unmet g e
        same = unmet_alike members f g a closed closed_too e.by own e.what n

        by : (rule : Option Rule) → unmet f e ≡ rule → AreLowEquivalent members (step f e).0 (step g e).0
        by None is =
            subst (λ r. AreLowEquivalent members (step_by f e r).0 (step g e).0) (sym is)
            (subst (λ r. AreLowEquivalent members (step_by f e None).0 (step_by g e r).0) (sym (sym same ∙ is))
            (own_leaves members f g a closed closed_too (good_past pages f s) (good_past others g t) e.by own e.what is (sym same ∙ is) n))
        by (Some rule) is =
            subst (λ r. AreLowEquivalent members (step_by f e r).0 (step g e).0) (sym is)
            (subst (λ r. AreLowEquivalent members f (step_by g e r).0) (sym (sym same ∙ is)) a)

    -- another's
    input_step : (f g : Flat) (e : Event A) → IsGood pages f → IsGood others g → AreLowEquivalent members f g → AreClosed members f → AreClosed members g → IsDoneAlike members e f g → AreLowEquivalent
        members (step f e).0 (step g e).0
    input_step f g e s t a closed closed_too n =
        subst (λ r. AreLowEquivalent members (step_by f e r).0 (step g e).0) (sym n.0)
        (subst (λ r. AreLowEquivalent members (step_by f e None).0 (step_by g e r).0) (sym n.1)
        (input_leaves members f g a closed closed_too (good_past pages f s) (good_past others g t) e.by e.what n.0 n.1 n.2))

    matched : (turns : List (Turn A)) (f g : Flat) → IsGood pages f → IsGood others g → AreLowEquivalent members f g → AreMatched members turns f g → AreAnsweredAlike members turns f g
    matched [] f g s t a m = (refl, a)
    matched (Here e ∷ turns) f g s t a m =
        let rest = matched turns (step f e).0 g (next_good pages f e s) t (λ id own. chain members id (step f e).0 f g (back members id f (step f e).0 (m.0.1 id own)) (a id own)) m.1 in (
          ap (λ b. cond b ((step f e).1 ∷ own_replies members (events_here turns) (run_from (step f e).0 (events_here turns)).1)
              (own_replies members (events_here turns) (run_from (step f e).0 (events_here turns)).1)) m.0.0 ∙ rest.0,
          rest.1,
        )
    matched (There e ∷ turns) f g s t a m =
        let rest = matched turns f (step g e).0 s (next_good others g e t) (λ id own. chain members id f g (step g e).0 (a id own) (m.0.1 id own)) m.1 in (
          rest.0 ∙ sym (ap (λ b. cond b ((step g e).1 ∷ own_replies members (events_there turns) (run_from (step g e).0 (events_there turns)).1)
              (own_replies members (events_there turns) (run_from (step g e).0 (events_there turns)).1)) m.0.0),
          rest.1,
        )
    matched (Both e ∷ turns) f g s t a m = by (members e.by.part) refl m.0.2 (λ after. matched turns (step f e).0 (step g e).0 (next_good pages f e s) (next_good others g e t) after m.1)
      where
        here : List Reply
        here = own_replies members (events_here turns) (run_from (step f e).0 (events_here turns)).1

        there : List Reply
        there = own_replies members (events_there turns) (run_from (step g e).0 (events_there turns)).1

        by : (b : Bool) → members e.by.part ≡ b → ComesAlike b (ActionLooksAlike members e.what e.by.part f g) members e f g →
            (AreLowEquivalent members (step f e).0 (step g e).0 → AreAnsweredAlike members turns (step f e).0 (step g e).0)
            → (cond (members e.by.part) ((step f e).1 ∷ here) here ≡ cond (members e.by.part) ((step g e).1 ∷ there) there) × AreLowEquivalent members (run_from (step f e).0 (events_here turns)).0
            (run_from (step g e).0 (events_there turns)).0
        by true own n rest =
            let first = own_step f g e s t a own m.0.0 m.0.1 n in
            let further = rest first.1 in
            ((λ i. cond (members e.by.part) (first.0 i ∷ further.0 i) (further.0 i)), further.1)
        by false off n rest =
            let further = rest (input_step f g e s t a m.0.0 m.0.1 n) in
            (ap (λ b. cond b ((step f e).1 ∷ here) here) off ∙ further.0 ∙ sym (ap (λ b. cond b ((step g e).1 ∷ there) there) off), further.1)

module _ {A : Type 0} where
  run_good : (pages : ℕ) (f : Flat) (events : List (Event A)) → IsGood pages f → IsGood pages (run_from f events).0
  run_good pages f [] s = s
  run_good pages f (e ∷ events) s = run_good pages (step f e).0 events (next_good pages f e s)

  -- a run from boot reaches such states
  pub reached_good : (f : Flat) → IsReached A f → (pages : ℕ) × IsGood pages f
  reached_good f r = (
    r.config.pages,
    subst (IsGood r.config.pages) (sym r.is) (run_good r.config.pages (boot r.config) r.events
        (record { lawful = lawful_boot r.config r.boots; past = λ key row is. none key row is })),
  )
    where
      none : AreConnsPast (boot r.config)
      none key row is = let clash = sym (get-empty {X = ConnRow} pair_cmp key) ∙ is in cc

  pub replies_matched : (members : ℕ → Bool) (turns : List (Turn A)) (f g : Flat) → IsReached A f → IsReached A g → AreLowEquivalent members f g → AreMatched members turns f g → AreAnsweredAlike
      members turns f g
  replies_matched members turns f g r q a m =
      let s = reached_good f r in
      let t = reached_good g q in
      matched members s.0 t.0 turns f g s.1 t.1 a m
