-- Two histories that are runs answer members alike.
use Rattle.std.proofs.Common.{◌≡◌, ℕ, Bool, cond, List, [], ◌∷◌, ◌++◌, refl, sym, subst, ap, ◌∙◌}
use Rattle.hv_security.proofs.EqualIsAlike.{alike_of_same}
use Rattle.hv_security.proofs.MatchedRuns.{replies_matched}
use Rattle.hv_security.proofs.Sends.{chain}
use Rattle.hv_security.specs.Alike.{AreLowEquivalent}
use Rattle.hv_security.specs.Turns.{AreAnsweredAlike, IsReached, events_here, events_there, own_replies}
use Rattle.hv_policy.specs.Boot.{boot}
use Rattle.hv_policy.specs.Flat.{Flat}
use Rattle.hv_policy.specs.Step.{run, run_from, step}
use Rattle.hv_machine.proofs.Integrity.{flat_same}
use Rattle.hv_machine.specs.IsFlat.{IsFlat}
use Rattle.hv_history.proofs.Runs.{run_more}
use Rattle.hv_history.specs.Beside.{AreSideBySide, replies_to}
use Rattle.hv_history.specs.Kept.{Kept, IsRun}
use Rattle.hv_history.specs.Row.{events_of, replies_of}
use Rattle.hv_history.specs.declared.entry.Entry.{Entry}

-- entries from some on have the replies of a run from the state that those before left
told_after : {A : Type 0} (f : Flat) (before after : List (Entry A)) → replies_of (before ++ after) ≡ (run_from f (events_of (before ++ after))).1
    → replies_of after ≡ (run_from (run_from f (events_of before)).0 (events_of after)).1
told_after f [] after is = is
told_after f (e ∷ before) after is = told_after (step f e.event).0 before after cc

-- of entries, as of their events and replies
own_is : {A : Type 0} (members : ℕ → Bool) (entries : List (Entry A)) → own_replies members (events_of entries) (replies_of entries) ≡ replies_to members entries
own_is members [] = refl
own_is members (entry ∷ entries) = ap (λ rest. cond (members entry.event.by.part) (entry.reply ∷ rest) rest) (own_is members entries)

module _ {A : Type 0} (k : Kept A) (is_run : IsRun k) (before after : List (Entry A)) (is : k.history ≡ before ++ after) where
  abbrev at : Flat
  at = (run k.config (events_of before)).0

  told : replies_of after ≡ (run_from at (events_of after)).1
  told = told_after (boot k.config) before after (ap replies_of (sym is) ∙ is_run.replies ∙ ap (λ (es : List (Entry A)). (run k.config (events_of es)).1) is)

  -- and the machine stands for the state in which that ends
  ended : IsFlat k.machine (run_from at (events_of after)).0
  ended = subst (IsFlat k.machine) (ap (λ (es : List (Entry A)). (run k.config (events_of es)).0) is ∙ run_more (boot k.config) before after) is_run.machine

  reached : IsReached A at
  reached = record { config = k.config; boots = is_run.boots; events = events_of before; is = refl }

module _ {A : Type 0} (members : ℕ → Bool) (here there : Kept A) (is : IsRun here) (is_too : IsRun there) (both : AreSideBySide members here there) where
  abbrev f : Flat
  f = (run here.config (events_of both.before)).0

  abbrev g : Flat
  g = (run there.config (events_of both.before_there)).0

  alike_after : AreAnsweredAlike members both.turns f g
  alike_after = replies_matched members both.turns f g (reached here is both.before both.after both.is) (reached there is_too both.before_there both.after_there both.is_there) both.alike both.matched

  pub answered_alike : replies_to members both.after ≡ replies_to members both.after_there
  answered_alike =
      sym (own_is members both.after) ∙ ap (own_replies members (events_of both.after)) (told here is both.before both.after both.is)
      ∙ ap (λ events. own_replies members events (run_from f events).1) both.events
      ∙ alike_after.0
      ∙ sym (ap (λ events. own_replies members events (run_from g events).1) both.events_too)
      ∙ sym (ap (own_replies members (events_of both.after_there)) (told there is_too both.before_there both.after_there both.is_there))
      ∙ own_is members both.after_there

  pub left_alike : (one other : Flat) → IsFlat here.machine one → IsFlat there.machine other → AreLowEquivalent members one other
  left_alike one other stands stands_too id own =
      let left : Flat = (run_from f (events_here both.turns)).0 in
      let left_too : Flat = (run_from g (events_there both.turns)).0 in
      let ends : IsFlat here.machine left = subst (λ events. IsFlat here.machine (run_from f events).0) both.events (ended here is both.before both.after both.is) in
      let ends_too : IsFlat there.machine left_too = subst (λ events. IsFlat there.machine (run_from g events).0) both.events_too (ended there is_too both.before_there both.after_there both.is_there)
      in
      let first = alike_of_same members one left (λ id own. flat_same here.machine one left stands ends id) id own in
      let last = alike_of_same members left_too other (λ id own. flat_same there.machine left_too other ends_too stands_too id) id own in
      chain members id one left other first (chain members id left left_too other (alike_after.1 id own) last)
