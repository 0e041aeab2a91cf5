-- A step of a check.
use Rattle.std.proofs.Common.{◌≡◌, ℕ, ◌+◌, ◌<◌, ◌^◌, [], ◌∷◌, ◌++◌, refl, sym, ap, subst, arith, length, length-append, Bool, true, false, None, Some, codes, Global}
use Rattle.hv_history.specs.Kept.{HasGained, IsRun, Kept}
use Rattle.hv_history.specs.declared.entry.Entry.{Entry}
use Rattle.hv_policy.specs.declared.event.Caller.{Caller}
use Rattle.hv_text.specs.Audit.{entry_text}
use Rattle.hv_check.specs.From.{HasMoved, IsLegalFrom, IsNamedIn, IsNoEnd}
use Rattle.hv_check.specs.Legal.{IsLine, bare_text}
use Rattle.hv_phases.specs.Schedule.{IsBegun, StandsFor, first_of, left_by}
use Rattle.hv_phases.specs.declared.schedule.Schedule.{Schedule}
use Rattle.hv_check.proofs.AfterLine.{Claims, HasGoneOn, claims_full, claims_in, claims_none, differs, idle, moved, one_more, taken}
use Rattle.hv_check.proofs.LineTexts.{Bytes}
use Rattle.hv_phases.proofs.AskedOfProcessor.{Actions, Lines}

pub first_none : (acts : Actions) → first_of acts ≡ None → acts ≡ []
first_none [] is = refl
first_none (x ∷ acts) is = absurd (cc)

-- what stands behind a line is shorter
pub line_shorter : (rules : Bool) (number : ℕ) (e : Entry Global) (text rest : Bytes) → IsLine rules number e text rest → length rest < length text
line_shorter true number e text rest is = let n = ap length is in omega (arith, n, length-append (entry_text number e) (codes "\n" ++ rest))
line_shorter false number e text rest is =
    let n = ap length is.all in omega (arith, n, length-append (bare_text number e) (is.tail ++ (codes "\n" ++ rest)), length-append is.tail (codes "\n" ++ rest))

-- A line whose event the machine took.
module _ (rules : Bool) (old_kept new_kept : Kept Global) (old new : Schedule) (text : Bytes) (e : Entry Global) (few : length old_kept.history < 2 ^ 32) (go_on : IsNoEnd text)
    (reads : (c : Caller) → IsNamedIn text c → c ≡ e.event.by) (gone : HasGoneOn old new e) (gained : HasGained e.event e.reply old_kept new_kept) (run : IsRun new_kept) where
  count_is : length new_kept.history ≡ length old_kept.history + 1
  count_is = one_more old_kept new_kept e gained.history

  claims_of : (lines : Lines) → StandsFor old lines → (prefix : Bool) → IsLegalFrom prefix rules old_kept lines text → Claims prefix rules old_kept lines text e.event.by
  claims_of lines stands prefix = claims_in prefix rules old_kept lines text stands.read few go_on e.event.by reads

  pub step_on : (rest : Bytes) → IsLine rules (length new_kept.history) e text rest → (lines : Lines) → StandsFor old lines → HasMoved rules old_kept new_kept new lines text rest
  step_on rest line lines stands =
      moved rules old_kept new_kept new lines text e (taken old new e gone lines stands) gained run (claims_of lines stands) rest (subst (λ (n : ℕ). IsLine rules n e text rest) count_is line)

  pub step_not : ((rest : Bytes) → IsLine rules (length new_kept.history) e text rest → ⊥) → (lines : Lines) → StandsFor old lines → (prefix : Bool) → IsLegalFrom prefix rules old_kept lines text → ⊥
  step_not none lines stands =
      differs rules old_kept new_kept new lines text e (taken old new e gone lines stands) gained run (claims_of lines stands)
      (λ rest line. none rest (subst (λ (n : ℕ). IsLine rules n e text rest) (sym count_is) line))

pub step_full : (rules : Bool) (k : Kept Global) (old : Schedule) (text : Bytes) (by : Caller) → length k.history < 2 ^ 32 → IsNoEnd text → ((c : Caller) → IsNamedIn text c → c ≡ by)
    → length k.history
    ≡ k.limit
    → (lines : Lines) → StandsFor old lines → (prefix : Bool) → IsLegalFrom prefix rules k lines text → ⊥
step_full rules k old text by few go_on reads full lines stands prefix is = claims_full prefix rules k lines text stands.read few go_on by reads full is

pub step_idle : (rules : Bool) (k : Kept Global) (old : Schedule) (text : Bytes) (by : Caller) → length k.history < 2 ^ 32 → IsNoEnd text → ((c : Caller) → IsNamedIn text c → c ≡ by) → IsBegun old →
    first_of (left_by by old) ≡ None
    → (lines : Lines) → StandsFor old lines → (prefix : Bool) → IsLegalFrom prefix rules k lines text → ⊥
step_idle rules k old text by few go_on reads begun none lines stands prefix is = idle prefix rules k old lines text by stands begun (first_none (left_by by old) none) few go_on reads is

pub step_unread : (rules : Bool) (k : Kept Global) (old : Schedule) (text : Bytes) → length k.history < 2 ^ 32 → IsNoEnd text → ((c : Caller) → IsNamedIn text c → None ≡ Some c)
    → (lines : Lines) → StandsFor old lines → (prefix : Bool) → IsLegalFrom prefix rules k lines text → ⊥
step_unread rules k old text few go_on reads lines stands prefix is = claims_none prefix rules k lines text stands.read few go_on (λ c named. let same = reads c named in cc) is
