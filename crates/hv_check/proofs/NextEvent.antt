-- What the next event leaves of each processor's actions.
use Rattle.std.proofs.Common.{◌≡◌, [], ◌∷◌, ◌++◌, refl, sym, ap, ◌∙◌, subst, Bool, true, false, map, if◌then◌else◌, All, Global}
use Rattle.std.proofs.lemmas.List.Elements.{All-head, All-tail}
use Rattle.std.proofs.lemmas.Bool.{false≢true}
use Rattle.hv_history.specs.declared.entry.Entry.{Entry}
use Rattle.hv_phases.specs.Lines.{AreRun, asked_by}
use Rattle.hv_phases.proofs.AskedOfProcessor.{Actions, Lines, asked_by-append, asked_by_other, asked_first}
use Rattle.hv_policy.specs.declared.event.Caller.{Caller}
use Rattle.hv_script.specs.declared.line.Line.{Line}
use Rattle.hv_shared.proofs.Callers.{is_itself, same_caller}
use Rattle.hv_shared.specs.ByCaller.{is_caller, receipts_by}
use Rattle.hv_check.specs.Takes.{IsNext, action_left, line_left}
use Rattle.hv_check.proofs.RemainingActions.{AreAll, Entries, IsInTurn, all_of, own_entries, own_of, whole_of}

-- each processor's entries are of its lines
abbrev pub AreRuns : Lines → Entries → Type 0
AreRuns lines es = (c : Caller) → AreAll c (asked_by c lines) (own_of c es)

pub runs_of : (lines : Lines) (es : Entries) → AreRun lines es → AreRuns lines es
runs_of lines es is c = subst (AreAll c (asked_by c lines)) (own_entries c 1 es) (all_of c (asked_by c lines) (receipts_by c 1 es) (is c))

pub run_of : (lines : Lines) (es : Entries) → AreRuns lines es → AreRun lines es
run_of lines es is c = whole_of c (asked_by c lines) (receipts_by c 1 es) (subst (AreAll c (asked_by c lines)) (sym (own_entries c 1 es)) (is c))

-- a line of others
pub asked_behind : (c : Caller) (line : Line Global) (lines : Lines) → (line.by ≡ c → ⊥) → asked_by c (line ∷ lines) ≡ asked_by c lines
asked_behind c line lines other = asked_by-append c (line ∷ []) lines ∙ ap (λ (l : Actions). l ++ asked_by c lines) (asked_by_other c line other)

-- lines of others
pub asked_of_others : (c : Caller) (lines : Lines) → All (λ line. line.by ≡ c → ⊥) lines → asked_by c lines ≡ []
asked_of_others c [] all = refl
asked_of_others c (line ∷ lines) all =
    let P = λ (l : Line Global). l.by ≡ c → ⊥ in
    asked_behind c line lines (All-head P line lines all) ∙ asked_of_others c lines (All-tail P line lines all)

-- a line with other actions
pub asked_of_own : (line : Line Global) (acts : Actions) → asked_by line.by (map (λ action. record line { action = action }) acts) ≡ acts
asked_of_own line [] = refl
asked_of_own line (a ∷ acts) =
    asked_first line.by (record line { action = a }) (map (λ action. record line { action = action }) acts) refl
    ∙ ap (λ (l : Actions). a ∷ l) (asked_of_own line acts)

pub others_of_own : (c : Caller) (line : Line Global) (acts : Actions) → (line.by ≡ c → ⊥) → asked_by c (map (λ action. record line { action = action }) acts) ≡ []
others_of_own c line [] other = refl
others_of_own c line (a ∷ acts) other =
    asked_behind c (record line { action = a }) (map (λ action. record line { action = action }) acts) other ∙ others_of_own c line acts other

module _ (lines : Lines) (e : Entry Global) (left : Lines) (next : IsNext lines e left) where
  -- what its processor does next
  pub here : asked_by next.line.by lines ≡ next.line.action ∷ asked_by next.line.by next.after
  here =
      ap (asked_by next.line.by) next.all ∙ asked_by-append next.line.by next.before (next.line ∷ next.after)
      ∙ ap (λ (l : Actions). l ++ asked_by next.line.by (next.line ∷ next.after)) (asked_of_others next.line.by next.before next.first)
      ∙ asked_first next.line.by next.line next.after refl

  pub here_left : asked_by next.line.by left ≡ action_left next.line.action e.reply ++ asked_by next.line.by next.after
  here_left =
      ap (asked_by next.line.by) next.left_is ∙ asked_by-append next.line.by next.before (line_left next.line e.reply ++ next.after)
      ∙ ap (λ (l : Actions). l ++ asked_by next.line.by (line_left next.line e.reply ++ next.after)) (asked_of_others next.line.by next.before next.first)
      ∙ asked_by-append next.line.by (line_left next.line e.reply) next.after
      ∙ ap (λ (l : Actions). l ++ asked_by next.line.by next.after) (asked_of_own next.line (action_left next.line.action e.reply))

  -- and others, whom it leaves alone
  pub there : (c : Caller) → (next.line.by ≡ c → ⊥) → asked_by c lines ≡ asked_by c left
  there c other =
      ap (asked_by c) next.all ∙ asked_by-append c next.before (next.line ∷ next.after)
      ∙ ap (λ (l : Actions). asked_by c next.before ++ l)
      (
      asked_behind c next.line next.after other
      ∙ sym (asked_by-append c (line_left next.line e.reply) next.after ∙ ap (λ (l : Actions). l ++ asked_by c next.after) (others_of_own c next.line (action_left next.line.action e.reply) other))
      )
      ∙ sym (ap (asked_by c) next.left_is ∙ asked_by-append c next.before (line_left next.line e.reply ++ next.after))

  pub by_is : e.event.by ≡ next.line.by
  by_is = ap (λ event. event.by) next.event

  not_its : (c : Caller) → is_caller c e.event.by ≡ false → next.line.by ≡ c → ⊥
  not_its c is same = false≢true (sym is ∙ is_itself c e.event.by (by_is ∙ same))

  module _ (es : Entries) where
    own_run : IsInTurn next.line.action e.reply → AreAll next.line.by (asked_by next.line.by left) (own_of next.line.by es) → AreAll next.line.by (asked_by next.line.by lines)
        (e ∷ own_of next.line.by es)
    own_run turn all =
        subst (λ (l : Actions). AreAll next.line.by l (e ∷ own_of next.line.by es)) (sym here)
        (next.event, turn, subst (λ (l : Actions). AreAll next.line.by l (own_of next.line.by es)) here_left all)

    run_at : (c : Caller) (t : Bool) → is_caller c e.event.by ≡ t → IsInTurn next.line.action e.reply → AreRuns left es → AreAll c (asked_by c lines) (if t then e ∷ own_of c es else own_of c es)
    run_at c true is turn all =
        subst (λ (d : Caller). AreAll d (asked_by d lines) (e ∷ own_of d es)) (sym by_is ∙ same_caller c e.event.by is) (own_run turn (all next.line.by))
    run_at c false is turn all = subst (λ (l : Actions). AreAll c l (own_of c es)) (sym (there c (not_its c is))) (all c)

    -- what the lines that are left do is behind the event
    pub run : IsInTurn next.line.action e.reply → AreRuns left es → AreRuns lines (e ∷ es)
    run turn all c = run_at c (is_caller c e.event.by) refl turn all

    own_back : AreAll next.line.by (asked_by next.line.by lines) (e ∷ own_of next.line.by es) → AreAll next.line.by (asked_by next.line.by left) (own_of next.line.by es)
    own_back all =
        let taken = subst (λ (l : Actions). AreAll next.line.by l (e ∷ own_of next.line.by es)) here all in
        subst (λ (l : Actions). AreAll next.line.by l (own_of next.line.by es)) (sym here_left) taken.2

    back_at : (c : Caller) (t : Bool) → is_caller c e.event.by ≡ t → AreAll c (asked_by c lines) (if t then e ∷ own_of c es else own_of c es) → AreAll c (asked_by c left) (own_of c es)
    back_at c true is all =
        let same = sym by_is ∙ same_caller c e.event.by is in
        let own = subst (λ (d : Caller). AreAll d (asked_by d lines) (e ∷ own_of d es)) (sym same) all in
        subst (λ (d : Caller). AreAll d (asked_by d left) (own_of d es)) same (own_back own)
    back_at c false is all = subst (λ (l : Actions). AreAll c l (own_of c es)) (there c (not_its c is)) all

    pub back : AreRuns lines (e ∷ es) → AreRuns left es
    back all c = back_at c (is_caller c e.event.by) refl (all c)
