-- Taking lines event by event is doing them phase by phase.
use Rattle.std.proofs.Common.{◌≡◌, ℕ, ◌<◌, ◌≤◌, [], ◌∷◌, ◌++◌, refl, sym, ap, ◌∙◌, subst, arith, append_assoc, append-nil, Bool, true, false, cond, inl, inr, ◌⊎◌, All, Global}
use Rattle.std.proofs.lemmas.Bool.{false≢true}
use Rattle.std.proofs.lemmas.List.Elements.{All-append, All-cons, All-head, All-nil, All-weaker}
use Rattle.hv_history.specs.declared.entry.Entry.{Entry}
use Rattle.hv_phases.specs.Lines.{AreApart, ArePhased, AreRun, HasCut, asked_by}
use Rattle.hv_phases.proofs.AskedOfProcessor.{Actions, Lines, asked_by-append, asked_first}
use Rattle.hv_policy.specs.declared.event.Caller.{Caller}
use Rattle.hv_script.specs.declared.line.Line.{Line}
use Rattle.hv_shared.proofs.Callers.{is_itself, same_caller}
use Rattle.hv_shared.specs.ByCaller.{is_caller}
use Rattle.hv_phases.specs.Read.{AreSorted}
use Rattle.hv_check.specs.Takes.{IsNext, Takes, action_left, line_left}
use Rattle.hv_check.proofs.RemainingActions.{AreAll, Entries, IsInTurn, own_of}
use Rattle.hv_check.proofs.NextEvent.{AreRuns, asked_behind, asked_of_others, back, run, run_of, runs_of}
use Rattle.hv_phases.proofs.LinesByPhase.{All-both, All-left, All-right, Cuts, IsFrom, PartsAt, apart_at, cuts, late_lefts, lefts_all, parts_at, sorted_before}
use Rattle.hv_phases.proofs.LinesByPhase.{sorted_lefts, sorted_other, sorted_right}

-- each reply to a call says that it continues with the element after its own, if it continues
abbrev pub AreInTurn : Entries → Type 0
AreInTurn [] = Unit {0}
AreInTurn (e ∷ es) = IsInTurn e.event.what e.reply × AreInTurn es

turn_of : (lines : Lines) (e : Entry Global) (left : Lines) (next : IsNext lines e left) → IsInTurn e.event.what e.reply → IsInTurn next.line.action e.reply
turn_of lines e left next turn = subst (λ what. IsInTurn what e.reply) (ap (λ event. event.what) next.event) turn

-- no lines ask for nothing
none_run : (lines : Lines) → [] ≡ lines → AreRuns lines []
none_run lines none c = subst (λ (l : Lines). AreAll c (asked_by c l) []) none tt

pub takes_run : (lines : Lines) (es : Entries) → AreInTurn es → Takes lines es [] → AreRuns lines es
takes_run lines [] turn takes = none_run lines takes
takes_run lines (e ∷ es) turn takes =
    run lines e takes.0 takes.1 es (turn_of lines e takes.0 takes.1 turn.0) (takes_run takes.0 es turn.1 takes.2)

-- the history is what the lines before did, then what the lines after did
pub record Parts (before after : Lines) (es : Entries) : Type 0 where
  pub own : Entries
  pub rest : Entries
  pub all : es ≡ own ++ rest
  pub before_run : AreRuns before own
  pub after_run : AreRuns after rest

abbrev pub ArePart : Lines → Entries → Type 0
ArePart lines es = (before after : Lines) → lines ≡ before ++ after → AreApart before after → Parts before after es

abbrev IsIn : ℕ → Line Global → Type 0
IsIn phase l = l.phase ≡ phase

-- all lines come after none
all_after : (after : Lines) (es : Entries) → AreRuns after es → Parts [] after es
all_after after es runs = record { own = []; rest = es; all = refl; before_run = λ c. tt; after_run = runs }

-- two lines of one phase don't stand in different ones
not_apart : (phase : ℕ) (b : Line Global) (bs : Lines) (y : Line Global) (ys zs : Lines) (after : Lines) → All (IsIn phase) ((b ∷ bs) ++ y ∷ ys) → after ≡ y ∷ zs → AreApart (b ∷ bs) after → ⊥
not_apart phase b bs y ys zs after same is apart =
    let first : b.phase ≡ phase = All-head (IsIn phase) b (bs ++ y ∷ ys) same in
    let other : y.phase ≡ phase = All-head (IsIn phase) y ys (All-right (IsIn phase) (b ∷ bs) (y ∷ ys) same) in
    let behind : All (λ (n : Line Global). b.phase < n.phase) (y ∷ zs) = subst (All (λ (n : Line Global). b.phase < n.phase)) is
    (All-head (λ (l : Line Global). All (λ n. l.phase < n.phase) after) b bs apart) in
    let less : b.phase < y.phase = All-head (λ (n : Line Global). b.phase < n.phase) y zs behind in
    omega (arith, first, other, less)

module _ (lines : Lines) (e : Entry Global) (left : Lines) (next : IsNext lines e left) where
  abbrev phase : ℕ
  phase = next.line.phase

  abbrev lefts : Lines
  lefts = line_left next.line e.reply

  one_phase : All (IsIn phase) (next.before ++ next.line ∷ [])
  one_phase = All-append (IsIn phase) next.before (next.line ∷ []) next.phase (All-cons (IsIn phase) next.line [] refl (All-nil (IsIn phase)))

  left_phase : All (IsIn phase) (next.before ++ lefts)
  left_phase = All-append (IsIn phase) next.before lefts next.phase (lefts_all (λ p. p ≡ phase) next.line (action_left next.line.action e.reply) refl)

  -- the first lines alone allow the event, too
  abbrev next_of : (more : Lines) → IsNext (next.before ++ next.line ∷ more) e (next.before ++ (lefts ++ more))
  next_of more = record {
    before = next.before;
    line = next.line;
    after = more;
    all = refl;
    phase = next.phase;
    first = next.first;
    event = next.event;
    left_is = refl;
  }

  -- what is apart stays apart
  apart_left : (more after : Lines) → AreApart ((next.before ++ next.line ∷ []) ++ more) after → AreApart (next.before ++ (lefts ++ more)) after
  apart_left more after apart =
      let P : Line Global → Type 0 = λ l. All (λ n. l.phase < n.phase) after in
      let first : All P (next.before ++ next.line ∷ []) = All-left P (next.before ++ next.line ∷ []) more apart in
      let at : P next.line = All-head P next.line [] (All-right P next.before (next.line ∷ []) first) in
      All-append P next.before (lefts ++ more) (All-left P next.before (next.line ∷ []) first)
      (All-append P lefts more (lefts_all (λ p. All (λ n. p < n.phase) after) next.line (action_left next.line.action e.reply) at) (All-right P (next.before ++ next.line ∷ []) more apart))

  -- the parts of what is left, with the event before them
  module _ (es : Entries) (b : Line Global) (bs after : Lines) where
    parts_more : IsInTurn next.line.action e.reply → (more : Lines) → b ∷ bs ≡ (next.before ++ next.line ∷ []) ++ more → Parts (next.before ++ (lefts ++ more)) after es → Parts (b ∷ bs) after (e ∷ es)
    parts_more turn more front parts = record {
      own = e ∷ parts.own;
      rest = parts.rest;
      all = ap (λ (l : Entries). e ∷ l) parts.all;
      before_run =
          subst (λ (l : Lines). AreRuns l (e ∷ parts.own)) (sym (front ∙ append_assoc next.before (next.line ∷ []) more))
          (run (next.before ++ next.line ∷ more) e (next.before ++ (lefts ++ more)) (next_of more) parts.own turn parts.before_run);
      after_run = parts.after_run;
    }

    -- a cut of all lines is one of what is left
    part_next : IsInTurn next.line.action e.reply → ArePart left es → AreApart (b ∷ bs) after → Cuts (next.before ++ next.line ∷ []) next.after (b ∷ bs) after → Parts (b ∷ bs) after (e ∷ es)
    part_next turn part apart (inl is) =
        parts_more turn is.rest is.front
        (
        part (next.before ++ (lefts ++ is.rest)) after
        (
        next.left_is ∙ ap (λ (l : Lines). next.before ++ (lefts ++ l)) is.back
        ∙ ap (λ (l : Lines). next.before ++ l) (sym (append_assoc lefts is.rest after)) ∙ sym (append_assoc next.before (lefts ++ is.rest) after)
        )
        (apart_left is.rest after (subst (λ (l : Lines). AreApart l after) is.front apart))
        )
    part_next turn part apart (inr is) =
        absurd (not_apart phase b bs is.one is.rest (is.rest ++ next.after) after (subst (All (IsIn phase)) (is.front) one_phase) is.back apart)

-- lines that were taken event by event were done phase by phase
pub takes_part : (lines : Lines) (es : Entries) → AreInTurn es → Takes lines es [] → ArePart lines es
takes_part lines [] turn takes before after all apart = ends before after (takes ∙ all)
  where
    ends : (before after : Lines) → [] ≡ before ++ after → Parts before after []
    ends [] [] none = record { own = []; rest = []; all = refl; before_run = λ c. tt; after_run = λ c. tt }
    ends [] (a ∷ after) none = absurd (cc)
    ends (b ∷ before) after none = absurd (cc)
takes_part lines (e ∷ es) turn takes [] after all apart = all_after after (e ∷ es) (subst (λ (l : Lines). AreRuns l (e ∷ es)) all (takes_run lines (e ∷ es) turn takes))
takes_part lines (e ∷ es) turn takes (b ∷ bs) after all apart =
    let next = takes.1 in
    part_next lines e takes.0 next es b bs after (turn_of lines e takes.0 next turn.0) (takes_part takes.0 es turn.1 takes.2) apart
    (cuts (next.before ++ next.line ∷ []) next.after (b ∷ bs) after (append_assoc next.before (next.line ∷ []) next.after ∙ sym next.all ∙ all))

-- The first line of a processor.
pub record FirstBy (c : Caller) (lines : Lines) : Type 0 where
  pub before : Lines
  pub line : Line Global
  pub after : Lines
  pub all : lines ≡ before ++ line ∷ after
  pub by_is : line.by ≡ c
  pub first : All (λ l. l.by ≡ c → ⊥) before

abbrev IsOther : Caller → Line Global → Type 0
IsOther c l = l.by ≡ c → ⊥

first_by : (c : Caller) (line : Line Global) (lines : Lines) (t : Bool) → is_caller c line.by ≡ t → (asked_by c lines ≡ []) ⊎ FirstBy c lines → (asked_by c (line ∷ lines) ≡ []) ⊎ FirstBy c
    (line ∷ lines)
first_by c line lines true is rest = inr (record { before = []; line = line; after = lines; all = refl; by_is = same_caller c line.by is; first = All-nil (IsOther c) })
first_by c line lines false is (inl none) = inl (asked_behind c line lines (λ same. false≢true (sym is ∙ is_itself c line.by same)) ∙ none)
first_by c line lines false is (inr some) = inr (record {
  before = line ∷ some.before;
  line = some.line;
  after = some.after;
  all = ap (λ (l : Lines). line ∷ l) some.all;
  by_is = some.by_is;
  first = All-cons (IsOther c) line some.before (λ same. false≢true (sym is ∙ is_itself c line.by same)) some.first;
})

pub find_by : (c : Caller) (lines : Lines) → (asked_by c lines ≡ []) ⊎ FirstBy c lines
find_by c [] = inl refl
find_by c (line ∷ lines) = first_by c line lines (is_caller c line.by) refl (find_by c lines)

-- whoever does an event has a line
nothing_asked : (c : Caller) (acts : Actions) (e : Entry Global) (es : Entries) → acts ≡ [] → AreAll c acts (e ∷ es) → ⊥
nothing_asked c acts e es none all = subst (λ (l : Actions). AreAll c l (e ∷ es)) none all

-- and some lines ask for something
some_asked : (line : Line Global) (lines : Lines) → AreRuns (line ∷ lines) [] → ⊥
some_asked line lines runs = subst (λ (l : Actions). AreAll line.by l []) (asked_first line.by line lines refl) (runs line.by)

own_first : (e : Entry Global) (es : Entries) → own_of e.event.by (e ∷ es) ≡ e ∷ own_of e.event.by es
own_first e es = ap (λ (b : Bool). cond b (e ∷ own_of e.event.by es) (own_of e.event.by es)) (is_itself e.event.by e.event.by refl)

-- the parts of a history that isn't empty begin with its first entry, where the lines before aren't none
pub record Begun (b : Line Global) (bs after : Lines) (e : Entry Global) (es : Entries) : Type 0 where
  pub own : Entries
  pub rest : Entries
  pub all : es ≡ own ++ rest
  pub before_run : AreRuns (b ∷ bs) (e ∷ own)
  pub after_run : AreRuns after rest

begun_by : (b : Line Global) (bs after : Lines) (e : Entry Global) (es own rest : Entries) → e ∷ es ≡ own ++ rest → AreRuns (b ∷ bs) own → AreRuns after rest → Begun b bs after e es
begun_by b bs after e es [] rest all before_run after_run = absurd (some_asked b bs before_run)
begun_by b bs after e es (o ∷ own) rest all before_run after_run = record {
  own = own;
  rest = rest;
  all = cc;
  before_run = let same : o ≡ e = cc in subst (λ (x : Entry Global). AreRuns (b ∷ bs) (x ∷ own)) same before_run;
  after_run = after_run;
}

begun : (b : Line Global) (bs after : Lines) (e : Entry Global) (es : Entries) → Parts (b ∷ bs) after (e ∷ es) → Begun b bs after e es
begun b bs after e es parts = begun_by b bs after e es parts.own parts.rest parts.all parts.before_run parts.after_run

module _ (lines : Lines) (e : Entry Global) (es : Entries) (sorted : AreSorted lines) (runs : AreRuns lines (e ∷ es)) (part : ArePart lines (e ∷ es)) (some : FirstBy e.event.by lines) where
  abbrev c : Caller
  c = e.event.by

  abbrev here : ℕ
  here = some.line.phase

  its_all : AreAll c (some.line.action ∷ asked_by c some.after) (e ∷ own_of c es)
  its_all =
      subst (λ (l : Actions). AreAll c l (e ∷ own_of c es))
      (
      ap (asked_by c) some.all ∙ asked_by-append c some.before (some.line ∷ some.after)
      ∙ ap (λ (l : Actions). l ++ asked_by c (some.line ∷ some.after)) (asked_of_others c some.before some.first)
      ∙ asked_first c some.line some.after some.by_is
      )
      (subst (AreAll c (asked_by c lines)) (own_first e es) (runs c))

  sorted_here : AreSorted (some.before ++ some.line ∷ some.after)
  sorted_here = subst AreSorted some.all sorted

  -- no line of an earlier phase is left
  cut_none : (b : Line Global) (bs after : Lines) → All (λ l. l.phase < here) (b ∷ bs) → Cuts some.before (some.line ∷ some.after) (b ∷ bs) after → asked_by c (b ∷ bs) ≡ []
  cut_none b bs after early (inl is) = by is.rest is.front is.back
    where
      by : (rest : Lines) → b ∷ bs ≡ some.before ++ rest → some.line ∷ some.after ≡ rest ++ after → asked_by c (b ∷ bs) ≡ []
      by [] front back = ap (asked_by c) (front ∙ append-nil some.before) ∙ asked_of_others c some.before some.first
      by (y ∷ rest) front back =
          let same : some.line ≡ y = cc in
          let at : y.phase < here = All-head (λ (l : Line Global). l.phase < here) y rest (All-right (λ (l : Line Global). l.phase < here) some.before (y ∷ rest)
          (subst (All (λ (l : Line Global). l.phase < here)) front early)) in
          absurd (omega (arith, at, ap (λ (l : Line Global). l.phase) same))
  cut_none b bs after early (inr is) =
      asked_of_others c (b ∷ bs) (All-left (IsOther c) (b ∷ bs) (is.one ∷ is.rest) (subst (All (IsOther c)) is.front some.first))

  none_early : (parts : PartsAt here lines) → parts.before ≡ []
  none_early parts = by parts.before parts.after parts.all parts.early parts.late
    where
      by : (before after : Lines) → lines ≡ before ++ after → All (λ l. l.phase < here) before → All (IsFrom here) after → before ≡ []
      by [] after all early late = refl
      by (b ∷ bs) after all early late =
          let first = begun b bs after e es (part (b ∷ bs) after all (apart_at here (b ∷ bs) after early late)) in
          let none = cut_none b bs after early (cuts some.before (some.line ∷ some.after) (b ∷ bs) after (sym some.all ∙ all)) in
          absurd (nothing_asked c (asked_by c (b ∷ bs)) e (own_of c first.own) none (subst (AreAll c (asked_by c (b ∷ bs))) (own_first e first.own) (first.before_run c)))

  all_late : All (IsFrom here) lines
  all_late =
      let parts = parts_at here lines sorted in
      subst (All (IsFrom here)) (sym (parts.all ∙ ap (λ (l : Lines). l ++ parts.after) (none_early parts))) parts.late

  in_phase : All (IsIn here) some.before
  in_phase =
      All-both (IsFrom here) (λ (l : Line Global). l.phase ≤ here) (IsIn here) (λ l from until. omega (arith, from, until)) some.before
      (All-left (IsFrom here) some.before (some.line ∷ some.after) (subst (All (IsFrom here)) some.all all_late))
      (sorted_before some.before some.line some.after sorted_here)

  others_first : All (λ l. l.by ≡ some.line.by → ⊥) some.before
  others_first = All-weaker (IsOther c) (λ (l : Line Global). l.by ≡ some.line.by → ⊥) (λ l other same. other (same ∙ some.by_is)) some.before some.first

  event_is : e.event ≡ record { by = some.line.by; what = some.line.action }
  event_is = its_all.0 ∙ (λ i. record { by = sym some.by_is i; what = some.line.action })

  abbrev pub left : Lines
  left = some.before ++ (line_left some.line e.reply ++ some.after)

  pub is_next : IsNext lines e left
  is_next = record {
    before = some.before;
    line = some.line;
    after = some.after;
    all = some.all;
    phase = in_phase;
    first = others_first;
    event = event_is;
    left_is = refl;
  }

  pub sorted_left : AreSorted left
  sorted_left =
      let acts = action_left some.line.action e.reply in
      sorted_other some.before (some.line ∷ some.after) (line_left some.line e.reply ++ some.after) sorted_here
      (sorted_lefts some.line acts some.after (sorted_right some.before (some.line ∷ some.after) sorted_here))
      (late_lefts some.line acts some.after)

  abbrev its_left : Lines
  its_left = line_left some.line e.reply

  -- a cut of what is left is one of all lines
  module _ (b : Line Global) (bs after : Lines) (apart : AreApart (b ∷ bs) after) where
    late_lines : (rest : Lines) → b ∷ bs ≡ (some.before ++ its_left) ++ rest → some.after ≡ rest ++ after → IsFrom here b
    late_lines rest front back =
        let behind : All (IsFrom here) some.after = (sorted_right some.before (some.line ∷ some.after) sorted_here).0 in
        let acts = action_left some.line.action e.reply in
        let all : All (IsFrom here) ((some.before ++ its_left) ++ rest) =
        All-append (IsFrom here) (some.before ++ its_left) rest
        (
        All-append (IsFrom here) some.before its_left (All-weaker (IsIn here) (IsFrom here) (λ l same. omega (arith, same)) some.before in_phase)
        (lefts_all (λ p. here ≤ p) some.line acts (omega arith))
        )
        (All-left (IsFrom here) rest after (subst (All (IsFrom here)) back behind)) in
        All-head (IsFrom here) b bs (subst (All (IsFrom here)) (sym front) all)

    apart_all : (rest : Lines) → b ∷ bs ≡ (some.before ++ its_left) ++ rest → some.after ≡ rest ++ after → AreApart (some.before ++ some.line ∷ rest) after
    apart_all rest front back =
        let P : Line Global → Type 0 = λ l. All (λ n. l.phase < n.phase) after in
        let all : All P ((some.before ++ its_left) ++ rest) = subst (All P) front apart in
        let from = late_lines rest front back in
        let first : All (λ n. b.phase < n.phase) after = All-head P b bs apart in
        let at : P some.line = All-weaker (λ (n : Line Global). b.phase < n.phase) (λ (n : Line Global). here < n.phase) (λ n less. omega (arith, less, from)) after first in
        All-append P some.before (some.line ∷ rest) (All-left P some.before its_left (All-left P (some.before ++ its_left) rest all))
        (All-cons P some.line rest at (All-right P (some.before ++ its_left) rest all))

    more_line : (first : Lines) (rest : Lines) → (b : Line Global) × (bs : Lines) × (first ++ some.line ∷ rest ≡ b ∷ bs)
    more_line [] rest = (some.line, rest, refl)
    more_line (x ∷ first) rest = (x, first ++ some.line ∷ rest, refl)

    part_back : Cuts (some.before ++ its_left) some.after (b ∷ bs) after → Parts (b ∷ bs) after es
    part_back (inl is) =
        let all : lines ≡ (some.before ++ some.line ∷ is.rest) ++ after =
        some.all ∙ ap (λ (l : Lines). some.before ++ some.line ∷ l) is.back ∙ sym (append_assoc some.before (some.line ∷ is.rest) after) in
        let more = more_line some.before is.rest in
        let parts = part (some.before ++ some.line ∷ is.rest) after all (apart_all is.rest is.front is.back) in
        let first = begun more.0 more.1 after e es (subst (λ (l : Lines). Parts l after (e ∷ es)) more.2 parts) in
        let here_next : IsNext (some.before ++ some.line ∷ is.rest) e (some.before ++ (its_left ++ is.rest)) = record {
          before = some.before;
          line = some.line;
          after = is.rest;
          all = refl;
          phase = in_phase;
          first = others_first;
          event = event_is;
          left_is = refl;
        } in record {
          own = first.own;
          rest = first.rest;
          all = first.all;
          before_run =
              subst (λ (l : Lines). AreRuns l first.own) (sym (is.front ∙ append_assoc some.before its_left is.rest))
              (
              back (some.before ++ some.line ∷ is.rest) e (some.before ++ (its_left ++ is.rest)) here_next first.own
              (subst (λ (l : Lines). AreRuns l (e ∷ first.own)) (sym more.2) first.before_run)
              );
          after_run = first.after_run;
        }
    part_back (inr is) =
        let same : All (IsIn here) (some.before ++ its_left) = All-append (IsIn here) some.before its_left in_phase (lefts_all (λ p. p ≡ here) some.line (action_left some.line.action e.reply) refl) in
        absurd (not_apart here b bs is.one is.rest (is.rest ++ some.after) after (subst (All (IsIn here)) is.front same) is.back apart)

  pub runs_left : AreRuns left es
  runs_left = back lines e left is_next es runs

  pub part_left : ArePart left es
  part_left [] after all apart = all_after after es (subst (λ (l : Lines). AreRuns l es) all runs_left)
  part_left (b ∷ bs) after all apart = part_back b bs after apart (cuts (some.before ++ its_left) some.after (b ∷ bs) after (append_assoc some.before its_left some.after ∙ all))

-- lines that were done phase by phase can be taken event by event
pub runs_take : (lines : Lines) (es : Entries) → AreSorted lines → AreRuns lines es → ArePart lines es → Takes lines es []
runs_take [] [] sorted runs part = refl
runs_take (line ∷ lines) [] sorted runs part = absurd (some_asked line lines runs)
runs_take lines (e ∷ es) sorted runs part =
    elim (find_by e.event.by lines) [
      | inl none ↦ absurd (nothing_asked e.event.by (asked_by e.event.by lines) e (own_of e.event.by es) none
          (subst (AreAll e.event.by (asked_by e.event.by lines)) (own_first e es) (runs e.event.by)))
      | inr some ↦ (
        left lines e es sorted runs part some,
        is_next lines e es sorted runs part some,
        runs_take (left lines e es sorted runs part some) es (sorted_left lines e es sorted runs part some) (runs_left lines e es sorted runs part some) (part_left lines e es sorted runs part some),
      )
    ]

-- the words of contracts
parts_cut : (before after : Lines) (es : Entries) → Parts before after es → HasCut before after es
parts_cut before after es parts = record {
  own = parts.own;
  rest = parts.rest;
  all = parts.all;
  before_run = run_of before parts.own parts.before_run;
  after_run = run_of after parts.rest parts.after_run;
}

cut_parts : (before after : Lines) (es : Entries) → HasCut before after es → Parts before after es
cut_parts before after es cut = record {
  own = cut.own;
  rest = cut.rest;
  all = cut.all;
  before_run = runs_of before cut.own cut.before_run;
  after_run = runs_of after cut.rest cut.after_run;
}

pub taken_run : (lines : Lines) (es : Entries) → AreInTurn es → Takes lines es [] → AreRun lines es
taken_run lines es turn takes = run_of lines es (takes_run lines es turn takes)

pub taken_phased : (lines : Lines) (es : Entries) → AreInTurn es → Takes lines es [] → ArePhased lines es
taken_phased lines es turn takes before after all apart = parts_cut before after es (takes_part lines es turn takes before after all apart)

pub done_taken : (lines : Lines) (es : Entries) → AreSorted lines → AreRun lines es → ArePhased lines es → Takes lines es []
done_taken lines es sorted run phased =
    runs_take lines es sorted (runs_of lines es run) (λ before after all apart. cut_parts before after es (phased before after all apart))
