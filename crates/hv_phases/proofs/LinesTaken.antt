-- Lines that are run in groups, and then lines of one phase.
use Rattle.std.proofs.Common.{◌≡◌, ℕ, ◌≤◌, ◌+◌, Bool, true, false, not, [], ◌∷◌, ◌++◌, refl, sym, ap, ◌∙◌, subst, arith, append_assoc}
use Rattle.std.proofs.Common.{reverse, Option, Some, None, All, Global}
use Rattle.std.proofs.lemmas.List.{reverse-append, reverse-reverse}
use Rattle.std.proofs.lemmas.List.Elements.{All-cons, All-nil, All-push}
use Rattle.hv_history.specs.declared.kept.HostRefused.{HostRefused}
use Rattle.hv_policy.specs.declared.event.Caller.{Caller}
use Rattle.hv_phases.specs.PassMap.{AreGoing, Each, HasBegunBy, HasDone, HasRunLine, HasRunPart, HasRunTo, HasTaken, IsAny, IsFresh, IsGroup, IsSame}
use Rattle.hv_phases.specs.PassMap.{IsWithin, RunnerMap}
use Rattle.hv_phases.specs.PassMap.{last_in, lines_in, pass_at, stop_at}
use Rattle.hv_phases.specs.Turns.{IsPast}
use Rattle.hv_phases.proofs.AskedOfProcessor.{Lines, either}
use Rattle.hv_phases.proofs.GroupsDone.{done_begun, done_closed, done_fresh, done_more, done_still, done_weaker, ended}
use Rattle.hv_script.specs.declared.line.Line.{Line}
use Rattle.hv_shared.specs.declared.receipts.Receipt.{Receipt}

-- the next line is the last of those that are left
pub turned : (left rest : Lines) (line : Line Global) → left ≡ rest ++ line ∷ [] → reverse left ≡ line ∷ reverse rest
turned left rest line is = ap reverse is ∙ reverse-append rest (line ∷ [])

-- some phase has no line here at once
pub some_phase : (rest : Lines) → (phase : ℕ) × IsPast phase rest
some_phase [] = (0, λ line more is. absurd (cc))
some_phase (line ∷ rest) = (
  line.phase + 1,
  λ next more is same. let first : line ≡ next = cc in let p = ap (λ (l : Line Global). l.phase) first in omega
      (arith, p, same),
)

-- whether a processor is stopped after one more line
abbrev pub after : Bool → Bool → Bool
after false true = false
after false false = true
after true goes_on = true

pub after_going : (goes_on : Bool) → after false goes_on ≡ not goes_on
after_going true = refl
after_going false = refl

module _ {L S : Type 0} where
  pub fresh_runs : (serial : Bool) (lines left : Lines) (runners : RunnerMap L S) → left ≡ reverse lines → Each IsFresh runners
      → HasRunTo serial lines [] (reverse left) 0 runners
  fresh_runs serial lines left runners is fresh = record {
    past = [];
    order = ap reverse is ∙ reverse-reverse lines;
    rises = tt;
    last_is = omega arith;
    each = λ by pass at. done_fresh (IsWithin 0 0) (stop_at runners by) by pass (fresh by pass at);
  }

  pub runs_begun : (serial : Bool) (lines taken left : Lines) (last : ℕ) (runners : RunnerMap L S) → HasRunTo serial lines taken left last runners
      → Each (HasBegunBy lines) runners
  runs_begun serial lines taken left last runners run by pass at =
      done_begun (IsWithin (last_in run.past) last) run.past taken left lines (stop_at runners by) by pass run.order (run.each by pass at)

  pub runs_as : (serial : Bool) (lines taken left : Lines) (last : ℕ) (old new : RunnerMap L S) → ((by : Caller) → IsSame old new by)
      → HasRunTo serial lines taken left last old
      → HasRunTo serial lines taken left last new
  runs_as serial lines taken left last old new same run = record {
    past = run.past;
    order = run.order;
    rises = run.rises;
    last_is = run.last_is;
    each = λ by pass at.
        subst (λ (s : Option HostRefused). HasDone (IsWithin (last_in run.past) last) run.past taken s by pass) (sym (same by).1)
        (run.each by pass (sym (same by).0 ∙ at));
  }

  -- a run that goes no further
  pub part_of : (serial : Bool) (lines taken left : Lines) (last phase : ℕ) (runners : RunnerMap L S) → All (λ line. line.phase ≡ phase) taken
      → IsPast phase left
      → HasRunTo serial lines taken left last runners → HasRunPart serial lines runners
  part_of serial lines taken left last phase runners one ends run = record {
    taken = taken;
    rest = left;
    last = last;
    phase = phase;
    one = one;
    ends = ends;
    run = run;
  }

  pub part_of_groups : (serial : Bool) (lines left : Lines) (last : ℕ) (runners : RunnerMap L S) → HasRunTo serial lines [] left last runners
      → HasRunPart serial lines runners
  part_of_groups serial lines left last runners run =
      let phase = some_phase left in
      part_of serial lines [] left last phase.0 runners (All-nil (λ (l : Line Global). l.phase ≡ phase.0)) phase.1 run

  -- the lines that were taken are a group
  pub group_closed : (serial : Bool) (lines taken left : Lines) (last : ℕ) (runners : RunnerMap L S) → HasRunTo serial lines taken left last runners
      → AreGoing runners → IsGroup serial taken
      → HasRunTo serial lines [] left last runners
  group_closed serial lines taken left last runners run going is = record {
    past = ended taken last ∷ run.past;
    order = append_assoc (lines_in run.past) taken left ∙ run.order;
    rises = (is, run.last_is, run.rises);
    last_is = omega arith;
    each = λ by pass at.
        let P : Receipt → Type 0 = IsWithin last last in
        subst (λ (s : Option HostRefused). HasDone P (ended taken last ∷ run.past) [] s by pass) (sym (going by))
        (done_closed P run.past taken last by pass
        (subst (λ (s : Option HostRefused). HasDone (IsWithin (last_in run.past) last) run.past taken s by pass) (going by) (run.each by pass at)));
  }

  module _ (serial : Bool) (lines taken left rest : Lines) (line : Line Global) (last : ℕ) (old new : RunnerMap L S)
      (run : HasRunTo serial lines taken left last old) (is : left ≡ line ∷ rest) where
    -- what each has of one line more
    taken_by : (P : Receipt → Type 0) → ((r : Receipt) → IsWithin (last_in run.past) last r → P r) → HasRunLine P line old new
        → Each (HasDone P run.past (taken ++ line ∷ [])) new
    taken_by P weaker ran by pass at =
        let was = ran.back by (pass, at) in
        let before : HasDone P run.past taken (stop_at old by) by was.0 =
        done_weaker (IsWithin (last_in run.past) last) P weaker run.past taken (stop_at old by) by was.0 (run.each by was.0 was.1) in
        either line.by by
        (λ same.
        let of = λ (c : Caller). HasTaken P line.action (stop_at old c) (stop_at new c) was.0 pass in
        done_more P run.past taken by line (stop_at old by) (stop_at new by) was.0 pass (sym same) before
        (subst of (sym same)
        (ran.own was.0 pass (ap (pass_at old) (sym same) ∙ was.1) (ap (pass_at new) (sym same) ∙ at))))
        (λ other.
        let like = ran.others by other in
        let found : pass_at old by ≡ Some pass = sym like.0 ∙ at in
        subst (λ (s : Option HostRefused). HasDone P run.past (taken ++ line ∷ []) s by pass) (sym like.1)
        (done_still P run.past taken by line (stop_at old by) pass (λ same. other (sym same))
        (done_weaker (IsWithin (last_in run.past) last) P weaker run.past taken (stop_at old by) by pass (run.each by pass found))))

    order : lines_in run.past ++ ((taken ++ line ∷ []) ++ rest) ≡ lines
    order = ap (λ (ls : Lines). lines_in run.past ++ ls) (append_assoc taken (line ∷ []) rest ∙ ap (λ (ls : Lines). taken ++ ls) (sym is)) ∙ run.order

    -- a line more was taken
    pub line_taken : (now : ℕ) → last ≤ now → HasRunLine (IsWithin last now) line old new → HasRunTo serial lines (taken ++ line ∷ []) rest now new
    line_taken now up ran =
        let low = run.last_is in
        let P : Receipt → Type 0 = IsWithin (last_in run.past) now in
        record {
          past = run.past;
          order = order;
          rises = run.rises;
          last_is = omega (arith, low, up);
          each = taken_by P (λ r within. (within.0, omega (arith, within.1, up)))
              (record {
                own = λ was pass at here.
                    let t = ran.own was pass at here in
                    record { more = t.more; gained = t.gained; took = t.took; held = λ k d less. let w = t.held k d less in (omega (arith, low, w.0), w.1) };
                others = ran.others;
                back = ran.back;
                stayed = ran.stayed;
              });
        }

    -- its numbers are any
    pub line_begun : HasRunLine IsAny line old new → Each (HasBegunBy lines) new
    line_begun ran by pass at =
        done_begun IsAny run.past (taken ++ line ∷ []) rest lines (stop_at new by) by pass order (taken_by IsAny (λ r within. tt) ran by pass at)

  -- lines in order: all of them so far, or all before a phase in which a processor was stopped, and then some of that phase
  abbrev pub Goes : Lines → Lines → ℕ → ℕ → Bool → RunnerMap L S → Type 0
  Goes lines left last phase false runners = HasRunTo true lines [] left last runners × AreGoing runners
  Goes lines left last phase true runners = (taken : Lines) × All (λ line. line.phase ≡ phase) taken × HasRunTo true lines taken left last runners

  pub goes_begun : (lines left : Lines) (last phase : ℕ) (stopped : Bool) (runners : RunnerMap L S) → Goes lines left last phase stopped runners
      → Each (HasBegunBy lines) runners
  goes_begun lines left last phase false runners goes = runs_begun true lines [] left last runners goes.0
  goes_begun lines left last phase true runners goes = runs_begun true lines goes.0 left last runners goes.2

  module _ (lines left rest : Lines) (line : Line Global) (last now phase : ℕ) (old new : RunnerMap L S) (is : left ≡ line ∷ rest) where
    pub goes_more : (stopped goes_on : Bool) → (stopped ≡ true → line.phase ≡ phase) → last ≤ now → HasRunLine (IsWithin last now) line old new
        → (goes_on ≡ true → stop_at new line.by ≡ None)
        → Goes lines left last phase stopped old → Goes lines rest now line.phase (after stopped goes_on) new
    goes_more false true same up ran goes_on goes =
        let going : AreGoing new = λ by. either line.by by (λ own. ap (stop_at new) own ∙ goes_on refl) (λ other. (ran.others by other).1 ∙ goes.1 by) in
        (group_closed true lines (line ∷ []) rest now new (line_taken true lines [] left rest line last old new goes.0 is now up ran) going (line, refl), going)
    goes_more false false same up ran goes_on goes = (
      line ∷ [],
      All-cons (λ (l : Line Global). l.phase ≡ line.phase) line [] refl (All-nil (λ (l : Line Global). l.phase ≡ line.phase)),
      line_taken true lines [] left rest line last old new goes.0 is now up ran,
    )
    goes_more true on same up ran goes_on goes = (
      goes.0 ++ line ∷ [],
      All-push (λ (l : Line Global). l.phase ≡ line.phase) goes.0 line (subst (λ (p : ℕ). All (λ (l : Line Global). l.phase ≡ p) goes.0) (sym (same refl))
          goes.1) refl,
      line_taken true lines goes.0 left rest line last old new goes.2 is now up ran,
    )

    pub goes_broken : (stopped : Bool) → HasRunLine IsAny line old new → Goes lines left last phase stopped old → Each (HasBegunBy lines) new
    goes_broken false ran goes = line_begun true lines [] left rest line last old new goes.0 is ran
    goes_broken true ran goes = line_begun true lines goes.0 left rest line last old new goes.2 is ran
