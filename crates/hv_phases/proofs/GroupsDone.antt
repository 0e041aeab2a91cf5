-- What a pass has of groups and of further lines, after one line more.
use Rattle.std.proofs.Common.{◌≡◌, ℕ, ◌<◌, List, [], ◌∷◌, ◌++◌, length, length-append, refl, sym, ap, ◌∙◌, subst, arith, append_assoc, append-nil, inl, Option}
use Rattle.std.proofs.Common.{Some, None, Global}
use Rattle.std.proofs.lemmas.List.Elements.{All-append, All-nil, All-weaker}
use Rattle.hv_history.specs.declared.kept.HostRefused.{HostRefused}
use Rattle.hv_policy.specs.declared.event.Action.{Action}
use Rattle.hv_policy.specs.declared.event.Caller.{Caller}
use Rattle.hv_phases.specs.Begun.{AreBegun}
use Rattle.hv_phases.specs.Lines.{asked_by}
use Rattle.hv_phases.specs.PassMap.{AreBehind, Did, HasBegunBy, HasDone, HasTaken, HasWorked, IsFresh, IsPartOf, IsWithin, Past, Took, last_in, lines_in}
use Rattle.hv_phases.proofs.AskedOfProcessor.{Actions, Lines, asked_by-append, asked_by_other, asked_by_own, whole-append}
use Rattle.hv_phases.proofs.FirstParts.{begun_of_more, whole_and_begun, whole_begun}
use Rattle.hv_phases.proofs.GroupsInOrder.{behind_whole}
use Rattle.hv_script.specs.declared.line.Line.{Line}
use Rattle.hv_shared.specs.PassValue.{PassValue}
use Rattle.hv_shared.specs.declared.receipts.Receipt.{Receipt}
use Rattle.hv_threads.specs.Perform.{AreWhole}
use Rattle.hv_threads.specs.declared.phase.Work.{Work}

abbrev pub Receipts : Type 0
Receipts = List Receipt

-- a group of these lines, until whose end this number is the highest
abbrev pub ended : Lines → ℕ → Past
ended lines last = record { lines = lines; last = last }

-- nothing of nothing
did_nothing : (stop : Option HostRefused) (by : Caller) (acts : Actions) → acts ≡ [] → Did stop by acts []
did_nothing None by acts none = subst (λ (like : Actions). AreWhole by like []) (sym none) refl
did_nothing (Some why) by acts none = subst (λ (like : Actions). AreBegun by like []) (sym none) refl

own_nothing : (stop : Option HostRefused) (by : Caller) (own : Receipts) → Did stop by [] own → own ≡ []
own_nothing None by own did = did
own_nothing (Some why) by own did = did

-- all of some actions are a first part of them
pub did_begun : (stop : Option HostRefused) (by : Caller) (acts : Actions) (own : Receipts) → Did stop by acts own → AreBegun by acts own
did_begun None by acts own did = whole_begun by acts own did
did_begun (Some why) by acts own did = did

pub done_fresh : (P : Receipt → Type 0) (stop : Option HostRefused) (by : Caller) (pass : PassValue) → IsFresh stop by pass → HasDone P [] [] stop by pass
done_fresh P stop by pass is = record {
  caller = is.caller;
  counted = is.share ∙ sym (ap length is.none);
  before = [];
  own = [];
  receipts = is.none;
  behind = refl;
  did = did_nothing stop by [] refl;
  held = All-nil P;
}

module _ (P Q : Receipt → Type 0) (weaker : (r : Receipt) → P r → Q r) (past : List Past) (taken : Lines) (stop : Option HostRefused) (by : Caller)
    (pass : PassValue) where
  pub done_weaker : HasDone P past taken stop by pass → HasDone Q past taken stop by pass
  done_weaker was = record {
    caller = was.caller;
    counted = was.counted;
    before = was.before;
    own = was.own;
    receipts = was.receipts;
    behind = was.behind;
    did = was.did;
    held = All-weaker P Q weaker was.own was.held;
  }

module _ (P : Receipt → Type 0) (past : List Past) (taken : Lines) (by : Caller) where
  -- a line of another
  pub done_still : (line : Line Global) (stop : Option HostRefused) (pass : PassValue) → (line.by ≡ by → ⊥) → HasDone P past taken stop by pass
      → HasDone P past (taken ++ line ∷ []) stop by pass
  done_still line stop pass other was =
      let same : asked_by by taken ≡ asked_by by (taken ++ line ∷ []) =
      sym (asked_by-append by taken (line ∷ []) ∙ ap (λ (like : Actions). asked_by by taken ++ like) (asked_by_other by line other)
      ∙ append-nil (asked_by by taken)) in
      record {
        caller = was.caller;
        counted = was.counted;
        before = was.before;
        own = was.own;
        receipts = was.receipts;
        behind = was.behind;
        did = subst (λ (like : Actions). Did stop by like was.own) same was.did;
        held = was.held;
      }

  -- a line of its own
  did_more : (was now : Option HostRefused) (acts : Actions) (what : Action Global) (own more : Receipts) → Did was by acts own → Took was now by what more
      → Did now by (acts ++ what ∷ []) (own ++ more)
  did_more None None acts what own more did took = whole-append by acts (what ∷ []) own more did (more, [], sym (append-nil more), took, refl)
  did_more None (Some why) acts what own more did took = whole_and_begun by acts (what ∷ []) own more did (inl took)
  did_more (Some why) now acts what own more did took =
      subst (λ (s : Option HostRefused). Did s by (acts ++ what ∷ []) (own ++ more)) (sym took.0)
      (subst (λ (l : Receipts). AreBegun by (acts ++ what ∷ []) (own ++ l)) (sym took.1)
      (subst (AreBegun by (acts ++ what ∷ [])) (sym (append-nil own)) (begun_of_more by acts (what ∷ []) own did)))

  pub done_more : (line : Line Global) (was now : Option HostRefused) (old new : PassValue) → line.by ≡ by → HasDone P past taken was by old
      → HasTaken P line.action was now old new
      → HasDone P past (taken ++ line ∷ []) now by new
  done_more line was now old new own before took =
      let asked : asked_by by taken ++ line.action ∷ [] ≡ asked_by by (taken ++ line ∷ []) =
      sym (asked_by-append by taken (line ∷ []) ∙ ap (λ (like : Actions). asked_by by taken ++ like) (asked_by_own by line own)) in
      let of : Took was now by line.action took.more = subst (λ (c : Caller). Took was now c line.action took.more) before.caller took.took in
      let receipts = took.gained.receipts in
      let share = took.gained.share in
      let counted = before.counted in
      let many = ap length receipts ∙ length-append old.receipts took.more in
      record {
        caller = took.gained.caller ∙ before.caller;
        counted = omega (arith, share, counted, many);
        before = before.before;
        own = before.own ++ took.more;
        receipts = receipts ∙ ap (λ (l : Receipts). l ++ took.more) before.receipts ∙ append_assoc before.before before.own took.more;
        behind = before.behind;
        did = subst (λ (like : Actions). Did now by like (before.own ++ took.more)) asked (did_more was now (asked_by by taken) line.action before.own
            took.more before.did of);
        held = All-append P before.own took.more before.held took.held;
      }

-- the lines of a phase that ask nothing of it
pub done_idle : (P Q : Receipt → Type 0) (past : List Past) (taken : Lines) (was now : Option HostRefused) (by : Caller) (pass : PassValue)
    → asked_by by taken ≡ [] → HasDone P past [] was by pass
    → HasDone Q past taken now by pass
done_idle P Q past taken was now by pass none before = record {
  caller = before.caller;
  counted = before.counted;
  before = before.before;
  own = [];
  receipts = before.receipts ∙ ap (λ (l : Receipts). before.before ++ l) (own_nothing was by before.own before.did);
  behind = before.behind;
  did = did_nothing now by (asked_by by taken) none;
  held = All-nil Q;
}

-- and those that ask a work of it
pub done_worked : {L : Type 0} (P Q : Receipt → Type 0) (past : List Past) (taken : Lines) (was now : Option HostRefused) (work : Work L) (pass : PassValue)
    → work.actions.items ≡ asked_by work.pass.caller taken → HasDone P past [] was work.pass.caller work.pass → HasWorked Q work now pass
    → HasDone Q past taken now work.pass.caller pass
done_worked P Q past taken was now work pass asked before did =
    let by = work.pass.caller in
    let none = own_nothing was by before.own before.did in
    let share = did.gained.share in
    let counted = before.counted in
    let many = ap length did.gained.receipts ∙ length-append work.pass.receipts did.more in
    record {
      caller = did.gained.caller;
      counted = omega (arith, share, counted, many);
      before = before.before;
      own = did.more;
      receipts = did.gained.receipts ∙ ap (λ (l : Receipts). l ++ did.more) (before.receipts ∙ ap (λ (l : Receipts). before.before ++ l) none
          ∙ append-nil before.before);
      behind = before.behind;
      did = subst (λ (like : Actions). Did now by like did.more) asked did.did;
      held = did.held;
    }

-- the lines were all done, and are a group
pub done_closed : (Q : Receipt → Type 0) (past : List Past) (taken : Lines) (now : ℕ) (by : Caller) (pass : PassValue)
    → HasDone (IsWithin (last_in past) now) past taken None by pass
    → HasDone Q (ended taken now ∷ past) [] None by pass
done_closed Q past taken now by pass was = record {
  caller = was.caller;
  counted = was.counted;
  before = pass.receipts;
  own = [];
  receipts = sym (append-nil pass.receipts);
  behind = (was.before, was.own, was.receipts, was.behind, was.did, was.held);
  did = refl;
  held = All-nil Q;
}

-- so it has begun them
pub done_begun : (P : Receipt → Type 0) (past : List Past) (taken rest lines : Lines) (stop : Option HostRefused) (by : Caller) (pass : PassValue)
    → lines_in past ++ (taken ++ rest) ≡ lines
    → HasDone P past taken stop by pass → HasBegunBy lines stop by pass
done_begun P past taken rest lines stop by pass order was =
    let more : AreBegun by (asked_by by (taken ++ rest)) was.own =
    subst (λ (like : Actions). AreBegun by like was.own) (sym (asked_by-append by taken rest))
    (begun_of_more by (asked_by by taken) (asked_by by rest) was.own (did_begun stop by (asked_by by taken) was.own was.did)) in
    let all : AreBegun by (asked_by by (lines_in past ++ (taken ++ rest))) (was.before ++ was.own) =
    subst (λ (like : Actions). AreBegun by like (was.before ++ was.own)) (sym (asked_by-append by (lines_in past) (taken ++ rest)))
    (whole_and_begun by (asked_by by (lines_in past)) (asked_by by (taken ++ rest)) was.before was.own (behind_whole by past was.before was.behind) more) in
    record {
      caller = was.caller;
      counted = was.counted;
      begun =
          subst (λ (c : Caller). AreBegun c (asked_by c lines) pass.receipts) (sym was.caller)
          (subst (AreBegun by (asked_by by lines)) (sym was.receipts) (subst (λ (ls : Lines). AreBegun by (asked_by by ls) (was.before ++ was.own)) order all));
    }

-- and a first part of them
pub done_part : (past : List Past) (taken : Lines) (last : ℕ) (stop : Option HostRefused) (by : Caller) (pass : PassValue)
    → HasDone (IsWithin (last_in past) last) past taken stop by pass
    → IsPartOf past taken pass
done_part past taken last stop by pass was = record {
  before = was.before;
  own = was.own;
  receipts = was.receipts;
  behind = subst (λ (c : Caller). AreBehind c past was.before) (sym was.caller) was.behind;
  begun = subst (λ (c : Caller). AreBegun c (asked_by c taken) was.own) (sym was.caller) (did_begun stop by (asked_by by taken) was.own was.did);
  above = All-weaker (IsWithin (last_in past) last) (λ (r : Receipt). last_in past < r.number) (λ r is. is.0) was.own was.held;
}
