-- What is left behind a line.
use Rattle.std.proofs.Common.{◌≡◌, ℕ, ◌+◌, ◌<◌, ◌≢◌, ◌^◌, [], ◌∷◌, ◌++◌, refl, sym, ap, ◌∙◌, subst, arith, append_assoc, length, length-append, Bool, true, false, Some, inl, inr, All, map}
use Rattle.std.proofs.Common.{Global}
use Rattle.std.proofs.lemmas.Bool.{false≢true}
use Rattle.std.proofs.lemmas.List.Elements.{All-append, All-cons, All-head, All-nil, All-tail, All-weaker}
use Rattle.hv_abi.specs.declared.frame.Frame.{Frame}
use Rattle.hv_history.specs.Kept.{HasGained, IsRun, Kept}
use Rattle.hv_history.specs.Run.{restart}
use Rattle.hv_history.specs.declared.entry.Entry.{Entry}
use Rattle.hv_phases.specs.Lines.{AreApart, asked_by}
use Rattle.hv_phases.proofs.AskedOfProcessor.{Actions, Lines, asked_by-append, asked_first, none_asked}
use Rattle.hv_policy.specs.Next.{GoesOn}
use Rattle.hv_policy.specs.declared.event.Action.{Action}
use Rattle.hv_policy.specs.declared.event.Action.TheVariants.{Hypercall, ReadMsr, WriteMsr, ReadSlot, ClearSlot, ReadFlags, ClearFlag, TakeInterrupt}
use Rattle.hv_policy.specs.declared.event.Caller.{Caller}
use Rattle.hv_policy.specs.declared.event.Event.{Event}
use Rattle.hv_policy.specs.declared.reply.Reply.{Reply}
use Rattle.hv_policy.specs.declared.reply.Reply.TheVariants.{Served, More, Denied, Fault}
use Rattle.hv_script.specs.declared.line.Line.{Line}
use Rattle.hv_shared.proofs.Callers.{is_itself, same_caller}
use Rattle.hv_shared.specs.ByCaller.{is_caller}
use Rattle.hv_check.specs.From.{HasMoved, IsLegalFrom, IsNamedIn, IsNoEnd, IsOver}
use Rattle.hv_check.specs.Legal.{AreLines, IsLine}
use Rattle.hv_phases.specs.Read.{AreRead, AreSorted, IsNamed}
use Rattle.hv_phases.specs.Schedule.{IsBegun, IsIdle, StandsFor, after_reply, first_of, later_of, left_by}
use Rattle.hv_check.specs.Takes.{HasTaken, IsNext, Takes, action_left, line_left}
use Rattle.hv_phases.specs.declared.schedule.Schedule.{Schedule}
use Rattle.hv_check.proofs.RemainingActions.{Entries}
use Rattle.hv_check.proofs.NextEvent.{asked_of_others, here_left, there}
use Rattle.hv_check.proofs.Phases.{FirstBy, find_by}
use Rattle.hv_check.proofs.Runs.{one_reply}
use Rattle.hv_phases.proofs.LinesByPhase.{All-left, All-right, cuts, late_lefts, lefts_all, sorted_lefts, sorted_other, sorted_right}
use Rattle.hv_check.proofs.LineTexts.{Bytes, named_in, one_rest}

-- the rest behind the first of some actions
first_some : (acts : Actions) (a : Action Global) → first_of acts ≡ Some a → (rest : Actions) × (acts ≡ a ∷ rest)
first_some [] a is = absurd (cc)
first_some (x ∷ acts) a is = (acts, let same : x ≡ a = cc in ap (λ (y : Action Global). y ∷ acts) same)

-- The first line of a processor is one.
same_first : (c : Caller) (xs ys : Lines) (l m : Line Global) (us vs : Lines) → All (λ o. o.by ≢ c) xs → All (λ o. o.by ≢ c) ys → l.by ≡ c → m.by ≡ c → xs ++ l ∷ us ≡ ys ++ m ∷ vs
    → (xs ≡ ys) × (l ≡ m) × (us ≡ vs)
same_first c [] [] l m us vs p q one two is = (refl, cc, cc)
same_first c [] (y ∷ ys) l m us vs p q one two is = let same : l ≡ y = cc in absurd (All-head (λ (o : Line Global). o.by ≢ c) y ys q (subst (λ (o : Line Global). o.by ≡ c) same one))
same_first c (x ∷ xs) [] l m us vs p q one two is = let same : m ≡ x = cc in absurd (All-head (λ (o : Line Global). o.by ≢ c) x xs p (subst (λ (o : Line Global). o.by ≡ c) same two))
same_first c (x ∷ xs) (y ∷ ys) l m us vs p q one two is =
    let first : x ≡ y = cc in
    let rest = same_first c xs ys l m us vs (All-tail (λ (o : Line Global). o.by ≢ c) x xs p) (All-tail (λ (o : Line Global). o.by ≢ c) y ys q) one two
    (let same : xs ++ l ∷ us ≡ ys ++ m ∷ vs = cc in same) in
    ((λ i. first i ∷ rest.0 i), rest.1, rest.2)

-- so is the next event of a processor, and what is left then
module _ (lines : Lines) (e other : Entry Global) (left then : Lines) (one : IsNext lines e left) (two : IsNext lines other then) (by : e.event.by ≡ other.event.by) where
  one_by : e.event.by ≡ one.line.by
  one_by = ap (λ (event : Event Global). event.by) one.event

  two_by : other.event.by ≡ two.line.by
  two_by = ap (λ (event : Event Global). event.by) two.event

  lines_by : two.line.by ≡ one.line.by
  lines_by = sym two_by ∙ sym by ∙ one_by

  same_lines : (one.before ≡ two.before) × (one.line ≡ two.line) × (one.after ≡ two.after)
  same_lines =
      same_first one.line.by one.before two.before one.line two.line one.after two.after one.first
      (subst (λ (c : Caller). All (λ o. o.by ≢ c) two.before) lines_by two.first) refl lines_by (sym one.all ∙ two.all)

  pub same_event : e.event ≡ other.event
  same_event = one.event ∙ (λ i. record { by = (same_lines.1 i).by; what = (same_lines.1 i).action }) ∙ sym two.event

  pub same_left : e.reply ≡ other.reply → left ≡ then
  same_left reply =
      one.left_is ∙ (λ i. same_lines.0 i ++ (line_left (same_lines.1 i) (reply i) ++ same_lines.2 i)) ∙ sym two.left_is

-- lines that are left were read
pub read_left : (lines : Lines) (e : Entry Global) (left : Lines) → IsNext lines e left → AreRead lines → AreRead left
read_left lines e left next read =
    let acts = action_left next.line.action e.reply in
    let sorted : AreSorted (next.before ++ next.line ∷ next.after) = subst AreSorted next.all read.sorted in
    let named : All IsNamed (next.before ++ next.line ∷ next.after) = subst (All IsNamed) next.all read.named in
    let behind : All IsNamed (next.line ∷ next.after) = All-right IsNamed next.before (next.line ∷ next.after) named in
    record {
      sorted =
          subst AreSorted (sym next.left_is)
          (
          sorted_other next.before (next.line ∷ next.after) (line_left next.line e.reply ++ next.after) sorted
          (sorted_lefts next.line acts next.after (sorted_right next.before (next.line ∷ next.after) sorted))
          (late_lefts next.line acts next.after)
          );
      named =
          subst (All IsNamed) (sym next.left_is)
          (
          All-append IsNamed next.before (line_left next.line e.reply ++ next.after) (All-left IsNamed next.before (next.line ∷ next.after) named)
          (
          All-append IsNamed (line_left next.line e.reply) next.after (named_lefts next.line acts (All-head IsNamed next.line next.after behind))
          (All-tail IsNamed next.line next.after behind)
          )
          );
    }
  where
    named_lefts : (line : Line Global) (acts : Actions) → IsNamed line → All IsNamed (map (λ action. record line { action = action }) acts)
    named_lefts line [] is = All-nil IsNamed
    named_lefts line (a ∷ acts) is = All-cons IsNamed (record line { action = a }) (map (λ action. record line { action = action }) acts) is (named_lefts line acts is)

-- what is left of a turn is what is left of its line
access_left : (a : Action Global) (acts : Actions) (reply : Reply) → ((r : Reply) → action_left a r ≡ []) → ((next : ℕ) (output : Bytes) → GoesOn a (More next output) → ⊥) → GoesOn a reply
    → after_reply (a ∷ acts) reply ≡ action_left a reply ++ acts
access_left a acts (Served output) none never goes = ap (λ (l : Actions). l ++ acts) (sym (none (Served output)))
access_left a acts (More next output) none never goes = absurd (never next output goes)
access_left a acts (Denied rule status reps) none never goes = ap (λ (l : Actions). l ++ acts) (sym (none (Denied rule status reps)))
access_left a acts (Fault rule) none never goes = ap (λ (l : Actions). l ++ acts) (sym (none (Fault rule)))

call_after : (frame : Frame Global) (acts : Actions) (reply : Reply) → GoesOn (Hypercall frame) reply → after_reply (Hypercall frame ∷ acts) reply ≡ action_left (Hypercall frame) reply ++ acts
call_after frame acts (Served output) goes = refl
call_after frame acts (More next output) goes = ap (λ (n : ℕ). Hypercall (restart frame n) ∷ acts) goes.0
call_after frame acts (Denied rule status reps) goes = refl
call_after frame acts (Fault rule) goes = refl

after_left : (a : Action Global) (acts : Actions) (reply : Reply) → GoesOn a reply → after_reply (a ∷ acts) reply ≡ action_left a reply ++ acts
after_left (Hypercall frame) acts reply goes = call_after frame acts reply goes
after_left (ReadMsr msr) acts reply goes = access_left (ReadMsr msr) acts reply (λ r. refl) (λ n o no. no) goes
after_left (WriteMsr msr value) acts reply goes = access_left (WriteMsr msr value) acts reply (λ r. refl) (λ n o no. no) goes
after_left (ReadSlot sint) acts reply goes = access_left (ReadSlot sint) acts reply (λ r. refl) (λ n o no. no) goes
after_left (ClearSlot sint) acts reply goes = access_left (ClearSlot sint) acts reply (λ r. refl) (λ n o no. no) goes
after_left (ReadFlags sint) acts reply goes = access_left (ReadFlags sint) acts reply (λ r. refl) (λ n o no. no) goes
after_left (ClearFlag sint flag) acts reply goes = access_left (ClearFlag sint flag) acts reply (λ r. refl) (λ n o no. no) goes
after_left TakeInterrupt acts reply goes = access_left TakeInterrupt acts reply (λ r. refl) (λ n o no. no) goes

-- What an audit claims that has an event of a processor next.
pub record Claims (prefix rules : Bool) (k : Kept Global) (lines : Lines) (text : Bytes) (by : Caller) : Type 0 where
  pub kept : Kept Global
  pub run : IsRun kept
  pub config : kept.config ≡ k.config
  pub limit : kept.limit ≡ k.limit
  pub e : Entry Global
  pub es : Entries
  pub history : kept.history ≡ k.history ++ e ∷ es
  pub next : Lines
  pub is_next : IsNext lines e next
  pub left : Lines
  pub takes : Takes next es left
  pub over : IsOver prefix left
  pub rest : Bytes
  pub line : IsLine rules (length k.history + 1) e text rest
  pub told : AreLines prefix rules (length k.history + 1) es rest
  pub by_is : e.event.by ≡ by

-- what its processor is
named_next : (lines : Lines) (e : Entry Global) (next : Lines) → AreRead lines → IsNext lines e next → (e.event.by.part < 2 ^ 64) × (e.event.by.vp < 2 ^ 32)
named_next lines e next read is =
    let named : IsNamed is.line = All-head IsNamed is.line is.after (All-right IsNamed is.before (is.line ∷ is.after) (subst (All IsNamed) is.all read.named)) in
    let by : e.event.by ≡ is.line.by = ap (λ (event : Event Global). event.by) is.event in
    (subst (λ (c : Caller). c.part < 2 ^ 64) (sym by) named.0, subst (λ (c : Caller). c.vp < 2 ^ 32) (sym by) named.1)

module _ (prefix rules : Bool) (k : Kept Global) (lines : Lines) (text : Bytes) (read : AreRead lines) (few : length k.history < 2 ^ 32) (go_on : IsNoEnd text) where
  -- it claims an event, and the text names its processor
  pub claims_in : (by : Caller) → ((c : Caller) → IsNamedIn text c → c ≡ by) → IsLegalFrom prefix rules k lines text → Claims prefix rules k lines text by
  claims_in by reads is = with_more is.more is.history is.takes is.told
    where
      with_more : (more : Entries) → is.kept.history ≡ k.history ++ more → Takes lines more is.left → AreLines prefix rules (length k.history) more text → Claims prefix rules k lines text by
      with_more [] history takes told = absurd (go_on prefix (length k.history) told)
      with_more (e ∷ es) history takes told = record {
        kept = is.kept;
        run = is.run;
        config = is.config;
        limit = is.limit;
        e = e;
        es = es;
        history = history;
        next = takes.0;
        is_next = takes.1;
        left = is.left;
        takes = takes.2;
        over = is.over;
        rest = told.0;
        line = told.1;
        told = told.2;
        by_is =
            let fits = named_next lines e takes.0 read takes.1 in
            reads e.event.by (named_in (length k.history + 1) e rules text told.0 (omega (arith, few)) fits.0 fits.1 told.1);
      }

  -- nobody is named where nobody can be
  pub claims_none : ((c : Caller) → IsNamedIn text c → ⊥) → IsLegalFrom prefix rules k lines text → ⊥
  claims_none reads is =
      let claims = claims_in (record { part = 0; vp = 0 }) (λ c named. absurd (reads c named)) is in
      let fits = named_next lines claims.e claims.next read claims.is_next in
      reads claims.e.event.by (named_in (length k.history + 1) claims.e rules text claims.rest (omega (arith, few)) fits.0 fits.1 claims.line)

  -- the history has room for it
  pub claims_full : (by : Caller) → ((c : Caller) → IsNamedIn text c → c ≡ by) → length k.history ≡ k.limit → IsLegalFrom prefix rules k lines text → ⊥
  claims_full by reads full is =
      let claims = claims_in by reads is in
      let count = ap length claims.history in
      let within = claims.run.within in
      let limit = claims.limit in
      omega (arith, full, count, within, limit, length-append k.history (claims.e ∷ claims.es))

-- The schedule went on after the reply to an event.
pub record HasGoneOn (old new : Schedule) (e : Entry Global) : Type 0 where
  pub asked : first_of (left_by e.event.by old) ≡ Some e.event.what
  pub goes : GoesOn e.event.what e.reply
  pub own : left_by e.event.by new ≡ after_reply (left_by e.event.by old) e.reply
  pub others : (c : Caller) → c ≢ e.event.by → left_by c new ≡ left_by c old
  pub later : later_of new ≡ later_of old

-- The event was that of its processor's first line.
module _ (old new : Schedule) (e : Entry Global) (gone : HasGoneOn old new e) (lines : Lines) (stands : StandsFor old lines) where
  abbrev by : Caller
  by = e.event.by

  module _ (acts : Actions) (asked : left_by by old ≡ e.event.what ∷ acts) (some : FirstBy by stands.block) where
    abbrev lefts : Lines
    lefts = line_left some.line e.reply

    abbrev block : Lines
    block = some.before ++ (lefts ++ some.after)

    asked_is : e.event.what ∷ acts ≡ some.line.action ∷ asked_by by some.after
    asked_is =
        sym asked ∙ stands.asked by ∙ ap (asked_by by) some.all ∙ asked_by-append by some.before (some.line ∷ some.after)
        ∙ ap (λ (l : Actions). l ++ asked_by by (some.line ∷ some.after)) (asked_of_others by some.before some.first)
        ∙ asked_first by some.line some.after some.by_is

    action_is : e.event.what ≡ some.line.action
    action_is = let same = asked_is in cc

    event_is : e.event ≡ record { by = some.line.by; what = some.line.action }
    event_is = λ i. record { by = sym some.by_is i; what = action_is i }

    one_phase : All (λ l. l.phase ≡ stands.phase) (some.before ++ some.line ∷ some.after)
    one_phase = subst (All (λ l. l.phase ≡ stands.phase)) some.all stands.one

    line_phase : some.line.phase ≡ stands.phase
    line_phase = All-head (λ l. l.phase ≡ stands.phase) some.line some.after (All-right (λ l. l.phase ≡ stands.phase) some.before (some.line ∷ some.after) one_phase)

    before_phase : All (λ l. l.phase ≡ some.line.phase) some.before
    before_phase =
        All-weaker (λ (l : Line Global). l.phase ≡ stands.phase) (λ (l : Line Global). l.phase ≡ some.line.phase) (λ l same. same ∙ sym line_phase) some.before
        (All-left (λ l. l.phase ≡ stands.phase) some.before (some.line ∷ some.after) one_phase)

    before_others : All (λ l. l.by ≢ some.line.by) some.before
    before_others = All-weaker (λ (l : Line Global). l.by ≡ by → ⊥) (λ (l : Line Global). l.by ≢ some.line.by) (λ l other same. other (same ∙ some.by_is)) some.before some.first

    abbrev block_next : IsNext stands.block e block
    block_next = record {
      before = some.before;
      line = some.line;
      after = some.after;
      all = some.all;
      phase = before_phase;
      first = before_others;
      event = event_is;
      left_is = refl;
    }

    abbrev left : Lines
    left = block ++ later_of new

    lines_next : IsNext lines e left
    lines_next = record {
      before = some.before;
      line = some.line;
      after = some.after ++ later_of old;
      all = stands.all ∙ ap (λ (l : Lines). l ++ later_of old) some.all ∙ append_assoc some.before (some.line ∷ some.after) (later_of old);
      phase = before_phase;
      first = before_others;
      event = event_is;
      left_is =
          ap (λ (l : Lines). block ++ l) gone.later ∙ append_assoc some.before (lefts ++ some.after) (later_of old)
          ∙ ap (λ (l : Lines). some.before ++ l) (append_assoc lefts some.after (later_of old));
    }

    left_asked : (c : Caller) (t : Bool) → is_caller by c ≡ t → left_by c new ≡ asked_by c block
    left_asked c true is =
        let same : c ≡ by = same_caller by c is in
        let here_is : left_by by new ≡ asked_by some.line.by block =
        gone.own ∙ ap (λ (l : Actions). after_reply l e.reply) asked ∙ after_left e.event.what acts e.reply gone.goes
        ∙ (λ i. action_left (action_is i) e.reply ++ rest_is i)
        ∙ sym (here_left stands.block e block block_next) in
        subst (λ (d : Caller). left_by d new ≡ asked_by d block) (sym same) (subst (λ (d : Caller). left_by by new ≡ asked_by d block) some.by_is here_is)
      where
        rest_is : acts ≡ asked_by some.line.by some.after
        rest_is = let same = asked_is in let all : acts ≡ asked_by by some.after = cc in subst (λ (d : Caller). acts ≡ asked_by d some.after) (sym some.by_is) all
    left_asked c false is =
        let other : c ≢ by = λ same. false≢true (sym is ∙ is_itself by c same) in
        gone.others c other ∙ stands.asked c ∙ there stands.block e block block_next c (λ same. other (sym same ∙ some.by_is))

    left_stands : StandsFor new left
    left_stands =
        let P : Line Global → Type 0 = λ l. All (λ n. l.phase < n.phase) (later_of old) in
        let apart : All P (some.before ++ some.line ∷ some.after) = subst (All P) some.all stands.apart in
        let behind : All P (some.line ∷ some.after) = All-right P some.before (some.line ∷ some.after) apart in
        let acts = action_left some.line.action e.reply in
        record {
          block = block;
          all = refl;
          phase = stands.phase;
          one =
              All-append (λ l. l.phase ≡ stands.phase) some.before (lefts ++ some.after)
              (All-left (λ l. l.phase ≡ stands.phase) some.before (some.line ∷ some.after) one_phase)
              (
              All-append (λ l. l.phase ≡ stands.phase) lefts some.after (lefts_all (λ p. p ≡ stands.phase) some.line acts line_phase)
              (All-tail (λ l. l.phase ≡ stands.phase) some.line some.after (All-right (λ l. l.phase ≡ stands.phase) some.before (some.line ∷ some.after) one_phase))
              );
          apart =
              subst (AreApart block) (sym gone.later)
              (
              All-append P some.before (lefts ++ some.after) (All-left P some.before (some.line ∷ some.after) apart)
              (
              All-append P lefts some.after (lefts_all (λ p. All (λ n. p < n.phase) (later_of old)) some.line acts (All-head P some.line some.after behind))
              (All-tail P some.line some.after behind)
              )
              );
          asked = λ c. left_asked c (is_caller by c) refl;
          read = read_left lines e left lines_next stands.read;
        }

    taken_by : HasTaken lines e new
    taken_by = record { left = left; next = lines_next; stands = left_stands }

  first_by_it : (acts : Actions) → left_by by old ≡ e.event.what ∷ acts → FirstBy by stands.block
  first_by_it acts asked = elim (find_by by stands.block) [
    | inl none ↦ absurd (let same : e.event.what ∷ acts ≡ [] = sym asked ∙ stands.asked by ∙ none in cc)
    | inr some ↦ some
  ]

  -- so it is its next one, and the schedule stands for the lines that are left
  pub taken : HasTaken lines e new
  taken =
      let acts = first_some (left_by by old) e.event.what gone.asked in
      taken_by acts.0 acts.1 (first_by_it acts.0 acts.1)

pub one_more : (old new : Kept Global) (e : Entry Global) → new.history ≡ old.history ++ e ∷ [] → length new.history ≡ length old.history + 1
one_more old new e all = let n = ap length all in omega (arith, n, length-append old.history (e ∷ []))

-- An audit whose next event was taken.
module _ (rules : Bool) (old_kept new_kept : Kept Global) (new : Schedule) (lines : Lines) (text : Bytes) (e : Entry Global) (one : HasTaken lines e new)
    (gained : HasGained e.event e.reply old_kept new_kept) (run : IsRun new_kept)
    (claims_of : (prefix : Bool) → IsLegalFrom prefix rules old_kept lines text → Claims prefix rules old_kept lines text e.event.by) where
  count : length new_kept.history ≡ length old_kept.history + 1
  count = one_more old_kept new_kept e gained.history

  -- what one claims that has one more event
  module _ (prefix : Bool) (claims : Claims prefix rules old_kept lines text e.event.by) where
    claim_event : claims.e.event ≡ e.event
    claim_event = same_event lines claims.e e claims.next one.left claims.is_next one.next claims.by_is

    claim_reply : claims.e.reply ≡ e.reply
    claim_reply =
        one_reply claims.kept new_kept old_kept.history claims.e e claims.es claims.run run (claims.config ∙ sym gained.config) claims.history gained.history claim_event

    claim_entry : claims.e ≡ e
    claim_entry = λ i. record { event = claim_event i; reply = claim_reply i }

    claim_left : claims.next ≡ one.left
    claim_left = same_left lines claims.e e claims.next one.left claims.is_next one.next claims.by_is claim_reply

    claim_line : IsLine rules (length old_kept.history + 1) e text claims.rest
    claim_line = subst (λ (e : Entry Global). IsLine rules (length old_kept.history + 1) e text claims.rest) claim_entry claims.line

  module _ (rest : Bytes) (line : IsLine rules (length old_kept.history + 1) e text rest) where
    left_forth : (prefix : Bool) → IsLegalFrom prefix rules old_kept lines text → IsLegalFrom prefix rules new_kept one.left rest
    left_forth prefix is =
        let claims = claims_of prefix is in
        let rest_is : claims.rest ≡ rest = one_rest rules (length old_kept.history + 1) e text claims.rest rest (claim_line prefix claims) line in
        record {
          kept = claims.kept;
          run = claims.run;
          config = claims.config ∙ sym gained.config;
          limit = claims.limit ∙ sym gained.limit;
          more = claims.es;
          history =
              claims.history ∙ ap (λ (e : Entry Global). old_kept.history ++ e ∷ claims.es) (claim_entry prefix claims) ∙ sym (append_assoc old_kept.history (e ∷ []) claims.es)
              ∙ ap (λ (l : Entries). l ++ claims.es) (sym gained.history);
          left = claims.left;
          takes = subst (λ (l : Lines). Takes l claims.es claims.left) (claim_left prefix claims) claims.takes;
          over = claims.over;
          told = subst (λ (n : ℕ). AreLines prefix rules n claims.es rest) (sym count) (subst (AreLines prefix rules (length old_kept.history + 1) claims.es) rest_is claims.told);
        }

    left_back : (prefix : Bool) → IsLegalFrom prefix rules new_kept one.left rest → IsLegalFrom prefix rules old_kept lines text
    left_back prefix is = record {
      kept = is.kept;
      run = is.run;
      config = is.config ∙ gained.config;
      limit = is.limit ∙ gained.limit;
      more = e ∷ is.more;
      history = is.history ∙ ap (λ (l : Entries). l ++ is.more) gained.history ∙ append_assoc old_kept.history (e ∷ []) is.more;
      left = is.left;
      takes = (one.left, one.next, is.takes);
      over = is.over;
      told = (rest, line, subst (λ (n : ℕ). AreLines prefix rules n is.more rest) count is.told);
    }

  -- behind its line the rest of the audit is legal just where it was before it
  pub moved : (rest : Bytes) → IsLine rules (length old_kept.history + 1) e text rest → HasMoved rules old_kept new_kept new lines text rest
  unfolding left_back
  moved rest line = record { left = one.left; stands = one.stands; forth = left_forth rest line; back = left_back rest line; one = λ prefix is. refl }

  -- and no audit is legal where it differs
  pub differs : ((rest : Bytes) → IsLine rules (length old_kept.history + 1) e text rest → ⊥) → (prefix : Bool) → IsLegalFrom prefix rules old_kept lines text → ⊥
  differs none prefix is =
      let claims = claims_of prefix is in
      none claims.rest (claim_line prefix claims)

-- Where a processor has nothing left to do in the phase, no event of it is next.
module _ (old : Schedule) (lines : Lines) (stands : StandsFor old lines) (begun : IsBegun old) (by : Caller) (none : left_by by old ≡ []) (e : Entry Global) (next : Lines) (is : IsNext lines e next)
    (by_is : e.event.by ≡ by) where
  line_by : is.line.by ≡ by
  line_by = sym (ap (λ (event : Event Global). event.by) is.event) ∙ by_is

  within_none : (block rest : Lines) → lines ≡ block ++ later_of old → ((c : Caller) → left_by c old ≡ asked_by c block) → AreApart block (later_of old) → is.before ≡ block ++ rest → later_of old ≡
      rest ++ is.line ∷ is.after → ⊥
  within_none [] rest all asked apart front back = let none : later_of old ≡ [] = begun asked in nothing rest (sym none ∙ back)
    where
      nothing : (rest : Lines) → [] ≡ rest ++ is.line ∷ is.after → ⊥
      nothing [] same = cc
      nothing (x ∷ rest) same = cc
  within_none (b ∷ block) rest all asked apart front back =
      let first : All (λ n. b.phase < n.phase) (rest ++ is.line ∷ is.after) =
      subst (All (λ (n : Line Global). b.phase < n.phase)) back (All-head (λ (l : Line Global). All (λ n. l.phase < n.phase) (later_of old)) b block apart) in
      let less : b.phase < is.line.phase = All-head (λ (n : Line Global). b.phase < n.phase) is.line is.after (All-right (λ (n : Line Global). b.phase < n.phase) rest (is.line ∷ is.after) first) in
      let same : b.phase ≡ is.line.phase = All-head (λ (l : Line Global). l.phase ≡ is.line.phase) b (block ++ rest) (subst (All (λ (l : Line Global). l.phase ≡ is.line.phase)) front is.phase) in
      omega (arith, less, same)

  beyond_none : (one : Line Global) (rest : Lines) → stands.block ≡ is.before ++ one ∷ rest → is.line ∷ is.after ≡ one ∷ (rest ++ later_of old) → ⊥
  beyond_none one rest front back =
      let same : is.line ≡ one = cc in
      let own : one.by ≡ by = ap (λ (l : Line Global). l.by) (sym same) ∙ line_by in
      let asked : [] ≡ asked_by by is.before ++ (one.action ∷ asked_by by rest) =
      sym none ∙ stands.asked by ∙ ap (asked_by by) front ∙ asked_by-append by is.before (one ∷ rest) ∙ ap (λ (l : Actions). asked_by by is.before ++ l) (asked_first by one rest own) in
      nothing (asked_by by is.before) asked
    where
      nothing : (acts : Actions) → [] ≡ acts ++ (one.action ∷ asked_by by rest) → ⊥
      nothing [] same = cc
      nothing (x ∷ acts) same = cc

  pub none_next : ⊥
  none_next = elim (cuts stands.block (later_of old) is.before (is.line ∷ is.after) (sym stands.all ∙ is.all)) [
    | inl front ↦ within_none stands.block front.rest stands.all stands.asked stands.apart front.front front.back
    | inr front ↦ beyond_none front.one front.rest front.front front.back
  ]

pub idle : (prefix rules : Bool) (k : Kept Global) (old : Schedule) (lines : Lines) (text : Bytes) (by : Caller) → StandsFor old lines → IsBegun old → left_by by old ≡ [] → length k.history < 2 ^ 32 →
    IsNoEnd text
    → ((c : Caller) → IsNamedIn text c → c ≡ by) → IsLegalFrom prefix rules k lines text → ⊥
idle prefix rules k old lines text by stands begun none few go_on reads is =
    let claims = claims_in prefix rules k lines text stands.read few go_on by reads is in
    none_next old lines stands begun by none claims.e claims.next claims.is_next claims.by_is

-- Where all is done no line is left, and else one is.
pub all_over : (schedule : Schedule) (lines : Lines) → StandsFor schedule lines → IsIdle schedule → IsBegun schedule → lines ≡ []
all_over schedule lines stands idle begun =
    stands.all ∙ (λ i. none_asked stands.block (λ c. sym (stands.asked c) ∙ idle c) i ++ begun idle i)

pub not_over : (schedule : Schedule) (lines : Lines) (by : Caller) → StandsFor schedule lines → left_by by schedule ≢ [] → lines ≡ [] → ⊥
not_over schedule lines by stands some none = some (stands.asked by ∙ ap (asked_by by) (no_front stands.block (later_of schedule) (sym stands.all ∙ none)))
  where
    no_front : (xs ys : Lines) → xs ++ ys ≡ [] → xs ≡ []
    no_front [] ys is = refl
    no_front (x ∷ xs) ys is = absurd (cc)
