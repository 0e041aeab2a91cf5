-- Copies of the events of a call are enough: a call continues only below its count.
use Rattle.std.proofs.Common.{◌≡◌, ℕ, ◌+◌, ◌-◌, ◌<◌, ◌≤◌, ◌&&◌, ◌||◌, min, max, Bool, true, false, cond, not, if◌then◌else◌, nat_le, Option, None, Some, List, [], ◌∷◌, ◌++◌, length, get_or, refl, sym}
use Rattle.std.proofs.Common.{ap, subst, ◌∙◌, arith, leb-false, Global}
use Rattle.std.proofs.lemmas.Bool.{and_from, or_parts}
use Rattle.std.proofs.lemmas.Bool.Decides.{nat_tests}
use Rattle.hv_abi.specs.CallRow.{row_of}
use Rattle.hv_abi.specs.Check.{are_reps_valid, call_of, is_fast, is_input_valid}
use Rattle.hv_abi.specs.InputValue.{is_reserved_zero}
use Rattle.hv_abi.specs.declared.call_kind.CallKind.{CallKind}
use Rattle.hv_abi.specs.declared.frame.Frame.{Frame}
use Rattle.hv_abi.specs.declared.status.Status.{Status}
use Rattle.hv_defs.specs.Bits.{bits}
use Rattle.hv_history.proofs.Elements.{start_restart}
use Rattle.hv_history.specs.Row.{events_of, replies_of}
use Rattle.hv_history.specs.Run.{AreElements, GoesOnAt, element, restart, start_of}
use Rattle.hv_history.specs.declared.entry.Entry.{Entry}
use Rattle.hv_policy.proofs.Unmet.{all_met}
use Rattle.hv_policy.specs.Answer.{is_done, output_of}
use Rattle.hv_policy.specs.Call.{called}
use Rattle.hv_policy.specs.Flat.{Flat}
use Rattle.hv_policy.specs.Rule.{rule_status}
use Rattle.hv_policy.specs.Rules.{AreMet, asks, hypercall_asks, unmet}
use Rattle.hv_policy.specs.Step.{denied_with, run_from, step, step_by}
use Rattle.hv_policy.specs.declared.event.Caller.{Caller}
use Rattle.hv_policy.specs.declared.event.Event.{Event}
use Rattle.hv_policy.specs.declared.reply.Reply.TheVariants.{Served, More}
use Rattle.hv_policy.specs.declared.rule.Rule.{Rule}
use Rattle.hv_shared.specs.Copies.{AreAsking, AreCopies, elements_in, elements_of}

-- a rep call has an element after the one at the frame's start index
record HasMore (frame : Frame Global) (kind : CallKind) : Type 0 where
  named : call_of frame ≡ Some kind
  takes : ((row_of kind).rep && is_input_valid (row_of kind) frame.rcx) ≡ true
  more : bits frame.rcx 48 12 + 1 < bits frame.rcx 32 12

module _ (f : Flat) (by : Caller) (frame : Frame Global) where
  is_rep : (b : Bool) → not b ≡ false → b ≡ true
  is_rep true e = refl
  is_rep false e = cc

  -- a call that continues is a rep call with an element left
  served : (n : ℕ) (named : Option CallKind) → call_of frame ≡ named → AreMet (hypercall_asks f by.part frame named) → (b : Bool) → is_done frame named ≡ b → (next : ℕ) (bytes : List ℕ)
      → GoesOnAt n (cond b (Served bytes) (More next bytes)) → (kind : CallKind) × HasMore frame kind
  served n None is met b done next bytes goes = absurd cc
  served n (Some kind) is met true done next bytes goes = absurd goes
  served n (Some kind) is met false done next bytes goes =
      let parts = or_parts (not (row_of kind).rep) (nat_le (bits frame.rcx 32 12) (bits frame.rcx 48 12 + 1)) done in
      let takes = and_from (row_of kind).rep (is_input_valid (row_of kind) frame.rcx) (is_rep (row_of kind).rep parts.0) met.1.0 in
      (kind, record { named = is; takes = takes; more = leb-false (bits frame.rcx 32 12) (bits frame.rcx 48 12 + 1) parts.1 })

  denied : (n : ℕ) (rule : Rule) (status : Option Status) → GoesOnAt n (denied_with frame rule status) → ⊥
  denied n rule None goes = goes
  denied n rule (Some status) goes = goes

  has_more : (n : ℕ) (rule : Option Rule) → unmet f (element by frame) ≡ rule → GoesOnAt n (step_by f (element by frame) rule).1 → (kind : CallKind) × HasMore frame kind
  has_more n None is goes =
      served n (call_of frame) refl (all_met (asks f (element by frame)) is).1.1.1 (is_done frame (call_of frame)) refl (bits frame.rcx 48 12 + 1) (output_of f by.part (called frame)) goes
  has_more n (Some rule) is goes = absurd (denied n rule (rule_status rule (call_of frame)) goes)

first : {X : Type 0} (x y : X) (xs ys : List X) → x ∷ xs ≡ y ∷ ys → x ≡ y
first x y xs ys same = cc

rest_of : {X : Type 0} (x y : X) (xs ys : List X) → x ∷ xs ≡ y ∷ ys → xs ≡ ys
rest_of x y xs ys same = cc

-- the later entries of a run are one themselves
pub later : (f : Flat) (old es : List (Entry Global)) → replies_of (old ++ es) ≡ (run_from f (events_of (old ++ es))).1 → (g : Flat) × (replies_of es ≡ (run_from g (events_of es)).1)
later f [] es same = (f, same)
later f (e ∷ old) es same = later (step f e.event).0 old es (rest_of _ _ _ _ same)

-- and so are the earlier ones
pub sooner : (f : Flat) (es : List (Entry Global)) (last : Entry Global) → replies_of (es ++ last ∷ []) ≡ (run_from f (events_of (es ++ last ∷ []))).1 → replies_of es ≡ (run_from f (events_of es)).1
sooner f [] last same = refl
sooner f (e ∷ es) last same =
    let here : e.reply ≡ (step f e.event).1 = first _ _ _ _ same in
    let rest = sooner (step f e.event).0 es last (rest_of _ _ _ _ same) in
    λ i. here i ∷ rest i

-- there is one at least, and no more than there may be
some_of : (named : Option CallKind) (rcx most : ℕ) → 0 < most → 0 < elements_of named rcx most
some_of None rcx most some = omega arith
some_of (Some kind) rcx most some = counted (row_of kind).rep (is_reserved_zero rcx && (not (is_fast rcx) || (row_of kind).fast)) (bits rcx 32 12) (bits rcx 48 12)
  where
    counted : (rep a : Bool) (reps start : ℕ) → 0 < (if rep && (a && are_reps_valid rep reps start) then min (reps - start) most else 1)
    counted true true reps start = grind (arith, nat_tests)
    counted true false reps start = omega arith
    counted false a reps start = omega arith

pub few_of : (named : Option CallKind) (rcx most : ℕ) → elements_of named rcx most ≤ max 1 (min (bits rcx 32 12 - bits rcx 48 12) most)
few_of None rcx most = omega arith
few_of (Some kind) rcx most = by ((row_of kind).rep && is_input_valid (row_of kind) rcx)
  where
    by : (b : Bool) → (if b then min (bits rcx 32 12 - bits rcx 48 12) most else 1) ≤ max 1 (min (bits rcx 32 12 - bits rcx 48 12) most)
    by true = omega arith
    by false = omega arith

-- fewer of them, where fewer are asked for
pub capped : (named : Option CallKind) (rcx most fewer : ℕ) → 1 ≤ fewer → fewer ≤ most → elements_of named rcx fewer ≡ min (elements_of named rcx most) fewer
capped None rcx most fewer some less = omega arith
capped (Some kind) rcx most fewer some less = by ((row_of kind).rep && is_input_valid (row_of kind) rcx)
  where
    by : (b : Bool) → (if b then min (bits rcx 32 12 - bits rcx 48 12) fewer else 1) ≡ min (if b then min (bits rcx 32 12 - bits rcx 48 12) most else 1) fewer
    by true = omega arith
    by false = omega arith

-- so that there are copies of all that happen
pub enough_in : (f : Flat) (by : Caller) (frame : Frame Global) (es : List (Entry Global)) (now : Frame Global) (most : ℕ) → AreElements by frame es now → replies_of es ≡ (run_from f (events_of es)).1
    → length es < most → length es < elements_in frame.rcx most
enough_in f by frame [] now most is run fewer = some_of (call_of frame) frame.rcx most fewer
enough_in f by frame (e ∷ es) now most is run fewer =
    let goes = subst (GoesOnAt (start_of frame + 1)) (first _ _ _ _ run ∙ ap (λ (x : Event Global). (step f x).1) is.0) is.1 in
    let here = has_more f by frame (start_of frame + 1) (unmet f (element by frame)) refl goes in
    let next = restart frame (start_of frame + 1) in
    let rest = enough_in (step f e.event).0 by next es now (most - 1) is.2 (rest_of _ _ _ _ run) (omega arith) in
    let few = few_of (call_of next) next.rcx (most - 1) in
    let more = here.1.more in
    let start : start_of next ≡ start_of frame + 1 = start_restart frame (start_of frame + 1) (omega arith) in
    let reps : bits next.rcx 32 12 ≡ bits frame.rcx 32 12 = omega arith in
    rw (here.1.named, here.1.takes) (omega arith)

pub enough : (f : Flat) (by : Caller) (frame : Frame Global) (es : List (Entry Global)) (now : Frame Global) (most : ℕ) (copies : List (Event Global)) → AreCopies by frame most copies
    → AreElements by frame es now → replies_of es ≡ (run_from f (events_of es)).1 → length es < most → length es < length copies
enough f by frame es now most copies are is run fewer = subst (λ (n : ℕ). length es < n) (sym are.count) (enough_in f by frame es now most is run fewer)

-- there is one at least, and the first is of the frame
pub some_copies : (by : Caller) (frame : Frame Global) (most : ℕ) (copies : List (Event Global)) → AreCopies by frame most copies → 0 < most → 0 < length copies
some_copies by frame most copies are more = let count = are.count in let some = some_of (call_of frame) frame.rcx most more in omega arith

pub first_copy : (by : Caller) (frame : Frame Global) (copies : List (Event Global)) (c : Event Global) → AreAsking by frame copies → 0 < length copies → c ≡ get_or copies 0 c → c ≡ element by frame
first_copy by frame [] c are some is = absurd (omega arith)
first_copy by frame (x ∷ copies) c are some is = is ∙ are.0

-- one more
pub asking_more : (by : Caller) (frame : Frame Global) (es : List (Event Global)) (n : ℕ) → AreAsking by frame es → n ≡ start_of frame + length es → n < 4096 → AreAsking by frame
    (es ++ element by (restart frame n) ∷ [])
asking_more by frame [] n are is less = (ap (element by) (same frame n (is ∙ omega arith)), tt)
  where
    same : (frame : Frame Global) (n : ℕ) → n ≡ start_of frame → restart frame n ≡ frame
    same frame n is =
        let rcx : (restart frame n).rcx ≡ frame.rcx = omega arith in
        λ i. record frame { rcx = rcx i }
asking_more by frame (e ∷ es) n are is less =
    let start : start_of (restart frame (start_of frame + 1)) ≡ start_of frame + 1 = start_restart frame (start_of frame + 1) (omega arith) in
    let rest = asking_more by (restart frame (start_of frame + 1)) es n are.1 (omega arith) less in
    let rcx : (restart (restart frame (start_of frame + 1)) n).rcx ≡ (restart frame n).rcx = omega arith in
    (are.0, subst (λ (f : Frame Global). AreAsking by (restart frame (start_of frame + 1)) (es ++ element by f ∷ [])) (λ i. record frame { rcx = rcx i }) rest)
