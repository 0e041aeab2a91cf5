-- What one processor's entries leave of its actions.
use Rattle.std.proofs.Common.{◌≡◌, ℕ, ◌+◌, List, [], ◌∷◌, ◌++◌, refl, sym, ap, ◌∙◌, subst, Bool, true, false, map, if◌then◌else◌, Global}
use Rattle.hv_abi.specs.declared.frame.Frame.{Frame}
use Rattle.hv_history.specs.Run.{GoesOnAt, IsMore, element, restart, start_of}
use Rattle.hv_history.specs.declared.entry.Entry.{Entry}
use Rattle.hv_policy.specs.declared.event.Action.{Action}
use Rattle.hv_policy.specs.declared.event.Action.TheVariants.{Hypercall, ReadMsr, WriteMsr, ReadSlot, ClearSlot, ReadFlags, ClearFlag, TakeInterrupt}
use Rattle.hv_policy.specs.declared.event.Caller.{Caller}
use Rattle.hv_policy.specs.declared.reply.Reply.{Reply}
use Rattle.hv_policy.specs.declared.reply.Reply.TheVariants.{Served, More, Denied, Fault}
use Rattle.hv_shared.specs.ByCaller.{is_caller, receipts_by}
use Rattle.hv_shared.specs.Drive.{AreElements, entry_in}
use Rattle.hv_shared.specs.Pass.{receipt}
use Rattle.hv_shared.specs.declared.receipts.Receipt.{Receipt}
use Rattle.hv_threads.specs.Perform.{AreWhole, IsAccess, IsCall, IsWhole}
use Rattle.hv_check.specs.Takes.{action_left, call_left}
use Rattle.hv_phases.proofs.AskedOfProcessor.{Actions}

abbrev pub Entries : Type 0
Entries = List (Entry Global)

-- a call's reply says that it continues with the element after its own, if it continues
abbrev pub IsInTurn : Action Global → Reply → Type 0
IsInTurn (Hypercall frame) reply = IsMore reply → GoesOnAt (start_of frame + 1) reply
IsInTurn (ReadMsr msr) reply = Unit {0}
IsInTurn (WriteMsr msr value) reply = Unit {0}
IsInTurn (ReadSlot sint) reply = Unit {0}
IsInTurn (ClearSlot sint) reply = Unit {0}
IsInTurn (ReadFlags sint) reply = Unit {0}
IsInTurn (ClearFlag sint flag) reply = Unit {0}
IsInTurn TakeInterrupt reply = Unit {0}

-- the entries are of a processor's actions in order, and are all of them
abbrev pub AreAll : Caller → Actions → Entries → Type 0
AreAll by [] [] = Unit {0}
AreAll by (a ∷ acts) [] = ⊥
AreAll by [] (e ∷ es) = ⊥
AreAll by (a ∷ acts) (e ∷ es) = (e.event ≡ record { by = by; what = a }) × IsInTurn a e.reply × AreAll by (action_left a e.reply ++ acts) es

-- a call that doesn't continue leaves nothing, and one that continues its next element
not_more : (frame : Frame Global) (reply : Reply) → (IsMore reply → ⊥) → call_left frame reply ≡ []
not_more frame (Served output) ends = refl
not_more frame (More next output) ends = absurd (ends tt)
not_more frame (Denied rule status reps) ends = refl
not_more frame (Fault rule) ends = refl

more_left : (frame : Frame Global) (n : ℕ) (reply : Reply) → GoesOnAt n reply → call_left frame reply ≡ Hypercall (restart frame (start_of frame + 1)) ∷ []
more_left frame n (Served output) goes = absurd goes
more_left frame n (More next output) goes = refl
more_left frame n (Denied rule status reps) goes = absurd goes
more_left frame n (Fault rule) goes = absurd goes

-- what is left of an action is done next
module _ (by : Caller) (acts : Actions) (rest : List Receipt) (all : AreAll by acts (map entry_in rest)) where
  access_all : (a : Action Global) (own : List Receipt) → IsAccess by a own → ((r : Reply) → action_left a r ≡ []) → ((r : Reply) → IsInTurn a r) → AreAll by (a ∷ acts) (map entry_in (own ++ rest))
  access_all a own is none turn =
      subst (λ (l : List Receipt). AreAll by (a ∷ acts) (map entry_in (l ++ rest))) (sym is.all)
      (refl, turn is.reply, subst (λ (l : Actions). AreAll by (l ++ acts) (map entry_in rest)) (sym (none is.reply)) all)

  elements_all : (frame : Frame Global) (before : List Receipt) (last : Frame Global) (number : ℕ) (reply : Reply) → AreElements by frame before last → (IsMore reply → ⊥)
      → AreAll by (Hypercall frame ∷ acts) (map entry_in ((before ++ receipt number (element by last) reply ∷ []) ++ rest))
  elements_all frame [] last number reply is ends =
      (ap (element by) is, λ (more : IsMore reply). absurd (ends more), subst (λ (l : Actions). AreAll by (l ++ acts) (map entry_in rest)) (sym (not_more frame reply ends)) all)
  elements_all frame (r ∷ rs) last number reply is ends = (
    is.0,
    λ (more : IsMore r.reply). is.1,
    subst (λ (l : Actions). AreAll by (l ++ acts) (map entry_in ((rs ++ receipt number (element by last) reply ∷ []) ++ rest))) (sym (more_left frame (start_of frame + 1) r.reply is.1))
        (elements_all (restart frame (start_of frame + 1)) rs last number reply is.2 ends),
  )

  call_all : (frame : Frame Global) (own : List Receipt) → IsCall by frame own → AreAll by (Hypercall frame ∷ acts) (map entry_in (own ++ rest))
  call_all frame own is =
      subst (λ (l : List Receipt). AreAll by (Hypercall frame ∷ acts) (map entry_in (l ++ rest))) (sym is.whole.all)
      (elements_all frame is.whole.before is.last is.whole.number is.reply is.whole.elements is.whole.ends)

  action_all : (a : Action Global) (own : List Receipt) → IsWhole by a own → AreAll by (a ∷ acts) (map entry_in (own ++ rest))
  action_all (Hypercall frame) own is = call_all frame own is
  action_all (ReadMsr msr) own is = access_all (ReadMsr msr) own is (λ r. refl) (λ r. tt)
  action_all (WriteMsr msr value) own is = access_all (WriteMsr msr value) own is (λ r. refl) (λ r. tt)
  action_all (ReadSlot sint) own is = access_all (ReadSlot sint) own is (λ r. refl) (λ r. tt)
  action_all (ClearSlot sint) own is = access_all (ClearSlot sint) own is (λ r. refl) (λ r. tt)
  action_all (ReadFlags sint) own is = access_all (ReadFlags sint) own is (λ r. refl) (λ r. tt)
  action_all (ClearFlag sint flag) own is = access_all (ClearFlag sint flag) own is (λ r. refl) (λ r. tt)
  action_all TakeInterrupt own is = access_all TakeInterrupt own is (λ r. refl) (λ r. tt)

-- receipts of whole actions are of all of them
pub all_of : (by : Caller) (acts : Actions) (list : List Receipt) → AreWhole by acts list → AreAll by acts (map entry_in list)
all_of by [] list none = subst (λ (l : List Receipt). AreAll by [] (map entry_in l)) (sym none) tt
all_of by (a ∷ acts) list some =
    subst (λ (l : List Receipt). AreAll by (a ∷ acts) (map entry_in l)) (sym some.2) (action_all by acts some.1 (all_of by acts some.1 some.4) a some.0 some.3)

-- and the other way round
module _ (by : Caller) (r : Receipt) (rs : List Receipt) where
  access_whole : (a : Action Global) → r.event ≡ record { by = by; what = a } → IsAccess by a (r ∷ [])
  access_whole a is = record { number = r.number; reply = r.reply; all = λ i. receipt r.number (is i) r.reply ∷ [] }

  one_element : (frame : Frame Global) → r.event ≡ element by frame → (IsMore r.reply → ⊥) → IsCall by frame (r ∷ [])
  one_element frame is ends = record {
    last = frame;
    reply = r.reply;
    whole = record { before = []; number = r.number; elements = refl; all = λ i. receipt r.number (is i) r.reply ∷ []; ends = ends };
  }

  more_elements : (frame : Frame Global) (own : List Receipt) → r.event ≡ element by frame → GoesOnAt (start_of frame + 1) r.reply → IsCall by (restart frame (start_of frame + 1)) own
      → IsCall by frame (r ∷ own)
  more_elements frame own is goes call = record {
    last = call.last;
    reply = call.reply;
    whole = record {
      before = r ∷ call.whole.before;
      number = call.whole.number;
      elements = (is, goes, call.whole.elements);
      all = ap (λ (l : List Receipt). r ∷ l) call.whole.all;
      ends = call.whole.ends;
    };
  }

  call_whole : (frame : Frame Global) (acts : Actions) (reply : Reply) → r.reply ≡ reply → r.event ≡ element by frame → (IsMore reply → GoesOnAt (start_of frame + 1) reply)
      → ((left : Actions) → AreAll by left (map entry_in rs) → AreWhole by left rs) → AreAll by (call_left frame reply ++ acts) (map entry_in rs) → AreWhole by (Hypercall frame ∷ acts) (r ∷ rs)
  call_whole frame acts (Served output) same is turn go_on all =
      (r ∷ [], rs, refl, one_element frame is (subst (λ (v : Reply). IsMore v → ⊥) (sym same) (λ no. no)), go_on acts all)
  call_whole frame acts (More next output) same is turn go_on all =
      let w = go_on (Hypercall (restart frame (start_of frame + 1)) ∷ acts) all in (
        r ∷ w.0,
        w.1,
        ap (λ (l : List Receipt). r ∷ l) w.2,
        more_elements frame w.0 is (subst (GoesOnAt (start_of frame + 1)) (sym same) (turn tt)) w.3,
        w.4,
      )
  call_whole frame acts (Denied rule status reps) same is turn go_on all =
      (r ∷ [], rs, refl, one_element frame is (subst (λ (v : Reply). IsMore v → ⊥) (sym same) (λ no. no)), go_on acts all)
  call_whole frame acts (Fault rule) same is turn go_on all =
      (r ∷ [], rs, refl, one_element frame is (subst (λ (v : Reply). IsMore v → ⊥) (sym same) (λ no. no)), go_on acts all)

pub whole_of : (by : Caller) (acts : Actions) (list : List Receipt) → AreAll by acts (map entry_in list) → AreWhole by acts list
whole_of by [] [] all = refl
whole_of by (a ∷ acts) [] all = absurd all
whole_of by [] (r ∷ rs) all = absurd all
whole_of by (Hypercall frame ∷ acts) (r ∷ rs) all = call_whole by r rs frame acts r.reply refl all.0 all.1 (λ left. whole_of by left rs) all.2
whole_of by (ReadMsr msr ∷ acts) (r ∷ rs) all = (r ∷ [], rs, refl, access_whole by r rs (ReadMsr msr) all.0, whole_of by acts rs all.2)
whole_of by (WriteMsr msr value ∷ acts) (r ∷ rs) all = (r ∷ [], rs, refl, access_whole by r rs (WriteMsr msr value) all.0, whole_of by acts rs all.2)
whole_of by (ReadSlot sint ∷ acts) (r ∷ rs) all = (r ∷ [], rs, refl, access_whole by r rs (ReadSlot sint) all.0, whole_of by acts rs all.2)
whole_of by (ClearSlot sint ∷ acts) (r ∷ rs) all = (r ∷ [], rs, refl, access_whole by r rs (ClearSlot sint) all.0, whole_of by acts rs all.2)
whole_of by (ReadFlags sint ∷ acts) (r ∷ rs) all = (r ∷ [], rs, refl, access_whole by r rs (ReadFlags sint) all.0, whole_of by acts rs all.2)
whole_of by (ClearFlag sint flag ∷ acts) (r ∷ rs) all = (r ∷ [], rs, refl, access_whole by r rs (ClearFlag sint flag) all.0, whole_of by acts rs all.2)
whole_of by (TakeInterrupt ∷ acts) (r ∷ rs) all = (r ∷ [], rs, refl, access_whole by r rs TakeInterrupt all.0, whole_of by acts rs all.2)

-- a caller's entries, in order
abbrev pub own_of : Caller → Entries → Entries
own_of by [] = []
own_of by (e ∷ es) = if is_caller by e.event.by then e ∷ own_of by es else own_of by es

entries_if : (b : Bool) (r : Receipt) (rs : List Receipt) → map entry_in (if b then r ∷ rs else rs) ≡ (if b then entry_in r ∷ map entry_in rs else map entry_in rs)
entries_if true r rs = refl
entries_if false r rs = refl

-- which are those of its receipts, whatever their numbers
pub own_entries : (by : Caller) (n : ℕ) (es : Entries) → map entry_in (receipts_by by n es) ≡ own_of by es
own_entries by n [] = refl
own_entries by n (e ∷ es) =
    entries_if (is_caller by e.event.by) (receipt n e.event e.reply) (receipts_by by (n + 1) es)
    ∙ ap (λ (l : Entries). if is_caller by e.event.by then e ∷ l else l) (own_entries by (n + 1) es)
