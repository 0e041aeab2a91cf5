-- The entries of an action, by what the history's calls say.
use Rattle.std.proofs.Common.{◌≡◌, ℕ, ◌+◌, ◌<◌, List, [], ◌∷◌, ◌++◌, length, refl, sym, ap, ◌∙◌, subst, arith, append-nil, length-append, inl, inr, Result, Err, ◌⊎◌, ◌↔◌, All, IsErrOf, Global}
use Rattle.std.proofs.Math.Nat.{eq-or-lt_of_le}
use Rattle.std.proofs.lemmas.List.Elements.{All-cons, All-nil, All-push}
use Rattle.hv_abi.specs.declared.frame.Frame.{Frame}
use Rattle.hv_history.proofs.Elements.{as_many, stopped}
use Rattle.hv_history.specs.Kept.{HasGained, IsRun, Kept}
use Rattle.hv_history.specs.Run.{AreElements, HasRun, HasStopped, IsMore, element, restart, start_of}
use Rattle.hv_history.specs.declared.entry.Entry.{Entry}
use Rattle.hv_history.specs.declared.kept.HostRefused.{HostRefused}
use Rattle.hv_history.specs.declared.kept.HostRefused.TheVariants.{HistoryFull}
use Rattle.hv_policy.specs.declared.event.Action.{Action}
use Rattle.hv_policy.specs.declared.event.Action.TheVariants.{Hypercall, ReadMsr, WriteMsr, ReadSlot, ClearSlot, ReadFlags, ClearFlag, TakeInterrupt}
use Rattle.hv_policy.specs.declared.event.Caller.{Caller}
use Rattle.hv_policy.specs.declared.event.Event.{Event}
use Rattle.hv_policy.specs.declared.reply.Reply.{Reply}
use Rattle.hv_policy.specs.declared.reply.Reply.TheVariants.{More}
use Rattle.hv_shared.specs.ByCaller.{receipts_by}
use Rattle.hv_shared.specs.declared.receipts.Receipt.{Receipt}
use Rattle.hv_threads.proofs.OwnReceipts.{IsBy, own_entries, own_first, receipts-append}
use Rattle.hv_threads.specs.Acted.{HasActed, WasStopped}
use Rattle.hv_threads.specs.Perform.{IsAccess, IsStopped, IsWhole}

-- the elements of a call are by its caller, and fewer than there are start indices
pub elements_by : (by : Caller) (frame : Frame Global) (es : List (Entry Global)) (now : Frame Global) → AreElements by frame es now → All (IsBy by) es
elements_by by frame [] now is = All-nil (IsBy by)
elements_by by frame (e ∷ es) now is =
    All-cons (IsBy by) e es (ap (λ (event : Event Global). event.by) is.0) (elements_by by (restart frame (start_of frame + 1)) es now is.2)

pub few_elements : (by : Caller) (frame : Frame Global) (es : List (Entry Global)) (now : Frame Global) → AreElements by frame es now → length es < 4096
few_elements by frame es now is = let many = as_many by frame es now is in omega arith

-- a part of a call
pub part_of : (by : Caller) (frame : Frame Global) (es : List (Entry Global)) (now : Frame Global) → AreElements by frame es now → (n : ℕ) → IsStopped by (Hypercall frame) (receipts_by by n es)
part_of by frame es now is n = record {
  now = now;
  elements = subst (λ (l : List (Entry Global)). AreElements by frame l now) (sym (own_entries by n es (elements_by by frame es now is))) is;
}

-- the host refused no element of a call
module _ (by : Caller) (frame : Frame Global) (reply : Reply) (events most : ℕ) (old new : Kept Global) (ran : HasRun by frame reply events most old new) (run : IsRun new) where
  abbrev last : Entry Global
  last = record { event = element by ran.last; reply = reply }

  before_by : All (IsBy by) ran.before
  before_by = elements_by by frame ran.before ran.last ran.elements

  whole_call : (IsMore reply → ⊥) → (n : ℕ) → IsWhole by (Hypercall frame) (receipts_by by n (ran.before ++ last ∷ []))
  whole_call ends n = record {
    last = ran.last;
    reply = reply;
    whole = record {
      before = receipts_by by n ran.before;
      number = n + length ran.before;
      elements = subst (λ (l : List (Entry Global)). AreElements by frame l ran.last) (sym (own_entries by n ran.before before_by)) ran.elements;
      all = receipts-append by n ran.before (last ∷ []) ∙ ap (λ (l : List Receipt). receipts_by by n ran.before ++ l) (own_first by (n + length ran.before) last [] refl);
      ends = ends;
    };
  }

  -- it came to its end
  came_to_end : (IsMore reply → ⊥) → HasActed by (Hypercall frame) most old new
  came_to_end ends = record {
    own = ran.before ++ last ∷ [];
    history = ran.history;
    by_it = All-push (IsBy by) ran.before last before_by refl;
    ended = inl (whole_call ends);
    within = let count = ran.count in let within = ran.within in omega (arith, length-append ran.before (last ∷ []));
    few = let less = few_elements by frame ran.before ran.last ran.elements in omega (arith, length-append ran.before (last ∷ []));
    config = ran.config;
    limit = ran.limit;
    run = run;
  }

  -- or it would go on
  would_go_on : (next : ℕ) (output : List ℕ) → reply ≡ More next output → (events ≡ most) ⊎ (events < most) → HasActed by (Hypercall frame) most old new
  would_go_on next output more (inl same) =
      let all : HasRun by frame reply events events old new = subst (λ (m : ℕ). HasRun by frame reply events m old new) (sym same) ran in
      let part = stopped by frame reply events old new all next output more (events + 1) new refl (omega arith) in
      let count = part.count in
      record {
        own = part.before;
        history = part.history;
        by_it = elements_by by frame part.before part.now part.elements;
        ended = inr (sym count ∙ same, part_of by frame part.before part.now part.elements);
        within = omega arith;
        few = let less = few_elements by frame part.before part.now part.elements in omega arith;
        config = part.config;
        limit = part.limit;
        run = run;
      }
  would_go_on next output more (inr fewer) = absurd (ran.ends fewer (subst IsMore (sym more) tt))

  by_reply : (r : Reply) → reply ≡ r → HasActed by (Hypercall frame) most old new
  by_reply (More next output) more = would_go_on next output more (eq-or-lt_of_le ran.within)
  by_reply other same = came_to_end (λ more. subst IsMore same more)

  pub driven : (what : Action Global) → what ≡ Hypercall frame → HasActed by what most old new
  driven what is = subst (λ (what : Action Global). HasActed by what most old new) (sym is) (by_reply reply refl)

-- the host refused an element
pub call_stopped : (by : Caller) (frame : Frame Global) (what : Action Global) (why : HostRefused) (events most : ℕ) (old new : Kept Global) → what ≡ Hypercall frame
    → HasStopped by frame events most old new → (why ≡ HistoryFull) ↔ (length new.history ≡ new.limit) → IsRun new → WasStopped by what most why old new
call_stopped by frame what why events most old new is stop full run =
    subst (λ (what : Action Global). WasStopped by what most why old new) (sym is)
    (record {
      own = stop.before;
      history = stop.history;
      by_it = elements_by by frame stop.before stop.now stop.elements;
      part = part_of by frame stop.before stop.now stop.elements;
      within = let count = stop.count in let within = stop.within in omega arith;
      full = full;
      config = stop.config;
      limit = stop.limit;
      run = run;
    })

-- one of the accesses
abbrev pub IsOneOf : Action Global → Type 0
IsOneOf what =
    ((msr : ℕ) × (what ≡ ReadMsr msr)) ⊎ (((msr : ℕ) × (value : ℕ) × (what ≡ WriteMsr msr value)) ⊎ (((sint : ℕ) × (what ≡ ReadSlot sint)) ⊎ (((sint : ℕ) × (what ≡ ClearSlot sint))
    ⊎ (((sint : ℕ) × (what ≡ ReadFlags sint)) ⊎ (((sint : ℕ) × (flag : ℕ) × (what ≡ ClearFlag sint flag)) ⊎ (what ≡ TakeInterrupt))))))

-- the receipt of an access is all of it
abbrev IsOneEvent : Caller → Action Global → Type 0
IsOneEvent by what = (list : List Receipt) → IsAccess by what list → IsWhole by what list

one_event : (by : Caller) (what : Action Global) → IsOneOf what → IsOneEvent by what
one_event by what (inl is) = subst (IsOneEvent by) (sym is.1) (λ list one. one)
one_event by what (inr (inl is)) = subst (IsOneEvent by) (sym is.2) (λ list one. one)
one_event by what (inr (inr (inl is))) = subst (IsOneEvent by) (sym is.1) (λ list one. one)
one_event by what (inr (inr (inr (inl is)))) = subst (IsOneEvent by) (sym is.1) (λ list one. one)
one_event by what (inr (inr (inr (inr (inl is))))) = subst (IsOneEvent by) (sym is.1) (λ list one. one)
one_event by what (inr (inr (inr (inr (inr (inl is)))))) = subst (IsOneEvent by) (sym is.2) (λ list one. one)
one_event by what (inr (inr (inr (inr (inr (inr is)))))) = subst (IsOneEvent by) (sym is) (λ list one. one)

-- nothing was done of an action
pub none_stopped : (by : Caller) (what : Action Global) → IsStopped by what []
none_stopped by (Hypercall frame) = record { now = frame; elements = refl }
none_stopped by (ReadMsr msr) = refl
none_stopped by (WriteMsr msr value) = refl
none_stopped by (ReadSlot sint) = refl
none_stopped by (ClearSlot sint) = refl
none_stopped by (ReadFlags sint) = refl
none_stopped by (ClearFlag sint flag) = refl
none_stopped by TakeInterrupt = refl

-- an access happened
pub accessed : (by : Caller) (what : Action Global) (reply : Reply) (most : ℕ) (old new : Kept Global) → 0 < most → IsOneOf what → HasGained (record { by = by; what = what }) reply old new → IsRun new
    → HasActed by what most old new
accessed by what reply most old new some access gained run =
    let entry : Entry Global = record { event = record { by = by; what = what }; reply = reply } in
    record {
      own = entry ∷ [];
      history = gained.history;
      by_it = All-cons (IsBy by) entry [] refl (All-nil (IsBy by));
      ended = inl (λ n. one_event by what access (receipts_by by n (entry ∷ [])) (record { number = n; reply = reply; all = own_first by n entry [] refl }));
      within = some;
      few = omega arith;
      config = gained.config;
      limit = gained.limit;
      run = run;
    }

-- or the host refused it
pub access_stopped : (by : Caller) (what : Action Global) (why : HostRefused) (most : ℕ) (old new : Kept Global) → 0 < most → new ≡ old
    → (why ≡ HistoryFull) ↔ (length new.history ≡ new.limit) → IsRun new → WasStopped by what most why old new
access_stopped by what why most old new some same full run = record {
  own = [];
  history = ap (λ (k : Kept Global). k.history) same ∙ sym (append-nil old.history);
  by_it = All-nil (IsBy by);
  part = λ n. none_stopped by what;
  within = some;
  full = full;
  config = ap (λ (k : Kept Global). k.config) same;
  limit = ap (λ (k : Kept Global). k.limit) same;
  run = run;
}

same_err : {T : Type 0} (a b : HostRefused) → ◌≡◌ {A = Result T HostRefused} (Err a) (Err b) → a ≡ b
same_err a b same = cc

-- the error of a result
pub err_is : {T : Type 0} (why : HostRefused) (P : Type 0) → (IsErrOf {T = T} (Err why) HistoryFull ↔ P) → (why ≡ HistoryFull) ↔ P
err_is {T} why P both =
    let as_result : HostRefused → Result T HostRefused = λ e. Err e in
    (λ same. both.0 (ap as_result same), λ holds. same_err {T = T} why HistoryFull (both.1 holds))
