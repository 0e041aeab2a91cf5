-- A call that continues by one element.
use Rattle.std.proofs.Common.{◌≡◌, ℕ, ◌+◌, ◌-◌, ◌<◌, List, [], ◌∷◌, ◌++◌, Some, length, get_or, refl, sym, subst, ap, ◌∙◌, arith, append_assoc, length-append, get_or-append-add, slice_get}
use Rattle.std.proofs.lemmas.Option.{slice_get_read}
use Rattle.hv_abi.specs.declared.frame.Frame.{Frame}
use Rattle.hv_defs.specs.declared.sizes.TheConstants.{REPS_END}
use Rattle.hv_policy.specs.Next.{GoesOn}
use Rattle.hv_policy.specs.declared.event.Action.TheVariants.{Hypercall}
use Rattle.hv_policy.specs.declared.event.Caller.{Caller}
use Rattle.hv_policy.specs.declared.reply.Reply.{Reply}
use Rattle.hv_policy.specs.declared.reply.Reply.TheVariants.{More}
use Rattle.hv_history.specs.Kept.{IsTaken, Kept}
use Rattle.hv_history.specs.Run.{AreElements, GoesOnAt, HasRun, HasStopped, element, restart, start_of}
use Rattle.hv_history.specs.declared.entry.Entry.{Entry}

has_index_at : (n : ℕ) (reply : Reply) → GoesOnAt n reply → n < REPS_END
has_index_at n (More next output) is = is.1
has_index_at n reply is = absurd is

module _ {A : Type 0} where
  -- a start index that is written is read
  pub start_restart : (frame : Frame A) (n : ℕ) → n < REPS_END → start_of (restart frame n) ≡ n
  start_restart frame n less = omega arith

  -- the start index grows by one an element
  pub as_many : (by : Caller) (frame : Frame A) (es : List (Entry A)) (now : Frame A) → AreElements by frame es now → length es + start_of frame ≡ start_of now
  as_many by frame [] now is = let same = ap start_of is in omega arith
  as_many by frame (e ∷ es) now is =
      let rest = as_many by (restart frame (start_of frame + 1)) es now is.2 in
      let here = start_restart frame (start_of frame + 1) (has_index_at (start_of frame + 1) e.reply is.1) in
      omega arith

  -- one element more
  elements-push : (by : Caller) (frame : Frame A) (es : List (Entry A)) (now : Frame A) (reply : Reply) → AreElements by frame es now → GoesOnAt (start_of now + 1) reply
      → AreElements by frame (es ++ record { event = element by now; reply = reply } ∷ []) (restart now (start_of now + 1))
  elements-push by frame [] now reply is goes =
      (ap (element by) is, subst (λ (f : Frame A). GoesOnAt (start_of f + 1) reply) is goes, ap (λ (f : Frame A). restart f (start_of f + 1)) is)
  elements-push by frame (e ∷ es) now reply is goes =
      (is.0, is.1, elements-push by (restart frame (start_of frame + 1)) es now reply is.2 goes)

  -- the first element
  pub begun : (by : Caller) (frame : Frame A) (reply : Reply) (old new : Kept A) → IsTaken (element by frame) reply old new → HasRun by frame reply 1 1 old new
  begun by frame reply old new taken =
      record {
        before = [];
        last = frame;
        elements = refl;
        history = taken.gained.history;
        config = taken.gained.config;
        limit = taken.gained.limit;
        count = refl;
        within = omega arith;
        ends = λ less. absurd (omega arith);
        asked = taken.asked;
        result = taken.result frame refl;
        next = taken.next;
      }

  module _ (by : Caller) (frame : Frame A) (reply : Reply) (events : ℕ) (old now : Kept A) (is : HasRun by frame reply events events old now) where
    abbrev last : Entry A
    last = record { event = element by is.last; reply = reply }

    -- the last entry is the element's
    pub ends_in : slice_get now.history (length now.history - 1) ≡ Some last
    ends_in =
        let xs = old.history ++ is.before in
        let all : now.history ≡ xs ++ last ∷ [] = is.history ∙ sym (append_assoc old.history is.before (last ∷ [])) in
        let count = ap length all in
        let place : length now.history - 1 ≡ length xs + 0 = omega (arith, length-append xs (last ∷ [])) in
        slice_get_read now.history (length now.history) (length now.history - 1) last refl (omega (arith, length-append xs (last ∷ [])))
        (sym ((λ i. get_or (all i) (place i) last) ∙ get_or-append-add xs (last ∷ []) 0 last))

    -- the call continues
    module _ (next : ℕ) (output : List ℕ) (more : reply ≡ More next output) where
      goes : (next ≡ start_of is.last + 1) × (next < REPS_END)
      goes = subst (GoesOn (Hypercall is.last)) more is.next

      goes_at : GoesOnAt (start_of is.last + 1) reply
      goes_at = subst (GoesOnAt (start_of is.last + 1)) (sym more) (goes.0, (let less = goes.1 in let same = goes.0 in omega arith))

      -- with an element that has not happened
      paused : (most : ℕ) → events < most → HasStopped by frame events most old now
      paused most fewer = record {
        before = is.before ++ last ∷ [];
        now = restart is.last (start_of is.last + 1);
        elements = elements-push by frame is.before is.last reply is.elements goes_at;
        history = is.history;
        config = is.config;
        limit = is.limit;
        count = let c = is.count in omega (arith, length-append is.before (last ∷ []));
        within = fewer;
      }

      -- which the host refuses
      pub stopped : (most : ℕ) (new : Kept A) → new ≡ now → events < most → HasStopped by frame events most old new
      stopped most new same fewer = subst (HasStopped by frame events most old) (sym same) (paused most fewer)

      -- or which happens
      pub goes_on : (later : Reply) (new : Kept A) → IsTaken (element by (restart is.last next)) later now new → HasRun by frame later (events + 1) (events + 1) old new
      unfolding paused
      goes_on later new taken =
          let asked = subst (λ n. IsTaken (element by (restart is.last n)) later now new) goes.0 taken in
          let s = paused (events + 1) (omega arith) in
          let entry : Entry A = record { event = element by s.now; reply = later } in
          record {
            before = s.before;
            last = s.now;
            elements = s.elements;
            history = asked.gained.history ∙ ap (λ (es : List (Entry A)). es ++ entry ∷ []) s.history ∙ append_assoc old.history s.before (entry ∷ []);
            config = asked.gained.config ∙ s.config;
            limit = asked.gained.limit ∙ s.limit;
            count = ap (λ n. n + 1) s.count;
            within = omega arith;
            ends = λ less. absurd (omega arith);
            asked = asked.asked;
            result = asked.result s.now refl;
            next = asked.next;
          }
