-- Several elements of a call under the lock.
use Rattle.std.proofs.Common.{◌≡◌, ℕ, ◌+◌, ◌≤◌, IfOk, OnErr, Result, Ok, Err, List, [], ◌∷◌, ◌++◌, length, drop, sym, ap, subst, ◌∙◌, arith, length-append, Global}
use Rattle.std.proofs.Math.Seq.{drop-append_seam}
use Rattle.std.proofs.lemmas.List.Elements.{All-push}
use Rattle.hv_abi.specs.declared.frame.Frame.{Frame}
use Rattle.hv_history.specs.Kept.{IsRun, Kept}
use Rattle.hv_history.specs.Row.{DifferInRcx, asking, events_of, replies_of}
use Rattle.hv_history.specs.Run.{HasRun, HasStopped, element}
use Rattle.hv_history.specs.declared.entry.Entry.{Entry}
use Rattle.hv_policy.specs.Boot.{boot}
use Rattle.hv_policy.specs.Flat.{Flat}
use Rattle.hv_policy.specs.Step.{run_from}
use Rattle.hv_policy.specs.declared.event.Caller.{Caller}
use Rattle.hv_policy.specs.declared.event.Event.{Event}
use Rattle.hv_policy.specs.declared.reply.Reply.{Reply}
use Rattle.hv_shared.specs.Copies.{AreCopies}
use Rattle.hv_shared.specs.HeldValue.{HeldValue}
use Rattle.hv_shared.specs.Hold.{HasHeld}
use Rattle.hv_shared.specs.PassValue.{PassValue}
use Rattle.hv_shared.specs.Receipts.{numbered}
use Rattle.hv_shared.proofs.Copies.{enough, later, sooner}
use Rattle.hv_shared.proofs.EntryNumbers.{count, differ, differs}

-- the history has so many entries more, of events that differ from the frame's in RCX alone, and of each of which there is a copy
pub record IsGained (by : Caller) (frame : Frame Global) (events : ℕ) (old new : Kept Global) (copies : List (Event Global)) : Type 0 where
  pub more : List (Entry Global)
  pub history : new.history ≡ old.history ++ more
  pub many : length more ≡ events
  pub enough : events ≤ length copies
  pub alike : DifferInRcx (element by frame) more

module _ (by : Caller) (frame : Frame Global) (events most : ℕ) (old new : Kept Global) (run_is : IsRun new) where
  -- what was gained is itself a run
  pub onward : (more : List (Entry Global)) → new.history ≡ old.history ++ more → (g : Flat) × (replies_of more ≡ (run_from g (events_of more)).1)
  onward more history =
      later (boot new.config) old.history more (subst (λ (es : List (Entry Global)). replies_of es ≡ (run_from (boot new.config) (events_of es)).1) history run_is.replies)

module _ (by : Caller) (frame : Frame Global) (events most : ℕ) (old new : Kept Global) (copies : List (Event Global)) (run_is : IsRun new) (are : AreCopies by frame most copies) where
  ran : (reply : Reply) → HasRun by frame reply events most old new → IsGained by frame events old new copies
  ran reply is =
      let last : Entry Global = record { event = element by is.last; reply = reply } in
      let on = onward by frame events most old new run_is (is.before ++ last ∷ []) is.history in
      let many = is.count in
      let within = is.within in
      let some = enough on.0 by frame is.before is.last most copies are is.elements (sooner on.0 is.before last on.1) (omega arith) in
      record {
        more = is.before ++ last ∷ [];
        history = is.history;
        many = omega (arith, length-append is.before (last ∷ []));
        enough = omega arith;
        alike = All-push (λ (d : Entry Global). asking d.event 0 ≡ asking (element by frame) 0) is.before last
            (differ by frame is.before is.last is.elements) (differs by frame is.before is.last is.elements);
      }

  stopped : HasStopped by frame events most old new → IsGained by frame events old new copies
  stopped is =
      let on = onward by frame events most old new run_is is.before is.history in
      let many = is.count in
      let within = is.within in
      let some = enough on.0 by frame is.before is.now most copies are is.elements on.1 (omega arith) in
      record {
        more = is.before;
        history = is.history;
        many = sym many;
        enough = omega arith;
        alike = differ by frame is.before is.now is.elements;
      }

  pub gained : {T E : Type 0} (last : Result T E) (told : T → Reply) → IfOk last (λ t. HasRun by frame (told t) events most old new)
      → OnErr last (HasStopped by frame events most old new) → IsGained by frame events old new copies
  gained (Ok t) told is other = ran (told t) is
  gained (Err why) told other is = stopped is

pub tail_is : (all old more : List (Entry Global)) (from : ℕ) → all ≡ old ++ more → from ≡ length old → drop from all ≡ more
tail_is all old more from is at = (λ i. drop (at i) (is i)) ∙ drop-append_seam old more

-- the receipts of what was gained
pub held : (by : Caller) (frame : Frame Global) (events : ℕ) (copies : List (Event Global)) (h k : HeldValue) (p q : PassValue) → IsGained by frame events h.kept k.kept copies
    → k.count ≡ h.count + events
    → (all : List (Entry Global)) (from : ℕ) → all ≡ k.kept.history → from ≡ length h.kept.history → q.receipts ≡ p.receipts ++ numbered (from + 1) (drop from all) → q.share ≡ p.share + events →
    q.caller ≡ p.caller → HasHeld h k p q
held by frame events copies h k p q is counted all from all_is at receipts share caller =
    let tail = tail_is all h.kept.history is.more from (all_is ∙ is.history) at in
    record {
      more = is.more;
      history = is.history;
      count = counted ∙ ap (λ (m : ℕ). h.count + m) (sym is.many);
      gained = record {
        receipts = receipts ∙ (λ i. p.receipts ++ numbered (at i + 1) (tail i));
        share = share ∙ ap (λ (m : ℕ). p.share + m) (sym (count (length h.kept.history + 1) is.more ∙ is.many));
        caller = caller;
      };
    }
