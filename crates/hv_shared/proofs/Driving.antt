-- A call that continues from hold to hold.
use Rattle.std.proofs.Common.{◌≡◌, ℕ, ◌+◌, ◌-◌, ◌<◌, ◌≤◌, List, [], ◌∷◌, ◌++◌, length, refl, sym, ap, ◌∙◌, subst, arith, append_assoc, map, length-append, Global}
use Rattle.std.proofs.lemmas.List.{append_cancel_left, map-append}
use Rattle.hv_abi.specs.InputValue.{input_value}
use Rattle.hv_abi.specs.declared.frame.Frame.{Frame}
use Rattle.hv_abi.specs.declared.input_value.InputValue.{InputValue}
use Rattle.hv_defs.specs.declared.sizes.TheConstants.{REPS_END}
use Rattle.hv_history.proofs.Elements.{as_many, start_restart}
use Rattle.hv_history.specs.Kept.{IsRun, Kept}
use Rattle.hv_history.specs.Run.{AreElements as AreAsked, GoesOnAt, HasRun, HasStopped as HasStoppedAt, IsMore, element, restart, start_of}
use Rattle.hv_history.specs.declared.entry.Entry.{Entry}
use Rattle.hv_policy.specs.Next.{GoesOn}
use Rattle.hv_policy.specs.Result.{result_of}
use Rattle.hv_policy.specs.declared.event.Action.TheVariants.{Hypercall}
use Rattle.hv_policy.specs.declared.event.Caller.{Caller}
use Rattle.hv_policy.specs.declared.reply.Reply.{Reply}
use Rattle.hv_policy.specs.declared.reply.Reply.TheVariants.{More}
use Rattle.hv_shared.specs.Copies.{elements_in}
use Rattle.hv_shared.specs.Drive.{AreElements, HasDriven, HasStopped, entry_in}
use Rattle.hv_shared.specs.HeldValue.{HeldValue}
use Rattle.hv_shared.specs.Hold.{HasHeld}
use Rattle.hv_shared.specs.Pass.{HasReceipts, IsAsBefore, receipt}
use Rattle.hv_shared.specs.PassValue.{PassValue}
use Rattle.hv_shared.specs.Receipts.{numbered}
use Rattle.hv_shared.specs.declared.receipts.Receipt.{Receipt}
use Rattle.hv_shared.proofs.Copies.{enough_in}
use Rattle.hv_shared.proofs.HeldElements.{onward}
use Rattle.hv_shared.proofs.EntryNumbers.{entries_in, numbered-push}

has_index_at : (n : ℕ) (reply : Reply) → GoesOnAt n reply → n < REPS_END
has_index_at n (More next output) is = is.1
has_index_at n reply is = absurd is

asked-append : (by : Caller) (frame mid now : Frame Global) (es more : List (Entry Global)) → AreAsked by frame es mid → AreAsked by mid more now → AreAsked by frame (es ++ more) now
asked-append by frame mid now [] more is then = subst (λ (f : Frame Global). AreAsked by f more now) is then
asked-append by frame mid now (e ∷ es) more is then = (is.0, is.1, asked-append by (restart frame (start_of frame + 1)) mid now es more is.2 then)

-- the frame after some elements has their call, and another start index
at_end : (by : Caller) (frame : Frame Global) (es : List (Entry Global)) (now : Frame Global) → AreAsked by frame es now → now ≡ restart frame (start_of now)
at_end by frame [] now is =
    let start = ap start_of is in
    let rcx : frame.rcx ≡ (restart frame (start_of now)).rcx = omega arith in
    is ∙ (λ i. record frame { rcx = rcx i })
at_end by frame (e ∷ es) now is =
    let less = has_index_at (start_of frame + 1) e.reply is.1 in
    let rcx : (restart (restart frame (start_of frame + 1)) (start_of now)).rcx ≡ (restart frame (start_of now)).rcx = omega arith in
    at_end by (restart frame (start_of frame + 1)) es now is.2 ∙ (λ i. record frame { rcx = rcx i })

-- the entries of some receipts, and of numbered ones after them
entries-append : (rs : List Receipt) (n : ℕ) (es : List (Entry Global)) → map entry_in (rs ++ numbered n es) ≡ map entry_in rs ++ es
entries-append rs n es = map-append entry_in rs (numbered n es) ∙ ap (λ (xs : List (Entry Global)). map entry_in rs ++ xs) (entries_in n es)

-- what a pass gained in two steps
pub gained-twice : (a b : List Receipt) (old mid new : PassValue) → HasReceipts a old mid → HasReceipts b mid new → HasReceipts (a ++ b) old new
gained-twice a b old mid new first second =
    record {
      receipts = second.receipts ∙ ap (λ (l : List Receipt). l ++ b) first.receipts ∙ append_assoc old.receipts a b;
      share = let s = first.share in let t = second.share in omega (arith, length-append a b);
      caller = second.caller ∙ first.caller;
    }

-- a call that continues has more elements than those that happened
has_left : (by : Caller) (frame : Frame Global) (reply : Reply) (events most all : ℕ) (old new : Kept Global) → IsRun new → (is : HasRun by frame reply events most old new)
    → GoesOnAt (start_of is.last + 1) reply → events < all → events < elements_in frame.rcx all
has_left by frame reply events most all old new run_is is goes less =
    let last : Entry Global = record { event = element by is.last; reply = reply } in
    let es = is.before ++ last ∷ [] in
    let on = onward by frame events most old new run_is es is.history in
    let count = is.count in
    let many : length es ≡ events = omega (arith, length-append is.before (last ∷ [])) in
    let later = restart is.last (start_of is.last + 1) in
    let elements = asked-append by frame is.last later is.before (last ∷ []) is.elements (refl, goes, refl) in
    let left = enough_in on.0 by frame es later all elements on.1 (omega arith) in
    omega arith

-- the pass has the receipts more of the elements of a call up to the one that is to be asked now
pub record IsDriving (frame now : Frame Global) (old pass : PassValue) : Type 0 where
  pub so_far : List Receipt
  pub elements : AreElements old.caller frame so_far now
  pub gained : HasReceipts so_far old pass

module _ {frame now : Frame Global} {old pass mid : PassValue} (driving : IsDriving frame now old pass) (same : IsAsBefore pass mid) where
  -- the room alone changed
  is : HasReceipts driving.so_far old mid
  is =
      record {
        receipts = same.receipts ∙ driving.gained.receipts;
        share = same.share ∙ driving.gained.share;
        caller = same.caller ∙ driving.gained.caller;
      }

  -- a hold of the elements from a frame on
  module _ {input : InputValue} (read : input ≡ input_value now.rcx) {h k : HeldValue} {new : PassValue} (held : HasHeld h k mid new) where
    start_is : input.start ≡ start_of now
    start_is = ap (λ (v : InputValue). v.start) read

    abbrev n : ℕ
    n = length h.kept.history + 1

    gained : HasReceipts (driving.so_far ++ numbered n held.more) old new
    gained = gained-twice driving.so_far (numbered n held.more) old mid new is held.gained

    further : (es : List (Entry Global)) (later : Frame Global) → k.kept.history ≡ h.kept.history ++ es → AreAsked old.caller now es later
        → AreElements old.caller frame (driving.so_far ++ numbered n held.more) later
    further es later history elements =
        rw (entries-append driving.so_far n held.more, append_cancel_left h.kept.history held.more es (sym held.history ∙ history))
        (asked-append old.caller frame now later (map entry_in driving.so_far) es driving.elements elements)

    -- the host refused an element
    pub stopped : {events most : ℕ} → HasStoppedAt mid.caller now events most h.kept k.kept → HasStopped frame (input.start + events) old new
    stopped run =
        let elements = subst (λ (by : Caller). AreAsked by now run.before run.now) is.caller run.elements in
        record {
          more = driving.so_far ++ numbered n held.more;
          now = run.now;
          elements = further run.before run.now run.history elements;
          next_is = let many = as_many old.caller now run.before run.now elements in let count = run.count in omega (arith, start_is);
          gained = gained;
        }

    module _ {reply : Reply} {events most : ℕ} (asked : HasRun mid.caller now reply events most h.kept k.kept) where
      run : HasRun old.caller now reply events most h.kept k.kept
      run = subst (λ (by : Caller). HasRun by now reply events most h.kept k.kept) is.caller asked

      abbrev final : Entry Global
      final = record { event = element old.caller run.last; reply = reply }

      many : length run.before + start_of now ≡ start_of run.last
      many = as_many old.caller now run.before run.last run.elements

      pub fits : input.start + events - 1 < 4096
      fits = let count = run.count in omega (arith, start_is, many)

      -- the last element has the index before the next
      last_is : {last : Frame Global} → last ≡ restart now (input.start + events - 1) → last ≡ run.last
      last_is is =
          let count = run.count in
          let at : input.start + events - 1 ≡ start_of run.last = omega (arith, start_is, many) in
          is ∙ ap (restart now) at ∙ sym (at_end old.caller now run.before run.last run.elements)

      -- it was the last of the call
      pub driven : {last : Frame Global} {value : ℕ} → last ≡ restart now (input.start + events - 1) → (IsMore reply → ⊥) → value ≡ result_of last reply → HasDriven frame value reply old new
      driven at ends value_is =
          let all = append_cancel_left h.kept.history held.more (run.before ++ final ∷ []) (sym held.history ∙ run.history) in
          record {
            more = driving.so_far ++ numbered n held.more;
            last = run.last;
            whole = record {
              before = driving.so_far ++ numbered n run.before;
              number = n + length run.before;
              elements =
                  rw (entries-append driving.so_far n run.before)
                  (asked-append old.caller frame now run.last (map entry_in driving.so_far) run.before driving.elements run.elements);
              all =
                  ap (λ (rs : List Receipt). driving.so_far ++ rs) (ap (numbered n) all ∙ numbered-push n run.before final)
                  ∙ sym (append_assoc driving.so_far (numbered n run.before) (receipt (n + length run.before) final.event reply ∷ []));
              ends = ends;
            };
            value_is = value_is ∙ ap (λ (f : Frame Global). result_of f reply) (last_is at);
            gained = gained;
          }

      -- the call continues
      module _ {next : ℕ} {output : List ℕ} (more : reply ≡ More next output) where
        goes : GoesOn (Hypercall run.last) (More next output)
        goes = subst (GoesOn (Hypercall run.last)) more run.next

        goes_at : GoesOnAt (start_of run.last + 1) reply
        goes_at = subst (GoesOnAt (start_of run.last + 1)) (sym more) (goes.0, (let less = goes.1 in let same = goes.0 in omega arith))

        -- so that it had more than the most elements of a hold
        pub goes_far : (all : ℕ) → IsRun k.kept → most < all → elements_in now.rcx all ≤ most → ⊥
        goes_far all run_is less few =
            let within = run.within in
            let left = has_left old.caller now reply events most all h.kept k.kept run_is run goes_at (omega arith) in
            run.ends (omega arith) (subst IsMore (sym more) tt)

        module _ {later : Frame Global} (then : later ≡ restart now next) where
          pub goes_on : IsDriving frame later old new
          goes_on =
              let last = at_end old.caller now run.before run.last run.elements in
              let rcx : (restart now next).rcx ≡ (restart (restart now (start_of run.last)) next).rcx = omega arith in
              let again : restart now next ≡ restart run.last next = (λ i. record now { rcx = rcx i }) ∙ ap (λ (f : Frame Global). restart f next) (sym last) in
              let to_later = then ∙ again ∙ ap (restart run.last) goes.0 in
              record {
                so_far = driving.so_far ++ numbered n held.more;
                elements = further (run.before ++ final ∷ []) later run.history (asked-append old.caller now run.last later run.before (final ∷ []) run.elements (refl, goes_at, to_later));
                gained = gained;
              }

          pub nearer : start_of now < start_of later
          nearer =
              let start : start_of later ≡ next = ap start_of then ∙ start_restart now next goes.1 in
              let is_next = goes.0 in
              omega (arith, many)
