-- What a processor asks for, to its end.
use Rattle.std.proofs.Common.{◌≡◌, ℕ, ◌+◌, List, [], ◌∷◌, ◌++◌, length, refl, sym, ap, ◌∙◌, subst, All, Option, None, Some, Global, ◌<◌, inl, inr, arith, append-nil, length-append}
use Rattle.std.proofs.KnownBytes.{Appends-nil}
use Rattle.std.proofs.lemmas.List.Elements.{All-cons, All-nil, All-push}
use Rattle.hv_abi.specs.declared.frame.Frame.{Frame}
use Rattle.hv_history.specs.Kept.{IsRun, Kept}
use Rattle.hv_history.specs.Run.{AreElements, GoesOnAt, IsMore, element, restart, start_of}
use Rattle.hv_history.specs.declared.entry.Entry.{Entry}
use Rattle.hv_policy.specs.Call.{action_of}
use Rattle.hv_policy.specs.declared.event.Access.{Access}
use Rattle.hv_policy.specs.declared.event.Access.TheVariants as access
use Rattle.hv_policy.specs.declared.event.Action.{Action}
use Rattle.hv_policy.specs.declared.event.Action.TheVariants.{Hypercall}
use Rattle.hv_policy.specs.declared.event.Caller.{Caller}
use Rattle.hv_policy.specs.declared.reply.Reply.{Reply}
use Rattle.hv_shared.specs.ByCaller.{receipts_by}
use Rattle.hv_shared.specs.Pass.{receipt}
use Rattle.hv_shared.specs.declared.receipts.Receipt.{Receipt}
use Rattle.hv_threads.specs.Perform.{IsAccess, IsWhole}
use Rattle.hv_threads.proofs.ActOutcomes.{elements_by, few_elements, part_of}
use Rattle.hv_threads.proofs.OwnReceipts.{IsBy, own_entries, own_first, receipts-append}
use Rattle.hv_explain.specs.Written.{HasWritten, HasWrittenElement, HasWrittenOne, HasWrittenUpTo, Telling, entry_of}
use Rattle.hv_explain.proofs.WrittenLines.{told_then}

-- the receipts of entries, and of one more of the processor
own_push : (by : Caller) (n : ℕ) (es : List (Entry Global)) (e : Entry Global) → e.event.by ≡ by
    → receipts_by by n (es ++ e ∷ []) ≡ receipts_by by n es ++ receipt (n + length es) e.event e.reply ∷ []
own_push by n es e own = receipts-append by n es (e ∷ []) ∙ ap (λ (l : List Receipt). receipts_by by n es ++ l) (own_first by (n + length es) e [] own)

-- the call continues by one element more
pub elements_push : (by : Caller) (frame : Frame Global) (es : List (Entry Global)) (now : Frame Global) (reply : Reply) → AreElements by frame es now → GoesOnAt (start_of now + 1) reply
    → AreElements by frame (es ++ record { event = element by now; reply = reply } ∷ []) (restart now (start_of now + 1))
elements_push by frame [] now reply is goes =
    (ap (element by) is, subst (λ (f : Frame Global). GoesOnAt (start_of f + 1) reply) is goes, ap (λ (f : Frame Global). restart f (start_of f + 1)) is)
elements_push by frame (e ∷ es) now reply is goes =
    (is.0, is.1, elements_push by (restart frame (start_of frame + 1)) es now reply is.2 goes)

-- the call ended with an element
pub ends_whole : (by : Caller) (frame : Frame Global) (before : List (Entry Global)) (now : Frame Global) (reply : Reply) → AreElements by frame before now → (IsMore reply → ⊥)
    → (n : ℕ) → IsWhole by (Hypercall frame) (receipts_by by n (before ++ record { event = element by now; reply = reply } ∷ []))
ends_whole by frame before now reply elements ends n =
    let own = elements_by by frame before now elements in
    record {
      last = now;
      reply = reply;
      whole = record {
        before = receipts_by by n before;
        number = n + length before;
        elements = subst (λ (l : List (Entry Global)). AreElements by frame l now) (sym (own_entries by n before own)) elements;
        all = own_push by n before (record { event = element by now; reply = reply }) refl;
        ends = ends;
      };
    }

module _ (tells : Telling) (by : Caller) (old : Kept Global) (v : Option (List ℕ)) where
  -- some elements of a call were told, and `now` is the frame that is to be asked after them
  pub record HasBegun (frame now : Frame Global) (new : Kept Global) (w : Option (List ℕ)) : Type 0 where
    pub before : List (Entry Global)
    pub elements : AreElements by frame before now
    pub told : HasWritten tells before old new v w

  -- one element more, after which the call continues
  abbrev pub begun_more : (frame now next : Frame Global) (n : ℕ) (mid new : Kept Global) (u w : Option (List ℕ)) → HasBegun frame now mid u
      → (told : HasWrittenElement tells by now (Some n) mid new u w)
      → next ≡ restart now n → HasBegun frame next new w
  begun_more frame now next n mid new u w begun told is =
      let goes = told.goes in
      let at : n ≡ start_of now + 1 = goes.0 in
      record {
        before = begun.before ++ record { event = element by now; reply = told.reply } ∷ [];
        elements = subst (AreElements by frame (begun.before ++ record { event = element by now; reply = told.reply } ∷ [])) (sym (is ∙ ap (restart now) at))
            (elements_push by frame begun.before now told.reply begun.elements (subst (λ (k : ℕ). GoesOnAt k told.reply) at goes.1));
        told = told_then tells begun.before (record { event = element by now; reply = told.reply } ∷ []) old mid new v u w begun.told told.told;
      }

  -- none yet
  abbrev pub begun_none : (frame now : Frame Global) → now ≡ frame → HasBegun frame now old v
  begun_none frame now is =
      record { before = []; elements = is; told = record { history = sym (append-nil old.history); config = refl; limit = refl; text = []; told = refl; wrote = Appends-nil v } }

  pub more_count : (frame now next : Frame Global) (n : ℕ) (mid new : Kept Global) (u w : Option (List ℕ)) → (begun : HasBegun frame now mid u)
      → (told : HasWrittenElement tells by now (Some n) mid new u w)
      → (is : next ≡ restart now n) → length (begun_more frame now next n mid new u w begun told is).before ≡ length begun.before + 1
  more_count frame now next n mid new u w begun told is = length-append begun.before (record { event = element by now; reply = told.reply } ∷ [])

  -- so many elements were told, and the call would go on
  pub begun_stops : (frame now : Frame Global) (most : ℕ) (new : Kept Global) (w : Option (List ℕ)) → (begun : HasBegun frame now new w) → length begun.before ≡ most → IsRun new
      → HasWrittenUpTo tells by (Hypercall frame) most old new v w
  begun_stops frame now most new w begun count run = record {
    did = record {
      own = begun.before;
      history = begun.told.history;
      by_it = elements_by by frame begun.before now begun.elements;
      ended = inr (count, part_of by frame begun.before now begun.elements);
      within = omega (arith, count);
      few = let less = few_elements by frame begun.before now begun.elements in omega (arith, less);
      config = begun.told.config;
      limit = begun.told.limit;
      run = run;
    };
    told = begun.told;
  }

  -- the last one
  pub begun_ends : (frame now : Frame Global) (most : ℕ) (mid new : Kept Global) (u w : Option (List ℕ)) → (begun : HasBegun frame now mid u) → HasWrittenElement tells by now None mid new u w
      → length begun.before < most → IsRun new → HasWrittenUpTo tells by (Hypercall frame) most old new v w
  begun_ends frame now most mid new u w begun told room run =
      let last : Entry Global = record { event = element by now; reply = told.reply } in
      let before_by = elements_by by frame begun.before now begun.elements in
      let both = told_then tells begun.before (last ∷ []) old mid new v u w begun.told told.told in
      record {
        did = record {
          own = begun.before ++ last ∷ [];
          history = both.history;
          by_it = All-push (IsBy by) begun.before last before_by refl;
          ended = inl (ends_whole by frame begun.before now told.reply begun.elements told.ends);
          within = omega (arith, room, length-append begun.before (last ∷ []));
          few = let less = few_elements by frame begun.before now begun.elements in omega (arith, less, length-append begun.before (last ∷ []));
          config = both.config;
          limit = both.limit;
          run = run;
        };
        told = both;
      }

-- the receipt of an access is all of it
pub one_event : (by : Caller) (given : Access) (list : List Receipt) → IsAccess by (action_of given) list → IsWhole by (action_of given) list
one_event by (access.ReadMsr msr) list one = one
one_event by (access.WriteMsr msr value) list one = one
one_event by (access.ReadSlot sint) list one = one
one_event by (access.ClearSlot sint) list one = one
one_event by (access.ReadFlags sint) list one = one
one_event by (access.ClearFlag sint flag) list one = one
one_event by access.TakeInterrupt list one = one

-- an access happened, and was told
pub one_told : (tells : Telling) (by : Caller) (given : Access) (what : Action Global) (reply : Reply) (most : ℕ) (old new : Kept Global) (v w : Option (List ℕ)) → 0 < most → action_of given ≡ what
    → IsRun new → HasWrittenOne tells by what reply old new v w → HasWrittenUpTo tells by what most old new v w
one_told tells by given what reply most old new v w some is run =
    subst (λ (what : Action Global). HasWrittenOne tells by what reply old new v w → HasWrittenUpTo tells by what most old new v w) is of_access
  where
    of_access : HasWrittenOne tells by (action_of given) reply old new v w → HasWrittenUpTo tells by (action_of given) most old new v w
    of_access told =
        let entry : Entry Global = entry_of by (action_of given) reply in
        record {
          did = record {
            own = entry ∷ [];
            history = told.history;
            by_it = All-cons (IsBy by) entry [] refl (All-nil (IsBy by));
            ended = inl (λ n. one_event by given (receipts_by by n (entry ∷ [])) (record { number = n; reply = reply; all = own_first by n entry [] refl }));
            within = some;
            few = omega arith;
            config = told.config;
            limit = told.limit;
            run = run;
          };
          told = told;
        }
