-- Telling that broke off.
use Rattle.std.proofs.Common.{◌≡◌, ◌≢◌, ℕ, ◌+◌, ◌<◌, ◌⊎◌, inl, inr, List, [], ◌∷◌, ◌++◌, length, refl, sym, ap, ◌∙◌, subst, arith, append-nil, append_assoc, length-append}
use Rattle.std.proofs.Common.{All, codes, take, drop, take-append-drop, Result, Ok, Err, IfErr, Option, None, Some, Global}
use Rattle.std.specs.Io.KnownBytes.{Appends, Keeps}
use Rattle.std.proofs.KnownBytes.{Appends-kept, Appends-nil, Appends-trans}
use Rattle.std.proofs.lemmas.List.Elements.{All-cons, All-nil, All-push}
use Rattle.hv_abi.specs.declared.frame.Frame.{Frame}
use Rattle.hv_check.specs.Takes.{HasTaken}
use Rattle.hv_admit.specs.Effect.{Tells}
use Rattle.hv_admit.specs.declared.effect.Effect.{Effect}
use Rattle.hv_explain.proofs.AskedActions.{HasBegun, elements_push, ends_whole, one_event}
use Rattle.hv_explain.proofs.Lines.{HasToldUpTo}
use Rattle.hv_explain.proofs.RunLines.{AreMost, HasReached, HasRunSome, none_begun}
use Rattle.hv_explain.proofs.WrittenLines.{told_append}
use Rattle.hv_explain.specs.Cut.{HasWrittenPart, IsCut, IsCutEvent, IsCutLine, IsCutNext, IsCutText, IsEnded}
use Rattle.hv_explain.specs.First.{AreBegun}
use Rattle.hv_explain.specs.Part.{HasPutPart, HasPutUntil, TellsFirst, TellsPart, TellsPartOf}
use Rattle.hv_explain.specs.Written.{AreTold, HasExplained, HasExplainedText, HasHappened, HasPut, HasWritten, Telling, entry_of, state_after}
use Rattle.hv_history.specs.Kept.{IsRun, Kept}
use Rattle.hv_history.specs.Run.{AreElements, GoesOnAt, IsMore, element, restart, start_of}
use Rattle.hv_history.specs.declared.entry.Entry.{Entry}
use Rattle.hv_phases.proofs.PhasedHistories.{order-push}
use Rattle.hv_phases.specs.Schedule.{StandsFor}
use Rattle.hv_phases.specs.declared.schedule.Schedule.{Schedule}
use Rattle.hv_policy.specs.Call.{action_of}
use Rattle.hv_policy.specs.Next.{GoesOn}
use Rattle.hv_policy.specs.declared.config.Config.{Config}
use Rattle.hv_policy.specs.declared.event.Access.{Access}
use Rattle.hv_policy.specs.declared.event.Action.{Action}
use Rattle.hv_policy.specs.declared.event.Action.TheVariants.{Hypercall}
use Rattle.hv_policy.specs.declared.event.Caller.{Caller}
use Rattle.hv_policy.specs.declared.reply.Reply.{Reply}
use Rattle.hv_policy.specs.declared.reply.Reply.TheVariants.{Served, More, Denied, Fault}
use Rattle.hv_run.proofs.Parts.{part_after, part_kept, part_none, part_whole}
use Rattle.hv_run.specs.Written.{HasPart}
use Rattle.hv_run.specs.declared.failure.Failure.{Failure}
use Rattle.hv_run.specs.declared.failure.Failure.TheVariants.{Write}
use Rattle.hv_script.specs.Script.{Said}
use Rattle.hv_script.specs.declared.line.Line.{Line}
use Rattle.hv_shared.specs.ByCaller.{receipts_by}
use Rattle.hv_text.specs.Audit.{entry_text}
use Rattle.hv_threads.proofs.ActOutcomes.{elements_by, none_stopped, part_of}
use Rattle.hv_threads.proofs.OwnReceipts.{IsBy, own_first}
use Rattle.hv_threads.specs.Perform.{IsStopped, IsWhole}

-- what was told before, and a part of what follows
pub part_then : (tells : Telling) (xs ys : List (Entry Global)) (a b c : Kept Global) (u v w : Option (List ℕ)) → HasWritten tells xs a b u v → HasWrittenPart tells ys b c v w
    → HasWrittenPart tells (xs ++ ys) a c u w
part_then tells xs ys a b c u v w first second = record {
  history = second.history ∙ ap (λ (l : List (Entry Global)). l ++ ys) first.history ∙ append_assoc a.history xs ys;
  config = second.config ∙ first.config;
  limit = second.limit ∙ first.limit;
  text = first.text ++ second.text;
  told = told_append tells a.config a.history xs ys first.text second.text first.told
      (subst (λ (p : List (Entry Global)). AreTold tells a.config p ys second.text) first.history (subst (λ (k : Config). AreTold tells k b.history ys second.text) first.config second.told));
  wrote = part_after first.text second.text u v w first.wrote second.wrote;
}

-- what was told before, and nothing of what follows
pub all_then : (tells : Telling) (xs : List (Entry Global)) (a b : Kept Global) (u v w : Option (List ℕ)) → HasWritten tells xs a b u v → Keeps v w → HasWrittenPart tells xs a b u w
all_then tells xs a b u v w first same = record {
  history = first.history;
  config = first.config;
  limit = first.limit;
  text = first.text;
  told = first.told;
  wrote = part_whole first.text u w (Appends-kept u v w first.text first.wrote same);
}

-- a text was built in a vector without bytes
built_is : (start built text : List ℕ) → start ≡ [] → Appends (Some start) (Some built) text → built ≡ text
built_is start built text none told = told ∙ ap (λ (l : List ℕ). l ++ text) none

-- and written
pub text_put : (Kind : List ℕ → Type 0) (start built bytes : List ℕ) (v w : Option (List ℕ)) → start ≡ [] → HasPut Kind (Some start) (Some built) → bytes ≡ built → Appends v w bytes → HasPut Kind v w
text_put Kind start built bytes v w none put is wrote = record { text = put.text; kind = put.kind; wrote = subst (Appends v w) (is ∙ built_is start built put.text none put.wrote) wrote }

pub text_cut : (Kind : List ℕ → Type 0) (failure : Failure) (start built bytes : List ℕ) (v w : Option (List ℕ)) → start ≡ [] → HasPut Kind (Some start) (Some built) → bytes ≡ built
    → IsCutText failure (λ t. t ≡ bytes) v w → IsCutText failure Kind v w
text_cut Kind failure start built bytes v w none put is (inl same) = inl same
text_cut Kind failure start built bytes v w none put is (inr (write, cut)) = inr (
  write,
  record {
    text = put.text;
    kind = put.kind;
    part = subst (λ (t : List ℕ). HasPart t v w) (cut.kind ∙ is ∙ built_is start built put.text none put.wrote) cut.part;
  },
)

-- of a text, some bytes were written, and then all others, or a part of them
pub rest_put : (text rest : List ℕ) (n : ℕ) (u v w : Option (List ℕ)) → rest ≡ drop n text → Appends u v (take n text) → Appends v w rest → Appends u w text
rest_put text rest n u v w is first more =
    subst (Appends u w) (ap (λ (l : List ℕ). take n text ++ l) is ∙ take-append-drop n text) (Appends-trans u v w (take n text) rest first more)

pub rest_cut : (failure : Failure) (text rest : List ℕ) (n : ℕ) (u v w : Option (List ℕ)) → rest ≡ drop n text → Appends u v (take n text) → (failure ≡ Write) × HasPart rest v w
    → IsCutText failure (λ t. t ≡ text) u w
rest_cut failure text rest n u v w is first (write, part) = inr (
  write,
  record {
    text = text;
    kind = refl;
    part = subst (λ (t : List ℕ). HasPart t u w) (ap (λ (l : List ℕ). take n text ++ l) is ∙ take-append-drop n text) (part_after (take n text) rest u v w first part);
  },
)

-- what follows from a failure
pub err_then : {T E : Type 0} (r : Result T E) (P Q : E → Type 0) → IfErr r P → ((e : E) → P e → Q e) → IfErr r Q
err_then (Ok value) P Q holds then = tt
err_then (Err error) P Q holds then = then error holds

-- of an event that was taken, a part of the text was written
part_one : (tells : Telling) (by : Caller) (what : Action Global) (reply : Reply) (effect : Effect) (old new : Kept Global) (v w : Option (List ℕ)) → HasHappened by what reply effect old new
    → HasPutPart (tells (length new.history) (entry_of by what reply) effect) v w → HasWrittenPart tells (entry_of by what reply ∷ []) old new v w
part_one tells by what reply effect old new v w is cut =
    let e : Entry Global = entry_of by what reply in
    let at : length new.history ≡ 1 + length old.history = let n = ap length is.gained.history in omega (arith, n, length-append old.history (e ∷ [])) in
    let after : Tells effect (state_after old.config old.history) (state_after old.config (old.history ++ e ∷ [])) =
    subst (Tells effect (state_after old.config old.history)) (λ i. state_after (is.gained.config i) (is.gained.history i)) is.step in
    record {
      history = is.gained.history;
      config = is.gained.config;
      limit = is.gained.limit;
      text = cut.text;
      told = (cut.text, [], record { effect = effect; step = after; told = subst (λ (k : ℕ). tells k e effect cut.text) at cut.kind }, sym (append-nil cut.text), refl);
      wrote = cut.part;
    }

pub cut_event : (tells : Telling) (by : Caller) (what : Action Global) (failure : Failure) (reply : Reply) (effect : Effect) (old new : Kept Global) (v w : Option (List ℕ))
    → HasHappened by what reply effect old new → GoesOn what reply
    → IsCutText failure (tells (length new.history) (entry_of by what reply) effect) v w → IsCut tells by what failure old new v w
cut_event tells by what failure reply effect old new v w is next (inl same) = inl same
cut_event tells by what failure reply effect old new v w is next (inr (write, cut)) =
    inr (record { write = write; reply = reply; next = next; told = part_one tells by what reply effect old new v w is cut })

-- which is the next one of its processor
pub cut_next : (tells : Telling) (by : Caller) (what : Action Global) (failure : Failure) (reply : Reply) (effect : Effect) (k new : Kept Global) (old went : Schedule)
    (text rest : List ℕ) (v w : Option (List ℕ))
    → HasHappened by what reply effect k new → IsRun new → IsCutText failure (tells (length new.history) (entry_of by what reply) effect) v w
    → ((lines : List (Line Global)) → StandsFor old lines → HasTaken lines (entry_of by what reply) went)
    → text ≡ entry_text (length k.history + 1) (entry_of by what reply) ++ (codes "\n" ++ rest) → Keeps v w ⊎ IsCutNext tells failure k new old went text v w
cut_next tells by what failure reply effect k new old went text rest v w is run (inl same) next line = inl same
cut_next tells by what failure reply effect k new old went text rest v w is run (inr (write, cut)) next line = inr (record {
  write = write;
  entry = entry_of by what reply;
  run = run;
  told = part_one tells by what reply effect k new v w is cut;
  next = next;
  rest = rest;
  line = line;
})

module _ (tells : Telling) (by : Caller) (what : Action Global) (failure : Failure) (old : Kept Global) (v w : Option (List ℕ)) where
  -- nothing of a line was told
  pub none_cut : IsRun old → Keeps v w → IsCutLine tells by what failure old v w
  none_cut run same = record {
    own = [];
    by_it = All-nil (IsBy by);
    ended = inr (λ n. none_stopped by what);
    now = old;
    run = run;
    told = record { history = sym (append-nil old.history); config = refl; limit = refl; text = []; told = refl; wrote = part_none [] v w same };
    whole = λ other. Appends-kept v v w [] (Appends-nil v) same;
  }

-- an access was taken
pub cut_access : (tells : Telling) (by : Caller) (given : Access) (what : Action Global) (failure : Failure) (old new : Kept Global) (v w : Option (List ℕ)) → action_of given ≡ what → IsRun old
    → IsRun new → IsCut tells by what failure old new v w → IsCutLine tells by what failure old v w
cut_access tells by given what failure old new v w is was run (inl same) = none_cut tells by what failure old v w was same
cut_access tells by given what failure old new v w is was run (inr cut) =
    subst (λ (what : Action Global). IsCutEvent tells by what failure old new v w → IsCutLine tells by what failure old v w) is of_access cut
  where
    of_access : IsCutEvent tells by (action_of given) failure old new v w → IsCutLine tells by (action_of given) failure old v w
    of_access one =
        let entry : Entry Global = entry_of by (action_of given) one.reply in
        record {
          own = entry ∷ [];
          by_it = All-cons (IsBy by) entry [] refl (All-nil (IsBy by));
          ended = inl (λ n. one_event by given (receipts_by by n (entry ∷ [])) (record { number = n; reply = one.reply; all = own_first by n entry [] refl }));
          now = new;
          run = run;
          told = one.told;
          whole = λ other. absurd (other one.write);
        }

-- a reply says that the call continues, or it doesn't
goes_or_ends : (now : Frame Global) (reply : Reply) → GoesOn (Hypercall now) reply → GoesOnAt (start_of now + 1) reply ⊎ (IsMore reply → ⊥)
goes_or_ends now (Served output) next = inr (λ more. more)
goes_or_ends now (More next output) (at, less) = inl (at, subst (λ (n : ℕ). n < 4096) at less)
goes_or_ends now (Denied rule status reps) next = inr (λ more. more)
goes_or_ends now (Fault rule) next = inr (λ more. more)

-- an element of a call was taken
module _ (tells : Telling) (by : Caller) (frame now : Frame Global) (failure : Failure) (old mid new : Kept Global) (v u w : Option (List ℕ)) (begun : HasBegun tells by old v frame now mid u) where
  ended_by : (reply : Reply) → GoesOnAt (start_of now + 1) reply ⊎ (IsMore reply → ⊥)
      → IsEnded by (Hypercall frame) (begun.before ++ record { event = element by now; reply = reply } ∷ [])
  ended_by reply (inl goes) = inr (part_of by frame (begun.before ++ record { event = element by now; reply = reply } ∷ []) (restart now (start_of now + 1))
      (elements_push by frame begun.before now reply begun.elements goes))
  ended_by reply (inr ends) = inl (ends_whole by frame begun.before now reply begun.elements ends)

  pub cut_element : IsRun mid → IsRun new → IsCut tells by (Hypercall now) failure mid new u w → IsCutLine tells by (Hypercall frame) failure old v w
  unfolding all_then
  cut_element was run (inl same) = record {
    own = begun.before;
    by_it = elements_by by frame begun.before now begun.elements;
    ended = inr (part_of by frame begun.before now begun.elements);
    now = mid;
    run = was;
    told = all_then tells begun.before old mid v u w begun.told same;
    whole = λ other. Appends-kept v u w begun.told.text begun.told.wrote same;
  }
  cut_element was run (inr cut) =
      let last : Entry Global = record { event = element by now; reply = cut.reply } in
      record {
        own = begun.before ++ last ∷ [];
        by_it = All-push (IsBy by) begun.before last (elements_by by frame begun.before now begun.elements) refl;
        ended = ended_by cut.reply (goes_or_ends now cut.reply cut.next);
        now = new;
        run = run;
        told = part_then tells begun.before (last ∷ []) old mid new v u w begun.told cut.told;
        whole = λ other. absurd (other cut.write);
      }

-- the lines before were told, and of the next one a part
module _ (tells : Telling) (at : Option ℕ) (lines left rest : List (Line Global)) (line : Line Global) (failure : Failure) (old now : Kept Global) (most : ℕ) (v u w : Option (List ℕ))
    (none : old.history ≡ []) (is : left ≡ line ∷ rest) (room : AreMost at (length now.history) most) (some : 0 < most) (so_far : HasToldUpTo tells at lines left old now v u)
    (cut : IsCutLine tells line.by line.action failure now u w) where
  begun_by : HasRunSome at lines left now.history → IsEnded line.by line.action cut.own → AreBegun lines (now.history ++ cut.own)
  begun_by ran (inl whole) = record {
    done = ran.done ++ line ∷ [];
    left = rest;
    own = now.history ++ cut.own;
    part = [];
    split = ran.split ∙ ap (λ (l : List (Line Global)). ran.done ++ l) is ∙ sym (append_assoc ran.done (line ∷ []) rest);
    all = sym (append-nil (now.history ++ cut.own));
    order = order-push 1 ran.done now.history line cut.own ran.order cut.by_it (whole (1 + length now.history));
    next = none_begun (length (now.history ++ cut.own) + 1) rest;
  }
  begun_by ran (inr part) = record {
    done = ran.done;
    left = line ∷ rest;
    own = now.history;
    part = cut.own;
    split = ran.split ∙ ap (λ (l : List (Line Global)). ran.done ++ l) is;
    all = refl;
    order = ran.order;
    next = (cut.by_it, part (length now.history + 1));
  }

  begun : HasRunSome at lines left now.history ⊎ HasReached at lines now.history → AreBegun lines (now.history ++ cut.own)
  begun (inl ran) = begun_by ran cut.ended
  begun (inr has) = let m = room.some (length now.history) has.1 in absurd (omega arith)

  pub lines_cut : HasPutUntil failure (TellsFirst tells old.config old.limit lines) v w
  unfolding part_then
  lines_cut =
      let before = so_far.told in
      let more = cut.told in
      let all = part_then tells now.history cut.own old now cut.now v u w before more in
      record {
        text = all.text;
        kind = record {
          kept = cut.now;
          run = cut.run;
          config_is = all.config;
          limit_is = all.limit;
          begun = subst (AreBegun lines) (sym more.history) (begun so_far.running.so_far);
          told = subst (λ (es : List (Entry Global)). AreTold tells old.config [] es all.text) (sym more.history)
              (subst (λ (p : List (Entry Global)). AreTold tells old.config p (now.history ++ cut.own) all.text) none all.told);
        };
        part = all.wrote;
        whole = λ other. Appends-trans v u w before.text more.text before.wrote (cut.whole other);
      }

-- after a flush, nothing has changed
pub until_kept : (failure : Failure) (Kind : List ℕ → Type 0) (u v w : Option (List ℕ)) → HasPutUntil failure Kind u v → Keeps v w → HasPutUntil failure Kind u w
until_kept failure Kind u v w is same = record {
  text = is.text;
  kind = is.kind;
  part = part_kept is.text u v w is.part same;
  whole = λ other. Appends-kept u v w is.text (is.whole other) same;
}

-- all of a text was written
pub until_all : (failure : Failure) (Kind : List ℕ → Type 0) (u w : Option (List ℕ)) (text : List ℕ) → Kind text → Appends u w text → HasPutUntil failure Kind u w
until_all failure Kind u w text kind wrote = record { text = text; kind = kind; part = part_whole text u w wrote; whole = λ other. wrote }

-- or nothing
pub until_none : (failure : Failure) (Kind : List ℕ → Type 0) (u w : Option (List ℕ)) → Kind [] → Keeps u w → HasPutUntil failure Kind u w
until_none failure Kind u w kind same = until_all failure Kind u w [] kind (Appends-kept u u w [] (Appends-nil u) same)

-- what a text is, is another thing, too
pub until_map : (failure : Failure) (P Q : List ℕ → Type 0) (u w : Option (List ℕ)) → ((text : List ℕ) → P text → Q text) → HasPutUntil failure P u w → HasPutUntil failure Q u w
until_map failure P Q u w then is = record { text = is.text; kind = then is.text is.kind; part = is.part; whole = is.whole }

-- the lines are those of a script
pub lines_until : (tells : Telling) (failure : Failure) (said : Said Global) (config : Config) (limit : ℕ) (lines : List (Line Global)) (u v w : Option (List ℕ)) → config ≡ said.config
    → limit ≡ said.limit → lines ≡ said.lines → HasPutUntil failure (TellsFirst tells config limit lines) u v → Keeps v w → HasPutUntil failure (TellsPart tells said) u w
lines_until tells failure said config limit lines u v w same_config same_limit same_lines is same =
    until_kept failure (TellsPart tells said) u v w
    (until_map failure (TellsFirst tells config limit lines) (TellsPart tells said) u v
    (λ text first. inr (subst (λ (ls : List (Line Global)). TellsFirst tells said.config said.limit ls text) same_lines
    (subst (λ (n : ℕ). TellsFirst tells said.config n lines text) same_limit (subst (λ (k : Config). TellsFirst tells k limit lines text) same_config first))))
    is)
    same

-- as an exit status says it
pub part_of_until : (failure : Failure) (Kind : List ℕ → Type 0) (u w : Option (List ℕ)) → HasPutUntil failure Kind u w → HasPutPart Kind u w
part_of_until failure Kind u w is = record { text = is.text; kind = is.kind; part = is.part }

-- all events of a script were told, which are the first ones
pub explained_until : (tells : Telling) (failure : Failure) (said : Said Global) (u w : Option (List ℕ)) → HasExplained tells said u w → HasPutUntil failure (TellsPart tells said) u w
explained_until tells failure said u w is = until_all failure (TellsPart tells said) u w is.text (inr (record {
  kept = is.kept;
  run = is.run;
  config_is = is.config;
  limit_is = is.limit;
  begun = record {
    done = said.lines;
    left = [];
    own = is.kept.history;
    part = [];
    split = sym (append-nil said.lines);
    all = sym (append-nil is.kept.history);
    order = is.order;
    next = refl;
  };
  told = subst (λ (k : Config). AreTold tells k [] is.kept.history is.text) is.config is.told;
})) is.wrote

pub explained_text_until : (tells : Telling) (failure : Failure) (script : List ℕ) (u w : Option (List ℕ)) → HasExplainedText tells script u w → HasPutUntil failure (TellsPartOf tells script) u w
explained_text_until tells failure script u w is =
    until_map failure (TellsPart tells is.said) (TellsPartOf tells script) u w (λ text told. inr (is.said, is.is, told)) (explained_until tells failure is.said u w is.told)
