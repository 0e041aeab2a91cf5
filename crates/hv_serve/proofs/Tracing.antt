-- The objects of events.
use Rattle.std.proofs.Common.{◌≡◌, ◌↔◌, ◌<◌, ◌≤◌, ℕ, Bool, true, false, List, [], ◌∷◌, ◌++◌, length, refl, sym, ap, ◌∙◌, subst, append-nil, arith, drop, take, nat_lt, Option, Some, None}
use Rattle.std.proofs.Common.{◌+◌, IfNone, IfSome, Global}
use Rattle.std.proofs.lemmas.Bool.{false≢true}
use Rattle.std.proofs.lemmas.Bool.Decides.{nat_tests}
use Rattle.std.proofs.Math.Seq.{take-append_seam}
use Rattle.std.proofs.lemmas.List.{drop_all}
use Rattle.std.proofs.lemmas.List.Elements.{All-nil}
use Rattle.hv_abi.specs.declared.frame.Frame.{Frame}
use Rattle.hv_admit.specs.declared.effect.Effect.{Effect}
use Rattle.hv_explain.proofs.AskedActions.{HasBegun, begun_ends, begun_more, begun_none}
use Rattle.hv_explain.proofs.WrittenLines.{told_one}
use Rattle.hv_explain.specs.Written.{AreTold, HasHappened, HasPut, HasWritten, entry_of}
use Rattle.hv_history.specs.Kept.{HasGained, IsRun, Kept}
use Rattle.hv_history.specs.Run.{GoesOnAt, IsMore, restart, start_of}
use Rattle.hv_policy.specs.Next.{GoesOn}
use Rattle.hv_policy.specs.Parts.{reply_of}
use Rattle.hv_policy.specs.declared.answer.Answer.{Answer}
use Rattle.hv_history.specs.declared.entry.Entry.{Entry}
use Rattle.hv_history.specs.declared.kept.HostRefused.{HostRefused}
use Rattle.hv_history.specs.declared.kept.HostRefused.TheVariants.{HistoryFull}
use Rattle.hv_policy.specs.declared.config.Config.{Config}
use Rattle.hv_policy.specs.declared.event.Action.{Action}
use Rattle.hv_policy.specs.declared.event.Action.TheVariants.{Hypercall}
use Rattle.hv_policy.specs.declared.event.Caller.{Caller}
use Rattle.hv_policy.specs.declared.reply.Reply.{Reply}
use Rattle.hv_policy.specs.declared.reply.Reply.TheVariants.{More}
use Rattle.hv_threads.proofs.ActOutcomes.{call_stopped, few_elements}
use Rattle.hv_threads.specs.Acted.{HasActed, WasStopped}
use Rattle.hv_trace.specs.Members.{IsMember}
use Rattle.hv_trace.specs.Trace.{object_text, traces}
use Rattle.hv_words.specs.Words.{StandsForItself}
use Rattle.hv_serve.proofs.Texts.{drop_front}
use Rattle.hv_serve.specs.Bench.{kept_in}
use Rattle.hv_serve.specs.Session.{AreTraced, history_of}
use Rattle.hv_serve.specs.Traced.{HasAdded, HasTakenElement, HasTakenOne, HasTraced, Holds, IsTracedIn}
use Rattle.hv_serve.specs.declared.bench.Bench.{Bench}
use Rattle.hv_serve.specs.declared.form.Form.{Form}
use Rattle.hv_serve.specs.declared.form.Form.TheVariants.{Text, Json}
use Rattle.hv_serve.specs.declared.traced.Trace.{Trace}

-- an object more was written
pub added : (number count : ℕ) (by : Caller) (what : Action Global) (reply : Reply) (effect : Effect) (objects : List ℕ) (old new : Trace) → number ≡ count → new.is_whole ≡ old.is_whole
    → HasPut (traces number (entry_of by what reply) effect) (Some old.objects.items) (Some new.objects.items) → Holds old objects → HasAdded count by what reply effect objects new
added number count by what reply effect objects old new is same put holds = record {
  own = put.text;
  told = subst (λ (n : ℕ). traces n (entry_of by what reply) effect put.text) is put.kind;
  holds = λ whole. put.wrote ∙ ap (λ (l : List ℕ). l ++ put.text) (holds (sym same ∙ whole));
}

-- or there was no memory for it
pub not_added : (count : ℕ) (by : Caller) (what : Action Global) (reply : Reply) (effect : Effect) (objects : List ℕ) (new : Trace) → new.is_whole ≡ false
    → HasAdded count by what reply effect objects new
not_added count by what reply effect objects new lost = record {
  own = object_text count 0 (entry_of by what reply) effect [] [];
  told = record {
    line = 0;
    fields = [];
    reason = [];
    members = ([], All-nil IsMember, refl);
    quotable = All-nil StandsForItself;
    is = refl;
  };
  holds = λ whole. absurd (false≢true (sym lost ∙ whole));
}

-- an event was taken, and has its object
pub taken_one : (by : Caller) (what : Action Global) (reply : Reply) (effect : Effect) (objects : List ℕ) (old new : Kept Global) (trace : Trace) → HasHappened by what reply effect old new
    → HasAdded (length new.history) by what reply effect objects trace → HasTakenOne by what reply objects old new trace
taken_one by what reply effect objects old new trace is added = record {
  after = objects ++ added.own;
  told = told_one traces by what reply effect old new (Some objects) (Some (objects ++ added.own)) (length new.history) is refl
      (record { text = added.own; kind = added.told; wrote = refl });
  holds = added.holds;
}

-- as `taken_one`, for an element of a call, which goes on as its reply says
goes_on : (frame : Frame Global) (reply : Reply) (n : ℕ) (output : List ℕ) → reply ≡ More n output → GoesOn (Hypercall frame) reply → (n ≡ start_of frame + 1) × GoesOnAt n reply
goes_on frame reply n output is goes =
    let next : GoesOn (Hypercall frame) (More n output) = subst (GoesOn (Hypercall frame)) is goes in
    (next.0, subst (GoesOnAt n) (sym is) (refl, next.1))

goes_by : (frame : Frame Global) (reply : Reply) (answer : Answer) (output : List ℕ) (next : Option ℕ) → reply_of answer output ≡ reply → GoesOn (Hypercall frame) reply
    → IfSome next (λ n. (bytes : List ℕ) → reply_of answer bytes ≡ More n bytes) → IfSome next (λ n. (n ≡ start_of frame + 1) × GoesOnAt n reply)
goes_by frame reply answer output None is goes some = tt
goes_by frame reply answer output (Some n) is goes some = goes_on frame reply n output (sym is ∙ some output) goes

ends_by : (reply : Reply) (answer : Answer) (output : List ℕ) (next : Option ℕ) → reply_of answer output ≡ reply → IfNone next ((bytes : List ℕ) → IsMore (reply_of answer bytes) → ⊥)
    → IfNone next (IsMore reply → ⊥)
ends_by reply answer output None is none = subst (λ (r : Reply). IsMore r → ⊥) is (none output)
ends_by reply answer output (Some n) is none = tt

pub taken_element : (by : Caller) (frame own : Frame Global) (reply : Reply) (answer : Answer) (output : List ℕ) (next : Option ℕ) (objects : List ℕ) (old new : Kept Global) (trace : Trace)
    → own ≡ frame → reply_of answer output ≡ reply → GoesOn (Hypercall own) reply → IfSome next (λ n. (bytes : List ℕ) → reply_of answer bytes ≡ More n bytes)
    → IfNone next ((bytes : List ℕ) → IsMore (reply_of answer bytes) → ⊥) → HasTakenOne by (Hypercall own) reply objects old new trace → HasTakenElement by frame next objects old new trace
taken_element by frame own reply answer output next objects old new trace same is goes some none taken =
    let one = subst (λ (f : Frame Global). HasTakenOne by (Hypercall f) reply objects old new trace) same taken in
    record {
      after = one.after;
      told = record {
        reply = reply;
        told = one.told;
        goes = goes_by frame reply answer output next is (subst (λ (f : Frame Global). GoesOn (Hypercall f) reply) same goes) some;
        ends = ends_by reply answer output next is none;
      };
      holds = one.holds;
    }

-- some elements of a call were taken, and have their objects
pub record IsTracing (by : Caller) (old : Kept Global) (frame now : Frame Global) (new : Kept Global) (trace : Trace) : Type 0 where
  pub objects : List ℕ
  pub begun : HasBegun traces by old (Some []) frame now new (Some objects)
  pub holds : Holds trace objects

-- none yet
pub tracing_none : (by : Caller) (old : Kept Global) (frame now : Frame Global) (trace : Trace) → now ≡ frame → Holds trace [] → IsTracing by old frame now old trace
tracing_none by old frame now trace same holds = record { objects = []; begun = begun_none traces by old (Some []) frame now same; holds = holds }

-- one element more, after which the call continues
pub tracing_more : (by : Caller) (old mid new : Kept Global) (frame now onward : Frame Global) (next : ℕ) (trace after : Trace) → (is : IsTracing by old frame now mid trace)
    → ((objects : List ℕ) → Holds trace objects → HasTakenElement by now (Some next) objects mid new after) → onward ≡ restart now next → IsTracing by old frame onward new after
tracing_more by old mid new frame now onward next trace after is taken same =
    let it = taken is.objects is.holds in
    record {
      objects = it.after;
      begun = begun_more traces by old (Some []) frame now onward next mid new (Some is.objects) (Some it.after) is.begun it.told same;
      holds = it.holds;
    }

-- the last one
pub call_ended : (by : Caller) (old mid new : Kept Global) (frame now : Frame Global) (trace after : Trace) → (is : IsTracing by old frame now mid trace)
    → ((objects : List ℕ) → Holds trace objects → HasTakenElement by now None objects mid new after) → IsRun new
    → HasActed by (Hypercall frame) 4294967295 old new × HasTraced [] old new after
call_ended by old mid new frame now trace after is taken run =
    let it = taken is.objects is.holds in
    let few = few_elements by frame is.begun.before now is.begun.elements in
    let ended = begun_ends traces by old (Some []) frame now 4294967295 mid new (Some is.objects) (Some it.after) is.begun it.told (omega (arith, few)) run in
    (ended.did, record { more = ended.did.own; after = it.after; told = ended.told; holds = it.holds })

-- the host refused the next one
pub stopped : (by : Caller) (old mid new : Kept Global) (frame now : Frame Global) (trace : Trace) (why : HostRefused) → IsTracing by old frame now mid trace → new ≡ mid
    → (why ≡ HistoryFull) ↔ (length new.history ≡ new.limit) → IsRun new → WasStopped by (Hypercall frame) 4294967295 why old new
stopped by old mid new frame now trace why is same full run =
    let begun = is.begun in
    let few = few_elements by frame begun.before now begun.elements in
    call_stopped by frame (Hypercall frame) why (length begun.before) 4294967295 old new refl
    (record {
      before = begun.before;
      now = now;
      elements = begun.elements;
      history = ap (λ (k : Kept Global). k.history) same ∙ begun.told.history;
      config = ap (λ (k : Kept Global). k.config) same ∙ begun.told.config;
      limit = ap (λ (k : Kept Global). k.limit) same ∙ begun.told.limit;
      count = refl;
      within = omega (arith, few);
    })
    full run

pub traced_so_far : (by : Caller) (old mid new : Kept Global) (frame now : Frame Global) (trace after : Trace) → IsTracing by old frame now mid trace → new ≡ mid → after ≡ trace
    → HasTraced [] old new after
traced_so_far by old mid new frame now trace after is same kept =
    subst (λ (k : Kept Global). HasTraced [] old k after) (sym same)
    (subst (HasTraced [] old mid) (sym kept) (record { more = is.begun.before; after = is.objects; told = is.begun.told; holds = is.holds }))

-- one event was taken, and no more
pub gained_one : (by : Caller) (what : Action Global) (reply : Reply) (old new : Kept Global) (trace after : Trace) → Holds trace []
    → ((objects : List ℕ) → Holds trace objects → HasTakenOne by what reply objects old new after) → HasGained (record { by = by; what = what }) reply old new
gained_one by what reply old new trace after holds taken =
    let it = taken [] holds in
    record { history = it.told.history; config = it.told.config; limit = it.told.limit }

pub traced_one : (by : Caller) (what : Action Global) (reply : Reply) (old new : Kept Global) (trace after : Trace) → Holds trace []
    → ((objects : List ℕ) → Holds trace objects → HasTakenOne by what reply objects old new after) → HasTraced [] old new after
traced_one by what reply old new trace after holds taken =
    let it = taken [] holds in
    record { more = entry_of by what reply ∷ []; after = it.after; told = it.told; holds = it.holds }

-- none was taken
pub traced_none : (old new : Kept Global) (trace after : Trace) → new ≡ old → after ≡ trace → Holds trace [] → HasTraced [] old new after
traced_none old new trace after same kept holds =
    subst (λ (k : Kept Global). HasTraced [] old k after) (sym same)
    (subst (HasTraced [] old old) (sym kept)
    (record {
      more = [];
      after = [];
      told = record { history = sym (append-nil old.history); config = refl; limit = refl; text = []; told = refl; wrote = refl };
      holds = holds;
    }))

-- the entries that a line added have their objects
pub line_traced : (old : Kept Global) (new : Bench) → HasTraced [] old new.kept new.trace → IsTracedIn (length old.history) (Some new)
line_traced old new is = λ some.
    let before : take (length old.history) new.kept.history ≡ old.history =
    ap (take (length old.history)) is.told.history ∙ take-append_seam old.history is.more in
    let more : drop (length old.history) new.kept.history ≡ is.more = ap (drop (length old.history)) is.told.history ∙ drop_front old.history is.more in
    let told : AreTold traces new.kept.config (take (length old.history) new.kept.history) (drop (length old.history) new.kept.history) is.told.text =
    subst (λ (k : Config). AreTold traces k (take (length old.history) new.kept.history) (drop (length old.history) new.kept.history) is.told.text) (sym is.told.config)
    (subst (λ (past : List (Entry Global)). AreTold traces old.config past (drop (length old.history) new.kept.history) is.told.text) (sym before)
    (subst (λ (es : List (Entry Global)). AreTold traces old.config old.history es is.told.text) (sym more) is.told.told)) in
    record { objects = is.told.text; told = told; holds = subst (Holds new.trace) is.told.wrote is.holds }

-- where none was added
pub untraced : (bench : Option Bench) → IsTracedIn (length (history_of (kept_in bench))) bench
untraced None = tt
untraced (Some bench) = λ some. absurd (omega (arith, some))

pub untraced_same : (old new : Bench) → new.kept ≡ old.kept → IsTracedIn (length old.kept.history) (Some new)
untraced_same old new same = λ some. let is = ap (λ (k : Kept Global). length k.history) same in absurd (omega (arith, is, some))

pub untraced_boot : (before : ℕ) (bench : Bench) → bench.kept.history ≡ [] → IsTracedIn before (Some bench)
untraced_boot before bench none = λ some. let is : length bench.kept.history ≡ 0 = ap length none in absurd (omega (arith, is, some))

-- the text that the trace gives is that of the objects
pub objects_are : {X : Type 0} (text_of : X → List ℕ) (before : ℕ) (bench : Bench) (r : Option X) → before < length bench.kept.history
    → ((objects : List ℕ) → Holds bench.trace objects → IfSome r (λ x. text_of x ≡ objects)) → IsTracedIn before (Some bench) → IfSome r (λ x. AreTraced before (Some bench.kept) (text_of x))
objects_are text_of before bench None some is traced = tt
objects_are text_of before bench (Some x) some is traced =
    let it = traced some in
    subst (λ (t : List ℕ). AreTraced before (Some bench.kept) t) (sym (is it.objects it.holds)) it.told

-- entries that were not added have no objects
pub no_objects : (before : ℕ) (kept : Kept Global) → length kept.history ≤ before → AreTraced before (Some kept) []
no_objects before kept past =
    let none : drop before kept.history ≡ [] = drop_all before kept.history past in
    subst (λ (es : List (Entry Global)). AreTold traces kept.config (take before kept.history) es []) (sym none) refl

have_objects : (before : ℕ) (bench : Bench) (t : Bool) → nat_lt before (length bench.kept.history) ≡ t → IsTracedIn before (Some bench)
    → (objects : List ℕ) × AreTraced before (Some bench.kept) objects
have_objects before bench true is traced = let it = traced (grind (arith, nat_tests, is)) in (it.objects, it.told)
have_objects before bench false is traced = ([], no_objects before bench.kept (grind (arith, nat_tests, is)))

are_traced : (before : ℕ) (bench : Option Bench) → IsTracedIn before bench → (objects : List ℕ) × AreTraced before (kept_in bench) objects
are_traced before None traced = ([], refl)
are_traced before (Some bench) traced = have_objects before bench (nat_lt before (length bench.kept.history)) refl traced

-- in JSON entries have objects, even where the trace lacks one
pub objects_by : (form : Form) (before : ℕ) (bench : Option Bench) → (form ≡ Json → IsTracedIn before bench) → (objects : List ℕ) × (form ≡ Json → AreTraced before (kept_in bench) objects)
objects_by Text before bench traced = ([], λ same. absurd (cc))
objects_by Json before bench traced = let are = are_traced before bench (traced refl) in (are.0, λ same. are.1)
