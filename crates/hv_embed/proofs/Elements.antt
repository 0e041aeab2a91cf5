-- Where the elements of a call have come to after one more, and what their effects say.
use Rattle.std.proofs.Common.{Bool, true, false, if◌then◌else◌, Option, Some, None}
use Rattle.std.proofs.Common.{◌<◌, ◌≡◌, ℕ, ◌+◌, ◌≤◌, List, [], ◌++◌, length, take, refl, sym, subst, ap, ◌∙◌, arith, add-one, below_more, length-take, suc, Global}
use Rattle.hv_abi.specs.declared.frame.Frame.{Frame}
use Rattle.hv_defs.specs.declared.sizes.TheConstants.{REPS_END}
use Rattle.hv_policy.specs.Parts.{next_in}
use Rattle.hv_history.specs.Run.{IsMore, restart}
use Rattle.hv_machine.specs.IsFlat.{IsFlat}
use Rattle.hv_machine.specs.State.{State}
use Rattle.hv_policy.specs.Call.{call_event}
use Rattle.hv_policy.specs.Flat.{Flat}
use Rattle.hv_policy.specs.Step.{step}
use Rattle.hv_policy.specs.declared.event.Action.TheVariants.{Hypercall}
use Rattle.hv_policy.specs.declared.event.Caller.{Caller}
use Rattle.hv_policy.specs.declared.reply.Reply.{Reply}
use Rattle.hv_embed.specs.Answer.{IsAnswer}
use Rattle.hv_embed.specs.Effect.{is_quiet_kind, IsCalm, IsEffect, IsShown}
use Rattle.hv_embed.specs.Run.{HasRun, IsAt, IsAtMore, Ran, first, on, output_in, run, IsLastEffect, flat_before}
use Rattle.hv_embed.specs.Taken.{MayLackMemory, is_used_up}
use Rattle.hv_embed.specs.declared.layout.HvReply.{HvReply}
use Rattle.hv_embed.specs.declared.layout.TheConstants.{ELEMENT_OUTPUT}
use Rattle.hv_abi.specs.Check.{call_of}
use Rattle.hv_abi.specs.declared.status.Status.{Status}
use Rattle.hv_defs.specs.Bits.{bits}
use Rattle.hv_admit.specs.Effect.{Tells}
use Rattle.hv_admit.specs.declared.effect.Effect.{Effect}
use Rattle.hv_admit.specs.declared.effect.Effect.TheVariants as variant
use Rattle.hv_invariants.proofs.Replies.{few_output_of}
use Rattle.hv_machine.specs.MachineInvariant.{MachineInvariant}
use Rattle.hv_policy.specs.Answer.{is_done, output_of}
use Rattle.hv_policy.specs.Call.{called}
use Rattle.hv_policy.specs.Rule.{rule_status}
use Rattle.hv_policy.specs.Rules.{unmet}
use Rattle.hv_policy.specs.Step.{denied_with, step_by}
use Rattle.hv_policy.specs.declared.reply.Reply.TheVariants.{Served, More}
use Rattle.hv_policy.specs.declared.rule.Rule.{Rule}
use Rattle.hv_embed.specs.declared.layout.HvEffect.{HvEffect}

module _ (by : Caller) (m new : State) (last next : Frame Global) (told answer : Reply)
    (replies : (f : Flat) → IsFlat m f → answer ≡ (step f (call_event by next)).1) (states : (f : Flat) → IsFlat m f → IsFlat new (step f (call_event by next)).0) where
  pub on_at : (ran : Ran) (out longer : List ℕ) → next ≡ restart last (next_in told) → longer ≡ out ++ output_in answer → IsAt ran m last told out → IsAt (on by ran) new next answer longer
  on_at ran out longer is put at =
      let same : next ≡ restart ran.frame (next_in ran.reply) = is ∙ ap (λ (f : Frame Global). restart f (next_in told)) at.frame ∙ ap (λ (r : Reply). restart ran.frame (next_in r)) at.reply in
      let reply : answer ≡ (step ran.flat (call_event by (restart ran.frame (next_in ran.reply)))).1 =
      subst (λ (f : Frame Global). answer ≡ (step ran.flat (call_event by f)).1) same (replies ran.flat at.state) in
      record {
        state = subst (λ (f : Frame Global). IsFlat new (step ran.flat (call_event by f)).0) same (states ran.flat at.state);
        frame = same;
        reply = reply;
        bytes = put ∙ ap (λ (bytes : List ℕ). bytes ++ output_in answer) at.bytes ∙ ap (λ (r : Reply). ran.bytes ++ output_in r) reply;
      }

  pub one_more : (n : ℕ) (ran : Ran) (out longer : List ℕ) → next ≡ restart last (next_in told) → IsMore told → longer ≡ out ++ output_in answer → IsAtMore n by ran m last told out
      → IsAtMore (n + 1) by ran new next answer longer
  one_more n ran out longer is more put at = record {
    goes = below_more (λ k. IsMore (run k by ran).reply) n at.goes (subst IsMore at.stands.reply more);
    stands = subst (λ k. IsAt (run k by ran) new next answer longer) (sym (add-one n)) (on_at (run n by ran) out longer is put at.stands);
  }

-- where they have come to after the first
pub at_first : (f : Flat) (by : Caller) (frame : Frame Global) (m : State) (answer : Reply) (out : List ℕ) → answer ≡ (step f (call_event by frame)).1 → IsFlat m (step f (call_event by frame)).0 → out
    ≡ [] ++ output_in answer
    → IsAt (first f by frame) m frame answer out
at_first f by frame m answer out reply state put = record { state = state; frame = refl; reply = reply; bytes = put ∙ ap (λ (r : Reply). [] ++ output_in r) reply }

-- what C is answered once no more are taken
pub has_run : (by : Caller) (start : Ran) (most before n : ℕ) (m : State) (last : Frame Global) (told : Reply) (answer : HvReply) (outputs : List ℕ) (at : ℕ) → IsAtMore n by start m last told
    (take at outputs) → at ≤ length outputs
    → IsAnswer answer (Hypercall last) told
    → (IsMore told → is_quiet_kind answer.effect.kind ≡ true → at + ELEMENT_OUTPUT ≤ length outputs → is_used_up m.served (before + (n + 1)) ≡ false → n < REPS_END → n + 1 < most
    → MayLackMemory m by (restart last (next_in told)))
    → HasRun by start most before m answer outputs (record { events = n + 1; output_len = at })
has_run by start most before n m last told answer outputs at is within says stopped =
    let now = is.stands in
    record {
      more = n;
      events = refl;
      goes = is.goes;
      state = now.state;
      answer =
          subst (λ (r : Reply). IsAnswer answer (Hypercall (run n by start).frame) r) now.reply
          (subst (λ (f : Frame Global). IsAnswer answer (Hypercall f) told) now.frame says);
      len = omega (arith, length-take at outputs, ap length now.bytes);
      bytes = now.bytes;
      stopped = λ more quiet left free few bounded.
          subst (MayLackMemory m by) (ap (λ (f : Frame Global). restart f (next_in told)) now.frame ∙ ap
          (λ (r : Reply). restart (run n by start).frame (next_in r)) now.reply)
          (stopped (subst IsMore (sym now.reply) more) quiet (omega arith) free few bounded);
    }

-- the output of an element has at most 16 bytes
few_bytes : (f : Flat) (by : Caller) (frame : Frame Global) → length (output_in (step f (call_event by frame)).1) ≤ ELEMENT_OUTPUT
few_bytes f by frame = of_step (unmet f (call_event by frame))
  where
    bytes : List ℕ
    bytes = output_of f by.part (called frame)

    served : (last : Bool) → length (output_in (if last then Served bytes else More (bits frame.rcx 48 12 + 1) bytes)) ≤ ELEMENT_OUTPUT
    served true = few_output_of f by.part (called frame)
    served false = few_output_of f by.part (called frame)

    refused : (rule : Rule) (status : Option Status) → length (output_in (denied_with frame rule status)) ≤ ELEMENT_OUTPUT
    refused rule None = omega arith
    refused rule (Some status) = omega arith

    of_step : (rule : Option Rule) → length (output_in (step_by f (call_event by frame) rule).1) ≤ ELEMENT_OUTPUT
    of_step None = served (is_done frame (call_of frame))
    of_step (Some rule) = refused rule (rule_status rule (call_of frame))

pub few_told : (m : State) (by : Caller) (frame : Frame Global) (reply : Reply) → MachineInvariant m → ((f : Flat) → IsFlat m f → reply ≡ (step f (call_event by frame)).1) → length (output_in reply) ≤
    ELEMENT_OUTPUT
few_told m by frame reply lasting told = subst (λ (r : Reply). length (output_in r) ≤ ELEMENT_OUTPUT) (sym (told lasting.flat lasting.stands)) (few_bytes lasting.flat by frame)

-- an effect that names at most a page leaves messages, event flags and pending vectors as they were
pub quiet_calm : (told : HvEffect) (f g : Flat) → IsEffect told f g → is_quiet_kind told.kind ≡ true → IsCalm f g
quiet_calm told f g is quiet = by is.effect is.shown is.tells
  where
    loud : (kind : ℕ) → is_quiet_kind kind ≡ false → told.kind ≡ kind → ⊥
    loud kind off same = let clash : false ≡ true = sym off ∙ sym (ap is_quiet_kind same) ∙ quiet in cc

    by : (e : Effect) → IsShown e told → Tells e f g → IsCalm f g
    by variant.Nothing shown t = record {
      messages = λ at. t.unnamed.messages at refl;
      flags = λ at flag. t.unnamed.flags at flag refl;
      vectors = λ part vp vector. t.unnamed.vectors part vp vector refl;
    }
    by (variant.Synic s) shown t = absurd (loud 1 refl shown.kind)
    by (variant.Page page owner pooled) shown t = record {
      messages = λ at. t.unnamed.messages at refl;
      flags = λ at flag. t.unnamed.flags at flag refl;
      vectors = λ part vp vector. t.unnamed.vectors part vp vector refl;
    }
    by (variant.Pages from to) shown t = absurd (loud 3 refl shown.0)
    by (variant.Processor part vp) shown t = absurd (loud 4 refl shown.0)
    by (variant.Partition part) shown t = absurd (loud 5 refl shown.0)

pub calm_same : (f : Flat) → IsCalm f f
calm_same f = record { messages = λ at. refl; flags = λ at flag. refl; vectors = λ part vp vector. refl }

calm_on : (f g h : Flat) → IsCalm f g → IsCalm g h → IsCalm f h
calm_on f g h first last = record {
  messages = λ at. last.messages at ∙ first.messages at;
  flags = λ at flag. last.flags at flag ∙ first.flags at flag;
  vectors = λ part vp vector. last.vectors part vp vector ∙ first.vectors part vp vector;
}

-- the effect of the element with which a call continues
pub effect_on : (by : Caller) (m : State) (last next : Frame Global) (reply : Reply) (out : List ℕ) (ran : Ran) (e : Effect) (told : HvEffect) → IsAt ran m last reply out → next ≡ restart last
    (next_in reply) → IsShown e told
    → ((f : Flat) → IsFlat m f → Tells e f (step f (call_event by next)).0) → IsEffect told ran.flat (on by ran).flat
effect_on by m last next reply out ran e told at is shown tells =
    let same : next ≡ restart ran.frame (next_in ran.reply) = is ∙ ap (λ (f : Frame Global). restart f (next_in reply)) at.frame ∙ ap (λ (r : Reply). restart ran.frame (next_in r)) at.reply in
    record {
      effect = e;
      shown = shown;
      tells = subst (λ (f : Frame Global). Tells e ran.flat (step ran.flat (call_event by f)).0) same (tells ran.flat at.state);
    }

-- one more element, after one whose effect names at most a page
pub one_more_effect : (n : ℕ) (f : Flat) (by : Caller) (ran : Ran) (old new : HvEffect) → IsLastEffect n f by ran old → is_quiet_kind old.kind ≡ true → IsEffect new (run n by ran).flat
    (run (suc n) by ran).flat → IsLastEffect (n + 1) f by ran new
one_more_effect n f by ran old new was quiet now =
    subst (λ k. IsLastEffect k f by ran new) (sym (add-one n))
    (record { last = now; calm = calm_on f (flat_before n f by ran) (run n by ran).flat was.calm (quiet_calm old (flat_before n f by ran) (run n by ran).flat was.last quiet) })
