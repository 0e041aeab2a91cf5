-- Two states that agree for an event give it the same reply.
use Rattle.std.proofs.Common.{◌≡◌, ◌++◌, Bool, true, false, nat_lt, length, [], ◌∷◌, Option, Some, None, find, is_some, refl, sym, ap, ◌∙◌, option_map}
use Rattle.hv_abi.specs.Check.{call_of}
use Rattle.hv_abi.specs.declared.call_kind.CallKind.{CallKind}
use Rattle.hv_abi.specs.declared.frame.Frame.{Frame}
use Rattle.hv_calls.specs.Params.{parameters}
use Rattle.hv_calls.specs.declared.call.Call.{Call}
use Rattle.hv_calls.specs.declared.call.Call.TheVariants.{CreatePartition}
use Rattle.hv_invariants.proofs.MetRules.{is_served}
use Rattle.hv_policy.specs.Answer.{answer, output_of, reply_with}
use Rattle.hv_policy.specs.Call.{call_event, called}
use Rattle.hv_policy.specs.Flat.{Flat}
use Rattle.hv_policy.specs.Mail.{is_shown, row_bytes}
use Rattle.hv_policy.specs.Met.{is_active, test_row}
use Rattle.hv_policy.specs.Needs.{needs_of, target_of}
use Rattle.hv_policy.specs.Rules.{caller_asks, first_unmet, frame_asks, further_asks, hypercall_asks, target_asks, unmet}
use Rattle.hv_policy.specs.Step.{step}
use Rattle.hv_policy.specs.declared.event.Action.{Action}
use Rattle.hv_policy.specs.declared.event.Action.TheVariants.{Hypercall}
use Rattle.hv_policy.specs.declared.event.Caller.{Caller}
use Rattle.hv_policy.specs.declared.event.Event.{Event}
use Rattle.hv_policy.specs.declared.rule.Rule.TheVariants.{CallerExists, CallerActive, CallerVpExists}
use Rattle.hv_security.proofs.PartitionReads.{access_alike}
use Rattle.hv_security.proofs.AgreedReads.{own, there_alike}
use Rattle.hv_security.proofs.CallerAndChildren.{kin_relative}
use Rattle.hv_security.proofs.SameReads.{CallAlike, MakesAlike, OwnAlike, behind, output_alike, reply_alike, stops}
use Rattle.hv_security.proofs.AgreedRules.{further_alike, reads, targets_alike}
use Rattle.hv_security.specs.Agreed.{Agrees, LowEquivalent, AgreesOnAction, AgreesOnCalled, AgreesOnNamed}
use Rattle.hv_security.specs.Same.{is_relative}

module _ (by : Caller) (f g : Flat) (a : Agrees by.part f g) where
  -- P1 to P3
  callers_alike : caller_asks f by ≡ caller_asks g by
  callers_alike = λ i.
      (CallerExists, there_alike by.part f g a by.part i) ∷ (CallerActive, ap (test_row (λ row. is_active row.life)) (own by.part f g a).part i)
      ∷ (CallerVpExists, ap is_some ((own by.part f g a).vps by.vp) i) ∷ []

  -- what an access reads
  own_alike : OwnAlike by f g
  own_alike = record {
    callers = callers_alike;
    accessed = access_alike f g by.part (own by.part f g a).part;
    vp = (own by.part f g a).vps by.vp;
    slots = λ sint. ap (λ rows. row_bytes (find is_shown rows) (nat_lt 1 (length rows))) ((own by.part f g a).mail by.vp sint);
  }

  makes : (call : Call) → MakesAlike call f g
  makes (CreatePartition flags) = a.next
  makes call = tt

  -- P8 to P24: all are alike where the target is a relative, and where it isn't P10 is met in neither
  calls_alike : (call : Call) → AgreesOnNamed call by.part f g → first_unmet (target_asks f by.part call ++ further_asks f by.part call) ≡ first_unmet
      (target_asks g by.part call ++ further_asks g by.part call)
  calls_alike call n = at (is_relative f by.part (target_of call by.part)) refl
    where
      at : (b : Bool) → is_relative f by.part (target_of call by.part) ≡ b → first_unmet (target_asks f by.part call ++ further_asks f by.part call) ≡ first_unmet
          (target_asks g by.part call ++ further_asks g by.part call)
      at true relative =
          behind (target_asks f by.part call) (further_asks f by.part call) (further_asks g by.part call) (further_alike by.part f g a call (a.relatives (target_of call by.part) relative) n)
          ∙ ap (λ asks. first_unmet (asks ++ further_asks g by.part call)) (targets_alike by.part f g a call)
      at false far =
          stops (target_asks f by.part call) (further_asks f by.part call) (further_asks g by.part call)
          (λ met. (let relative = kin_relative (needs_of call).kin f by.part (target_of call by.part) met.1.1.0 in let clash = sym relative ∙ far in cc))
          ∙ ap (λ asks. first_unmet (asks ++ further_asks g by.part call)) (targets_alike by.part f g a call)

  module _ {A : Type 0} (frame : Frame A) where
    hypercalls_alike : (k : Option CallKind) → AgreesOnCalled (option_map (λ kind. parameters kind frame) k) by.part f g → first_unmet (hypercall_asks f by.part frame k) ≡ first_unmet
        (hypercall_asks g by.part frame k)
    hypercalls_alike None n = refl
    hypercalls_alike (Some kind) n =
        let call = parameters kind frame in
        behind (frame_asks kind frame) (target_asks f by.part call ++ further_asks f by.part call) (target_asks g by.part call ++ further_asks g by.part call) (calls_alike call n)

    -- a served call answers alike: its target is a relative
    answer_call : AgreesOnCalled (called frame) by.part f g → unmet f (call_event by frame) ≡ None → answer f (call_event by frame) ≡ answer g (call_event by frame)
    answer_call n met =
        let s = is_served f by frame met in
        let relative = kin_relative (needs_of s.call).kin f by.part (target_of s.call by.part) s.granted.target.1.1.0 in
        ap (reply_with frame)
        (ap (output_of f by.part) s.called
        ∙ output_alike by.part (target_of s.call by.part) f g (reads by.part f g a (target_of s.call by.part) (a.relatives (target_of s.call by.part) relative)) s.call (makes s.call)
        ∙ sym (ap (output_of g by.part) s.called))

  calls : {A : Type 0} (what : Action A) → AgreesOnAction what by.part f g → CallAlike by f g what
  calls (Hypercall frame) n = (hypercalls_alike frame (call_of frame) n, answer_call frame n)
  calls what n = tt

pub same_reply : {A : Type 0} (f g : Flat) (e : Event A) → LowEquivalent e f g → (step f e).1 ≡ (step g e).1
same_reply f g e a = reply_alike e.by f g (own_alike e.by f g a.own) e.what (calls e.by f g a.own e.what a.named)
