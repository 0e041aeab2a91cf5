-- What each reply of the flat machine tells of its event.
use Rattle.std.proofs.Common.{◌≡◌, ℕ, zero, suc, ◌+◌, ◌<◌, ◌≤◌, length, ◌/◌, ◌^◌, ◌&&◌, Bool, true, false, cond, not, List, [], ◌∷◌, Option}
use Rattle.std.proofs.Common.{Some, None, is_some, nat_le, refl, sym, ap, subst, ◌∙◌, arith}
use Rattle.std.proofs.Common.{leb-false, Contains}
use Rattle.std.proofs.Math.Nat.{mod-lt}
use Rattle.std.proofs.lemmas.Bool.{and_parts, or_parts}
use Rattle.hv_abi.specs.CallRow.{row_of}
use Rattle.hv_abi.specs.Check.{call_of}
use Rattle.hv_abi.specs.declared.call_kind.CallKind.{CallKind}
use Rattle.hv_abi.specs.declared.frame.Frame.{Frame}
use Rattle.hv_abi.specs.declared.status.Status.{Status}
use Rattle.hv_calls.specs.Params.{parameters}
use Rattle.hv_calls.specs.declared.call.Call.{Call}
use Rattle.hv_calls.specs.declared.call.Call.TheVariants.{CreatePartition, InitializePartition, FinalizePartition, DeletePartition, GetPartitionProperty, SetPartitionProperty, GetPartitionId}
use Rattle.hv_calls.specs.declared.call.Call.TheVariants.{GetNextChildPartition, DepositMemory, WithdrawMemory, GetMemoryBalance, CreateVp, DeleteVp, GetVpRegisters, SetVpRegisters, CreatePort}
use Rattle.hv_calls.specs.declared.call.Call.TheVariants.{DeletePort, ConnectPort, DisconnectPort, PostMessage, SignalEvent}
use Rattle.hv_defs.specs.Bits.{bits}
use Rattle.hv_policy.specs.Answer.{is_done, output, output_of}
use Rattle.hv_policy.specs.Call.{call_event}
use Rattle.hv_policy.specs.Flat.{Flat}
use Rattle.hv_policy.specs.Needs.{charge_of, needs_of, target_of}
use Rattle.hv_policy.specs.Next.{GoesOn}
use Rattle.hv_policy.specs.Result.{HasResult}
use Rattle.hv_policy.specs.Rule.{rule_status}
use Rattle.hv_policy.specs.Rules.{Ask, action_asks, asked, asks, call_asks, first_unmet, hypercall_asks, rules_of, unmet}
use Rattle.hv_policy.specs.Step.{IsAsked, NamesAsked, denied_with, step, step_by}
use Rattle.hv_policy.specs.declared.event.Action.{Action}
use Rattle.hv_policy.specs.declared.event.Action.TheVariants.{Hypercall}
use Rattle.hv_policy.specs.declared.event.Caller.{Caller}
use Rattle.hv_policy.specs.declared.event.Event.{Event}
use Rattle.hv_policy.specs.declared.need.States.{States}
use Rattle.hv_policy.specs.declared.reply.Reply.TheVariants.{Served, More}
use Rattle.hv_policy.specs.declared.rule.Rule.{Rule}
use Rattle.hv_policy.specs.declared.rule.Rule.TheVariants.{CallerExists, CallerActive, CallerVpExists, CallCode, InputValue, Alignment, Parameters, Privilege, TargetExists, TargetScope}

-- an unmet rule is one of the event's rules
found_in : (asks : List Ask) (rule : Rule) → first_unmet asks ≡ Some rule → Contains (rules_of asks) rule
found_in [] rule e = cc
found_in (ask ∷ asks) rule e = by ask.1 e (found_in asks rule)
  where
    by : (met : Bool) → cond met (first_unmet asks) (Some ask.0) ≡ Some rule → (first_unmet asks ≡ Some rule → Contains (rules_of asks) rule) → Contains (ask.0 ∷ rules_of asks) rule
    by true e rest = let (i, lt, is) = rest e in (suc i, omega arith, is)
    by false e rest = let is : ask.0 ≡ rule = cc in (zero, omega arith, is)

-- and has what all of them have
abbrev all_have : (Rule → Bool) → List Ask → Bool
all_have test [] = true
all_have test (ask ∷ asks) = test ask.0 && all_have test asks

found_has : (test : Rule → Bool) (asks : List Ask) (rule : Rule) → all_have test asks ≡ true → first_unmet asks ≡ Some rule → test rule ≡ true
found_has test [] rule all e = cc
found_has test (ask ∷ asks) rule all e = by ask.1 e (found_has test asks rule both.1)
  where
    both : (test ask.0 ≡ true) × (all_have test asks ≡ true)
    both = and_parts (test ask.0) (all_have test asks) all

    by : (met : Bool) → cond met (first_unmet asks) (Some ask.0) ≡ Some rule → (first_unmet asks ≡ Some rule → test rule ≡ true) → test rule ≡ true
    by true e rest = rest e
    by false e rest = let is : ask.0 ≡ rule = cc in sym (ap test is) ∙ both.0

abbrev has_status : Option CallKind → Rule → Bool
has_status k rule = is_some (rule_status rule k)

module _ (f : Flat) (caller target : ℕ) (states : States) (charge : ℕ) where
  -- the rules of a call have a status
  call_status : (k : Option CallKind) (call : Call) → all_have (has_status k) (call_asks f caller target states charge call) ≡ true
  call_status k (CreatePartition flags) = refl
  call_status k call = refl

  -- and the call alone decides which they are
  call_alike : (g : Flat) (call : Call) → rules_of (call_asks f caller target states charge call) ≡ rules_of (call_asks g caller target states charge call)
  call_alike g (CreatePartition flags) = refl
  call_alike g call = refl

module _ {A : Type 0} (f : Flat) where
  hypercall_status : (caller : ℕ) (frame : Frame A) (named k : Option CallKind) → all_have (has_status named) (hypercall_asks f caller frame k) ≡ true
  hypercall_status caller frame named None = refl
  hypercall_status caller frame named (Some kind) =
      let call : Call = parameters kind frame in
      call_status f caller (target_of call caller) (needs_of call).states (charge_of call) named call

  hypercall_alike : (g : Flat) (caller : ℕ) (frame : Frame A) (k : Option CallKind) → rules_of (hypercall_asks f caller frame k) ≡ rules_of (hypercall_asks g caller frame k)
  hypercall_alike g caller frame None = refl
  hypercall_alike g caller frame (Some kind) =
      let call : Call = parameters kind frame in
      ap (λ rules. CallCode ∷ InputValue ∷ Alignment ∷ Parameters ∷ Privilege ∷ TargetExists ∷ TargetScope ∷ rules)
      (call_alike f caller (target_of call caller) (needs_of call).states (charge_of call) g call)

  action_alike : (g : Flat) (caller : ℕ) (what : Action A) → rules_of (action_asks f caller what) ≡ rules_of (action_asks g caller what)
  action_alike g caller (Hypercall frame) = hypercall_alike g caller frame (call_of frame)
  action_alike g caller what = refl

  -- the event alone decides its rules
  pub asked_alike : (g : Flat) (e : Event A) → asked f e ≡ asked g e
  asked_alike g e = ap (λ rules. CallerExists ∷ CallerActive ∷ CallerVpExists ∷ rules) (action_alike g e.by.part e.what)

  -- so an unmet one is among them, whatever the state
  refused : (e : Event A) (rule : Rule) → unmet f e ≡ Some rule → IsAsked e rule
  refused e rule is g = subst (λ rules. Contains rules rule) (asked_alike g e) (found_in (asks f e) rule is)

module _ {A : Type 0} (f : Flat) (caller : Caller) (frame : Frame A) where
  abbrev event : Event A
  event = record { by = caller; what = Hypercall frame }

  denied : (rule : Rule) (status : Option Status) → is_some status ≡ true → HasResult (denied_with frame rule status)
  denied rule None h = cc
  denied rule (Some status) h = tt

  more : (k : Option CallKind) → is_done frame k ≡ false → bits frame.rcx 48 12 + 1 < 4096
  more None h = cc
  more (Some k) h =
      let last = or_parts (not (row_of k).rep) (nat_le (bits frame.rcx 32 12) (bits frame.rcx 48 12 + 1)) h in
      let above = leb-false (bits frame.rcx 32 12) (bits frame.rcx 48 12 + 1) last.1 in
      let small : bits frame.rcx 32 12 < 2 ^ 12 = mod-lt (frame.rcx / 2 ^ 32) (omega arith) in
      omega arith

  served : (b : Bool) → is_done frame (call_of frame) ≡ b → (bytes : List ℕ) → HasResult (cond b (Served bytes) (More (bits frame.rcx 48 12 + 1) bytes))
  served true is bytes = tt
  served false is bytes = more (call_of frame) is

  -- each reply to a call has a result value
  pub has_result : HasResult (step f event).1
  has_result = by (unmet f event) refl
    where
      by : (rule : Option Rule) → unmet f event ≡ rule → HasResult (step_by f event rule).1
      by None is = served (is_done frame (call_of frame)) refl _
      by (Some rule) is = denied rule (rule_status rule (call_of frame)) (status rule is)
        where
          status : (rule : Rule) → unmet f event ≡ Some rule → is_some (rule_status rule (call_of frame)) ≡ true
          status rule is = found_has (has_status (call_of frame)) (asks f event) rule (hypercall_status f caller.part frame (call_of frame) (call_of frame)) is

-- the rule of a refusal is one of the event's rules
module _ {A : Type 0} (f : Flat) where
  done : (e : Event A) (b : Bool) (bytes : List ℕ) (next : ℕ) → NamesAsked e (cond b (Served bytes) (More next bytes))
  done e true bytes next = tt
  done e false bytes next = tt

  named : (e : Event A) (frame : Frame A) (rule : Rule) (status : Option Status) → IsAsked e rule → NamesAsked e (denied_with frame rule status)
  named e frame rule None is = is
  named e frame rule (Some status) is = is

  by_action : (by : Caller) (what : Action A) (rule : Option Rule) → unmet f (record { by = by; what = what }) ≡ rule → NamesAsked (record { by = by; what = what })
      (step_by f (record { by = by; what = what }) rule).1
  by_action by (Hypercall frame) None is = done (call_event by frame) (is_done frame (call_of frame)) _ _
  by_action by (Hypercall frame) (Some rule) is = named (call_event by frame) frame rule (rule_status rule (call_of frame)) (refused f (call_event by frame) rule is)
  by_action by what None is = tt
  by_action by what (Some rule) is = refused f (record { by = by; what = what }) rule is

  pub names_asked : (e : Event A) → NamesAsked e (step f e).1
  names_asked e = by_action e.by e.what (unmet f e) refl

-- a call continues with the element after the one that was served
module _ {A : Type 0} (f : Flat) where
  next_of : (by : Caller) (frame : Frame A) (b : Bool) → is_done frame (call_of frame) ≡ b → (bytes : List ℕ) → GoesOn (Hypercall frame) (cond b (Served bytes) (More (bits frame.rcx 48 12 + 1) bytes))
  next_of by frame true is bytes = tt
  next_of by frame false is bytes = (refl, more f by frame (call_of frame) is)

  ended_by : (frame : Frame A) (rule : Rule) (status : Option Status) → GoesOn (Hypercall frame) (denied_with frame rule status)
  ended_by frame rule None = tt
  ended_by frame rule (Some status) = tt

  went_on : (by : Caller) (what : Action A) (rule : Option Rule) → GoesOn what (step_by f (record { by = by; what = what }) rule).1
  went_on by (Hypercall frame) None = next_of by frame (is_done frame (call_of frame)) refl _
  went_on by (Hypercall frame) (Some rule) = ended_by frame rule (rule_status rule (call_of frame))
  went_on by what None = tt
  went_on by what (Some rule) = tt

  pub goes_on : (e : Event A) → GoesOn e.what (step f e).1
  goes_on e = went_on e.by e.what (unmet f e)

-- the output of a call has at most 16 bytes
few_output : (call : Call) (f : Flat) (caller target : ℕ) → length (output call f caller target) ≤ 16
few_output (CreatePartition flags) f caller target = omega arith
few_output (InitializePartition partition) f caller target = omega arith
few_output (FinalizePartition partition) f caller target = omega arith
few_output (DeletePartition partition) f caller target = omega arith
few_output (GetPartitionProperty partition code) f caller target = omega arith
few_output (SetPartitionProperty partition code value) f caller target = omega arith
few_output GetPartitionId f caller target = omega arith
few_output (GetNextChildPartition partition previous) f caller target = omega arith
few_output (DepositMemory partition page) f caller target = omega arith
few_output (WithdrawMemory partition) f caller target = omega arith
few_output (GetMemoryBalance partition) f caller target = omega arith
few_output (CreateVp partition vp) f caller target = omega arith
few_output (DeleteVp partition vp) f caller target = omega arith
few_output (GetVpRegisters partition vp name) f caller target = omega arith
few_output (SetVpRegisters partition vp name value) f caller target = omega arith
few_output (CreatePort partition port peer kind sint vp base count) f caller target = omega arith
few_output (DeletePort partition port) f caller target = omega arith
few_output (ConnectPort partition connection home port kind) f caller target = omega arith
few_output (DisconnectPort partition connection) f caller target = omega arith
few_output (PostMessage connection type payload) f caller target = omega arith
few_output (SignalEvent connection flag) f caller target = omega arith

-- so has that of a call of a frame
pub few_output_of : (f : Flat) (caller : ℕ) (call : Option Call) → length (output_of f caller call) ≤ 16
few_output_of f caller None = omega arith
few_output_of f caller (Some call) = few_output call f caller (target_of call caller)
