-- The rules that apply to an event, in order, each with its test. The tests that have names are in `Met`.
use Rattle.std.specs.Prelude.{ℕ, ◌≡◌, true, false, List, [], ◌∷◌, ◌++◌, Option, None, Some}
use Rattle.std.specs.FinMap.{contains_key}
use Rattle.hv_abi.specs.CallRow.{row_of}
use Rattle.hv_abi.specs.Check.{call_of, is_input_valid, are_lists_placed}
use Rattle.hv_abi.specs.declared.call_kind.CallKind.{CallKind}
use Rattle.hv_abi.specs.declared.frame.Frame.{Frame}
use Rattle.hv_calls.specs.Params.{are_parameters_valid, parameters}
use Rattle.hv_calls.specs.declared.call.Call.{Call}
use Rattle.hv_policy.specs.Flat.{Flat}
use Rattle.hv_policy.specs.Met.{has_privilege, is_kin, is_running}
use Rattle.hv_policy.specs.Needs.{charge_of, needs_of, target_of}
use Rattle.hv_policy.specs.declared.event.Action.{Action}
use Rattle.hv_policy.specs.declared.event.Action.TheVariants.{Hypercall}
use Rattle.hv_policy.specs.declared.event.Caller.{Caller}
use Rattle.hv_policy.specs.declared.event.Event.{Event}
use Rattle.hv_policy.specs.declared.need.States.{States}
use Rattle.hv_policy.specs.declared.rule.Rule.{Rule}
use Rattle.hv_policy.specs.declared.rule.Rule.TheVariants.{CallerExists, CallerActive, CallerVpExists}
use Rattle.hv_policy.specs.declared.rule.Rule.TheVariants.{CallCode, InputValue, Alignment, Parameters}
use Rattle.hv_policy.specs.declared.rule.Rule.TheVariants.{Privilege, TargetExists, TargetScope}
use Rattle.hv_policy.specs.calls.{access_policy, policy_of}
pub use Rattle.hv_policy.specs.Ask.{AreMet, Ask, first_unmet, rules_of}

-- P1 to P3, which apply to every event
abbrev pub caller_asks : Flat → Caller → List Ask
caller_asks f by =
    (CallerExists, contains_key f.part by.part)
    ∷ (CallerActive, is_running f by.part)
    ∷ (CallerVpExists, contains_key f.vp (by.part, by.vp)) ∷ []

-- P4 to P7, which look at a call's frame alone. P4 holds, because a call has the code
abbrev pub frame_asks : {A : Type 0} → CallKind → Frame A → List Ask
frame_asks kind frame =
    (CallCode, true)
    ∷ (InputValue, is_input_valid (row_of kind) frame.rcx)
    ∷ (Alignment, are_lists_placed (row_of kind) frame)
    ∷ (Parameters, are_parameters_valid kind frame) ∷ []

-- P8 to P10, which look at the caller's privilege and at the target
abbrev pub target_asks : Flat → ℕ → Call → List Ask
target_asks f caller call =
    (Privilege, has_privilege f caller (needs_of call).privilege)
    ∷ (TargetExists, contains_key f.part (target_of call caller))
    ∷ (TargetScope, is_kin (needs_of call).kin f caller (target_of call caller)) ∷ []

-- P11 to P24 for a call. The table of calls has the states that its target may be in, and the pages that
-- serving it uses
abbrev pub call_asks : Flat → ℕ → ℕ → States → ℕ → Call → List Ask
call_asks f caller target states charge call = (policy_of call).asks f caller target states charge

-- P11 to P24 for a call, with the target, states and charge of its row in the table of calls
abbrev pub further_asks : Flat → ℕ → Call → List Ask
further_asks f caller call = call_asks f caller (target_of call caller) (needs_of call).states
    (charge_of call) call

-- the rules that apply to a hypercall. If no call has the code, P4 alone applies, and fails
abbrev pub hypercall_asks : {A : Type 0} → Flat → ℕ → Frame A → Option CallKind → List Ask
hypercall_asks f caller frame None = (CallCode, false) ∷ []
hypercall_asks f caller frame (Some kind) =
    frame_asks kind frame ++ (target_asks f caller (parameters kind frame) ++ further_asks f caller
    (parameters kind frame))

-- the rules that apply to an event beyond P3
abbrev pub action_asks : {A : Type 0} → Flat → ℕ → Action A → List Ask
action_asks f caller (Hypercall frame) = hypercall_asks f caller frame (call_of frame)
action_asks f caller access = (access_policy access).asks f caller

-- all rules that apply to an event
abbrev pub asks : {A : Type 0} → Flat → Event A → List Ask
asks f event = caller_asks f event.by ++ action_asks f event.by.part event.what

-- these rules without their tests. The event alone decides which rules apply
abbrev pub asked : {A : Type 0} → Flat → Event A → List Rule
asked f event = rules_of (asks f event)

-- the first of them that fails, if there is one
abbrev pub unmet : {A : Type 0} → Flat → Event A → Option Rule
unmet f event = first_unmet (asks f event)

-- the precondition of serving a call: its caller is Active, and every rule from P8 on holds
pub record IsAllowed (f : Flat) (caller : ℕ) (call : Call) : Type 0 where
  pub active : is_running f caller ≡ true
  pub target : AreMet (target_asks f caller call)
  pub further : AreMet (further_asks f caller call)
