-- What a frame's check tells of its rules.
use Rattle.std.proofs.Common.{◌≡◌, ℕ, Bool, true, false, cond, not, Option, Some, None, refl}
use Rattle.hv_abi.specs.declared.call_kind.CallKind.{CallKind}
use Rattle.hv_abi.specs.declared.frame.AbiFault.{AbiFault}
use Rattle.hv_abi.specs.declared.frame.AbiFault.TheVariants.{UnknownCode, Input}
use Rattle.hv_abi.specs.declared.frame.AbiFault.TheVariants as fault
use Rattle.hv_abi.specs.declared.frame.Frame.{Frame}
use Rattle.hv_abi.specs.Check.{call_of, is_input_valid, are_lists_placed, fault_at, first_fault}
use Rattle.hv_abi.specs.CallRow.{row_of}
use Rattle.hv_policy.specs.Flat.{Flat}
use Rattle.hv_policy.specs.Rules.{first_unmet, hypercall_asks}
use Rattle.hv_policy.specs.declared.rule.Rule.{Rule}
use Rattle.hv_policy.specs.declared.rule.Rule.TheVariants.{CallCode, InputValue, Alignment}

-- the rule that a fault of a frame breaks
abbrev pub rule_of : AbiFault → Rule
rule_of UnknownCode = CallCode
rule_of Input = InputValue
rule_of fault.Alignment = Alignment

module _ {A : Type 0} (f : Flat) (caller : ℕ) (frame : Frame A) where
  faulty : (c : Option CallKind) → (wrong : AbiFault) → fault_at frame c ≡ Some wrong → first_unmet (hypercall_asks f caller frame c) ≡ Some (rule_of wrong)
  faulty None UnknownCode h = refl
  faulty None Input h = cc
  faulty None fault.Alignment h = cc
  faulty (Some kind) wrong h = by _ (is_input_valid (row_of kind) frame.rcx) (are_lists_placed (row_of kind) frame) wrong h
    where
      by : (rest : Option Rule) (valid placed : Bool) (wrong : AbiFault) → cond (not valid) (Some Input) (cond (not placed) (Some fault.Alignment) None) ≡ Some wrong → cond valid
          (cond placed rest (Some Alignment)) (Some InputValue) ≡ Some (rule_of wrong)
      by rest false placed UnknownCode h = cc
      by rest false placed Input h = refl
      by rest false placed fault.Alignment h = cc
      by rest true false UnknownCode h = cc
      by rest true false Input h = cc
      by rest true false fault.Alignment h = refl
      by rest true true wrong h = cc

  -- a frame is refused by the rule that its first fault breaks
  pub unmet_fault : (wrong : AbiFault) → first_fault frame ≡ Some wrong → first_unmet (hypercall_asks f caller frame (call_of frame)) ≡ Some (rule_of wrong)
  unmet_fault wrong h = faulty (call_of frame) wrong h
