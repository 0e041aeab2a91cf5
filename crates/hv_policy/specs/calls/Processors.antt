-- Virtual processors and their registers.
use Rattle.std.specs.Prelude.{ℕ, true, false, is_ok, is_some, [], ◌∷◌, ◌++◌, Some, None}
use Rattle.std.specs.FinMap.{contains_key, get, insert, remove}
use Rattle.std.specs.Int.{w64, to_le_bytes}
use Rattle.hv_abi.specs.declared.call_kind.TheConstants.{CREATE_VP, DELETE_VP, GET_VP_REGISTERS}
use Rattle.hv_abi.specs.declared.call_kind.TheConstants.{SET_VP_REGISTERS}
use Rattle.hv_defs.specs.Registers as register
use Rattle.hv_defs.specs.declared.sizes.TheConstants.{VP_CHARGE}
use Rattle.hv_policy.specs.Boot.{start_vp}
use Rattle.hv_policy.specs.Change.{write_register}
use Rattle.hv_policy.specs.Mail.{mail_but_at}
use Rattle.hv_policy.specs.Met.{has_available, is_in, is_vp_free, may_access}
use Rattle.hv_policy.specs.Policy.{CallPolicy, needs}
use Rattle.hv_policy.specs.Reading.{register_of}
use Rattle.hv_policy.specs.declared.need.Kin.TheVariants as kin
use Rattle.hv_policy.specs.declared.need.States.TheVariants as states
use Rattle.hv_policy.specs.declared.rule.Rule.TheVariants.{Pages, Entitlement, Operand, TargetState, VpExists}
use Rattle.hv_privs.specs.declared.TheConstants.Privileges as privilege

-- HvCreateVp: creates a processor of the target, with this index.
abbrev pub create_vp : ℕ → ℕ → CallPolicy
create_vp partition vp = record {
  row = CREATE_VP;
  need = needs privilege.CREATE_PARTITIONS kin.CallerOrChild (Some partition) states.Active VP_CHARGE;
  memory = true;
  asks = λ f caller target states charge.
      (TargetState, is_in f target states) ∷ (VpExists, is_vp_free f target vp) ∷
      (Pages, has_available f target charge) ∷ [];
  output = λ f caller target. [];
  effect = Some (λ f caller target. record f { vp = insert f.vp (target, vp) (start_vp vp) });
}

-- HvDeleteVp: removes the processor and its messages.
abbrev pub delete_vp : ℕ → ℕ → CallPolicy
delete_vp partition vp = record {
  row = DELETE_VP;
  need = needs privilege.CREATE_PARTITIONS kin.CallerOrChild (Some partition) states.Active 0;
  memory = false;
  asks = λ f caller target states charge.
      (TargetState, is_in f target states) ∷ (VpExists, contains_key f.vp (target, vp)) ∷ [];
  output = λ f caller target. [];
  effect = Some (λ f caller target. record f {
    vp = remove f.vp (target, vp);
    mail = mail_but_at target vp f.mail;
  });
}

-- HvGetVpRegisters: returns the value of a register of the processor, in 16 bytes.
abbrev pub get_vp_registers : ℕ → ℕ → ℕ → CallPolicy
get_vp_registers partition vp name = record {
  row = GET_VP_REGISTERS;
  need = needs privilege.CREATE_PARTITIONS kin.CallerOrChild (Some partition) states.Active 0;
  memory = false;
  asks = λ f caller target states charge.
      (TargetState, is_in f target states) ∷ (Entitlement, may_access f caller (register.row_of name))
      ∷ (VpExists, contains_key f.vp (target, vp)) ∷ (Operand, is_some (register.row_of name)) ∷ [];
  output = λ f caller target. to_le_bytes w64 (register_of (get f.vp (target, vp)) name) ++ to_le_bytes w64 0;
  effect = None;
}

-- HvSetVpRegisters: writes a register of the processor.
abbrev pub set_vp_registers : ℕ → ℕ → ℕ → ℕ → CallPolicy
set_vp_registers partition vp name value = record {
  row = SET_VP_REGISTERS;
  need = needs privilege.CREATE_PARTITIONS kin.CallerOrChild (Some partition) states.Active 0;
  memory = false;
  asks = λ f caller target states charge.
      (TargetState, is_in f target states) ∷ (Entitlement, may_access f caller (register.row_of name))
      ∷ (VpExists, contains_key f.vp (target, vp)) ∷
      (Operand, is_ok (register.kept (register.row_of name) value)) ∷ [];
  output = λ f caller target. [];
  effect = Some (λ f caller target. write_register target vp name value f);
}
