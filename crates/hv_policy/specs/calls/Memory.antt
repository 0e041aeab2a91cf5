-- The pools of pages.
use Rattle.std.specs.Prelude.{ℕ, true, false, [], ◌∷◌, ◌++◌, Some, None}
use Rattle.std.specs.FinMap.{get, insert}
use Rattle.std.specs.Int.{w64, to_le_bytes}
use Rattle.hv_abi.specs.declared.call_kind.TheConstants.{DEPOSIT_MEMORY, WITHDRAW_MEMORY, GET_MEMORY_BALANCE}
use Rattle.hv_policy.specs.Change.{withdrawn}
use Rattle.hv_policy.specs.Count.{available, in_use, lowest_pooled}
use Rattle.hv_policy.specs.Met.{has_available, is_in, is_loose}
use Rattle.hv_policy.specs.Policy.{CallPolicy, needs}
use Rattle.hv_policy.specs.Reading.{page_or_0}
use Rattle.hv_policy.specs.declared.need.Kin.TheVariants as kin
use Rattle.hv_policy.specs.declared.need.States.TheVariants as states
use Rattle.hv_policy.specs.declared.rule.Rule.TheVariants.{Pages, Operand, TargetState}
use Rattle.hv_privs.specs.declared.TheConstants.Privileges as privilege

-- HvDepositMemory: moves a loose page of the caller into the target's pool.
abbrev pub deposit_memory : ℕ → ℕ → CallPolicy
deposit_memory partition page = record {
  row = DEPOSIT_MEMORY;
  need = needs privilege.ACCESS_MEMORY_POOL kin.CallerOrChild (Some partition) states.CreatedOrActive 0;
  memory = true;
  asks = λ f caller target states charge. (TargetState, is_in f target states) ∷
      (Operand, is_loose caller (get f.page page)) ∷ [];
  output = λ f caller target. [];
  effect = Some (λ f caller target. record f {
    page = insert f.page page (record { owner = target; pooled = true });
  });
}

-- HvWithdrawMemory: makes the lowest page of the target's pool a loose page of the caller. If no page is
-- available, P24 has the withdrawal's own status, NO_RESOURCES.
abbrev pub withdraw_memory : ℕ → CallPolicy
withdraw_memory partition = record {
  row = WITHDRAW_MEMORY;
  need = needs privilege.ACCESS_MEMORY_POOL kin.CallerOrChild (Some partition) states.Any 1;
  memory = true;
  asks = λ f caller target states charge. (Pages, has_available f target charge) ∷ [];
  output = λ f caller target. to_le_bytes w64 (page_or_0 (lowest_pooled f target));
  effect = Some (λ f caller target. record f { page = withdrawn caller (lowest_pooled f target) f.page });
}

-- HvGetMemoryBalance: returns the number of pages of the target's pool that are available, and of those in
-- use.
abbrev pub get_memory_balance : ℕ → CallPolicy
get_memory_balance partition = record {
  row = GET_MEMORY_BALANCE;
  need = needs privilege.ACCESS_MEMORY_POOL kin.CallerOrChild (Some partition) states.Any 0;
  memory = false;
  asks = λ f caller target states charge. [];
  output = λ f caller target. to_le_bytes w64 (available f target) ++ to_le_bytes w64 (in_use f target);
  effect = None;
}
