-- New passes.
use Rattle.std.specs.Prelude.{◌≡◌, List, [], map, All}
use Rattle.hv_policy.specs.declared.event.Caller.{Caller}
use Rattle.hv_shared.specs.PassValue.{PassValue}

-- one pass per caller, in order, without receipts and with a share of 0
pub record AreOpened (callers : List Caller) (passes : List PassValue) : Type 0 where
  pub in_order : map (λ p. p.caller) passes ≡ callers
  pub empty : All (λ p. p.receipts ≡ []) passes
  pub none : All (λ p. p.share ≡ 0) passes
