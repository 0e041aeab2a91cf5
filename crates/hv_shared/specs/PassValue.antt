-- The model of a pass.
use Rattle.std.specs.Prelude.{ℕ, ◌≡◌, List, length, All}
use Rattle.hv_policy.specs.declared.event.Caller.{Caller}
use Rattle.hv_shared.specs.declared.receipts.Receipt.{Receipt}

-- a caller, the receipts of its events, its share of the count, and the room for further receipts
pub record PassValue : Type 0 where
  pub caller : Caller
  pub receipts : List Receipt
  pub share : ℕ
  pub room : ℕ

-- invariant: a pass has one part of the count, which counts its receipts, and each of them is of an event by
-- its caller
pub record IsPass (caller : Caller) (receipts : List Receipt) (parts amount : ℕ) : Type 0 where
  pub one : parts ≡ 1
  pub counted : amount ≡ length receipts
  pub own : All (λ r. r.event.by ≡ caller) receipts
