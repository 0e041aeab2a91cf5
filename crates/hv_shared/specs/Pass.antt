-- Changes of a pass.
use Rattle.std.specs.Prelude.{ℕ, ◌≡◌, ◌+◌, List, [], ◌∷◌, ◌++◌, length}
use Rattle.std.specs.declared.alloc.Global.{Global}
use Rattle.hv_policy.specs.declared.event.Action.{Action}
use Rattle.hv_policy.specs.declared.event.Event.{Event}
use Rattle.hv_policy.specs.declared.reply.Reply.{Reply}
use Rattle.hv_shared.specs.PassValue.{PassValue}
use Rattle.hv_shared.specs.declared.receipts.Receipt.{Receipt}

abbrev pub receipt : ℕ → Event Global → Reply → Receipt
receipt number event reply = record { number = number; event = event; reply = reply }

-- the pass has gained this receipt, which is counted
pub record HasReceipt (number : ℕ) (event : Event Global) (reply : Reply) (old new : PassValue) : Type 0 where
  pub receipts : new.receipts ≡ old.receipts ++ receipt number event reply ∷ []
  pub share : new.share ≡ old.share + 1
  pub caller : new.caller ≡ old.caller

-- the pass has gained these receipts, which are counted
pub record HasReceipts (more : List Receipt) (old new : PassValue) : Type 0 where
  pub receipts : new.receipts ≡ old.receipts ++ more
  pub share : new.share ≡ old.share + length more
  pub caller : new.caller ≡ old.caller

-- nothing but the room has changed
pub record IsAsBefore (old new : PassValue) : Type 0 where
  pub receipts : new.receipts ≡ old.receipts
  pub share : new.share ≡ old.share
  pub caller : new.caller ≡ old.caller

-- the pass has gained a receipt of this action by its caller
abbrev pub HasCalled : Action Global → Reply → PassValue → PassValue → Type 0
HasCalled what reply old new = (number : ℕ) × HasReceipt number (record { by = old.caller; what = what })
    reply old new
