-- The receipts and the result of a call that is driven to its end.
use Rattle.std.specs.Prelude.{ℕ, ◌≡◌, List, [], ◌∷◌, ◌++◌, map}
use Rattle.std.specs.declared.alloc.Global.{Global}
use Rattle.hv_abi.specs.InputValue.{input_value}
use Rattle.hv_abi.specs.declared.frame.Frame.{Frame}
use Rattle.hv_history.specs.Run.{AreElements as AreAsked, IsMore, element}
use Rattle.hv_history.specs.declared.entry.Entry.{Entry}
use Rattle.hv_policy.specs.Result.{result_of}
use Rattle.hv_policy.specs.declared.event.Caller.{Caller}
use Rattle.hv_policy.specs.declared.reply.Reply.{Reply}
use Rattle.hv_shared.specs.Pass.{HasReceipts, receipt}
use Rattle.hv_shared.specs.PassValue.{PassValue}
use Rattle.hv_shared.specs.declared.receipts.Receipt.{Receipt}

-- the entry of a receipt
abbrev pub entry_in : Receipt → Entry Global
entry_in r = record { event = r.event; reply = r.reply }

-- One receipt for each element from this frame's start index on. Each reply says that the call continues with
-- the next element, and `now` is the frame that asks for the next one.
abbrev pub AreElements : Caller → Frame Global → List Receipt → Frame Global → Type 0
AreElements by frame list now = AreAsked by frame (map entry_in list) now

-- one receipt for each element of a call from this frame to the last one, whose reply ends the call
pub record IsWholeCall (by : Caller) (frame : Frame Global) (list : List Receipt) (last : Frame Global)
    (reply : Reply) : Type 0 where
  pub before : List Receipt
  pub number : ℕ
  pub elements : AreElements by frame before last
  pub all : list ≡ before ++ receipt number (element by last) reply ∷ []
  pub ends : IsMore reply → ⊥

-- the pass has gained the receipts of a whole call, and the call has the result value of its last element and
-- reply
pub record HasDriven (frame : Frame Global) (value : ℕ) (reply : Reply) (old new : PassValue) : Type 0 where
  pub more : List Receipt
  pub last : Frame Global
  pub whole : IsWholeCall old.caller frame more last reply
  pub value_is : value ≡ result_of last reply
  pub gained : HasReceipts more old new

-- the pass has gained the receipts of the elements before the one with the start index `next`
pub record HasStopped (frame : Frame Global) (next : ℕ) (old new : PassValue) : Type 0 where
  pub more : List Receipt
  pub now : Frame Global
  pub elements : AreElements old.caller frame more now
  pub next_is : next ≡ (input_value now.rcx).start
  pub gained : HasReceipts more old new
