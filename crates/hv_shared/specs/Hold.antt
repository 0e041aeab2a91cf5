-- A hold of several elements of one call.
use Rattle.std.specs.Prelude.{◌≡◌, ◌+◌, List, ◌++◌, length}
use Rattle.std.specs.declared.alloc.Global.{Global}
use Rattle.hv_history.specs.declared.entry.Entry.{Entry}
use Rattle.hv_shared.specs.HeldValue.{HeldValue}
use Rattle.hv_shared.specs.Pass.{HasReceipts}
use Rattle.hv_shared.specs.PassValue.{PassValue}
use Rattle.hv_shared.specs.Receipts.{numbered}

-- the history has gained entries, and the pass exactly their receipts, under their numbers; all are counted
pub record HasHeld (old new : HeldValue) (pass told : PassValue) : Type 0 where
  pub more : List (Entry Global)
  pub history : new.kept.history ≡ old.kept.history ++ more
  pub count : new.count ≡ old.count + length more
  pub gained : HasReceipts (numbered (length old.kept.history + 1) more) pass told
