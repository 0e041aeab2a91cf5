-- The outcome of one action.
use Rattle.std.specs.Prelude.{ℕ, ◌≡◌, List, [], ◌∷◌, ◌++◌}
use Rattle.std.specs.declared.alloc.Global.{Global}
use Rattle.hv_abi.specs.declared.frame.Frame.{Frame}
use Rattle.hv_policy.specs.declared.event.Action.{Action}
use Rattle.hv_policy.specs.declared.event.Action.TheVariants.{Hypercall}
use Rattle.hv_policy.specs.declared.event.Caller.{Caller}
use Rattle.hv_policy.specs.declared.reply.Reply.{Reply}
use Rattle.hv_shared.specs.Drive.{AreElements, IsWholeCall}
use Rattle.hv_shared.specs.Pass.{HasReceipts, receipt}
use Rattle.hv_shared.specs.PassValue.{PassValue}
use Rattle.hv_shared.specs.declared.receipts.Receipt.{Receipt}

-- the receipt of an access
pub record IsAccess (by : Caller) (what : Action Global) (list : List Receipt) : Type 0 where
  pub number : ℕ
  pub reply : Reply
  pub all : list ≡ receipt number (record { by = by; what = what }) reply ∷ []

-- the receipts of a call that came to its end
pub record IsCall (by : Caller) (frame : Frame Global) (list : List Receipt) : Type 0 where
  pub last : Frame Global
  pub reply : Reply
  pub whole : IsWholeCall by frame list last reply

-- the receipts of an action that came to its end: one for each element of a hypercall, and one for an access
abbrev pub IsWhole : Caller → Action Global → List Receipt → Type 0
IsWhole by (Hypercall frame) list = IsCall by frame list
IsWhole by what list = IsAccess by what list

-- the receipts of the elements of a call that the host stopped
pub record IsPart (by : Caller) (frame : Frame Global) (list : List Receipt) : Type 0 where
  pub now : Frame Global
  pub elements : AreElements by frame list now

-- the receipts of an action that the host stopped: one for each element before, and none for an access
abbrev pub IsStopped : Caller → Action Global → List Receipt → Type 0
IsStopped by (Hypercall frame) list = IsPart by frame list
IsStopped by what list = list ≡ []

-- the receipts of these actions, one after another, each to its end
abbrev pub AreWhole : Caller → List (Action Global) → List Receipt → Type 0
AreWhole by [] list = list ≡ []
AreWhole by (what ∷ more) list = (own : List Receipt) × (rest : List Receipt) × (list ≡ own ++ rest) × IsWhole
    by what own × AreWhole by more rest

-- the pass has gained the receipts of an action that came to its end
pub record HasPerformed (what : Action Global) (old new : PassValue) : Type 0 where
  pub more : List Receipt
  pub whole : IsWhole old.caller what more
  pub gained : HasReceipts more old new

-- the pass has gained the receipts of an action that the host stopped
pub record HasBegun (what : Action Global) (old new : PassValue) : Type 0 where
  pub more : List Receipt
  pub stopped : IsStopped old.caller what more
  pub gained : HasReceipts more old new
