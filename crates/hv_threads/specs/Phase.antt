-- The outcome of a phase's threads.
use Rattle.std.specs.Prelude.{ℕ, ◌≡◌, ◌<◌, List, [], ◌∷◌, ◌++◌, length, slice_index_or}
use Rattle.std.specs.declared.alloc.Global.{Global}
use Rattle.hv_policy.specs.declared.event.Action.{Action}
use Rattle.hv_policy.specs.declared.event.Caller.{Caller}
use Rattle.hv_shared.specs.Pass.{HasReceipts}
use Rattle.hv_threads.specs.Perform.{AreWhole, IsStopped}
use Rattle.hv_shared.specs.PassValue.{PassValue}
use Rattle.hv_shared.specs.declared.receipts.Receipt.{Receipt}
use Rattle.hv_threads.specs.declared.phase.Done.{Done}
use Rattle.hv_threads.specs.declared.phase.End.{End}
use Rattle.hv_threads.specs.declared.phase.End.TheVariants.{Finished, Host}
use Rattle.hv_threads.specs.declared.phase.Task.{Task}
use Rattle.hv_threads.specs.declared.phase.Work.{Work}

-- no action and no receipt is left, or the host stopped the first action that is left, which has these
-- receipts
abbrev pub HasEnded : Caller → End → List (Action Global) → List Receipt → Type 0
HasEnded by Finished left part = (left ≡ []) × (part ≡ [])
HasEnded by (Host why) [] part = ⊥
HasEnded by (Host why) (what ∷ more) part = IsStopped by what part

-- the receipts of the first `done` actions, in order, each by this caller, and of a part of the next if the
-- host stopped it
pub record IsAccount (by : Caller) (actions : List (Action Global)) (done : ℕ) (end : End)
    (list : List Receipt) : Type 0 where
  pub did : List (Action Global)
  pub left : List (Action Global)
  pub whole : List Receipt
  pub part : List Receipt
  pub in_order : did ++ left ≡ actions
  pub count : length did ≡ done
  pub are_whole : AreWhole by did whole
  pub ended : HasEnded by end left part
  pub all : list ≡ whole ++ part

-- the pass has gained the receipts of its thread's actions
pub record IsDone {L : Type 0} (work : Work L) (pass : PassValue) (done : ℕ) (end : End) : Type 0 where
  pub more : List Receipt
  pub account : IsAccount work.pass.caller work.actions.items done end more
  pub gained : HasReceipts more work.pass pass

-- the contents of a task after its thread
abbrev pub IsDoneAt : {L : Type 0} → Task L → Task L → Type 0
IsDoneAt old new = IsDone old.work new.work.pass new.done new.end

abbrev pub done_of : {L : Type 0} → Task L → Done L
done_of task = record { pass = task.work.pass; done = task.done; end = task.end }

-- one outcome for each work, in order
pub record EachDone {L : Type 0} (works : List (Work L)) (dones : List (Done L)) : Type 0 where
  pub count : length dones ≡ length works
  pub each : (i : ℕ) (w : Work L) (d : Done L) → i < length works → IsDone (slice_index_or works i w)
      (slice_index_or dones i d).pass (slice_index_or dones i d).done (slice_index_or dones i d).end
