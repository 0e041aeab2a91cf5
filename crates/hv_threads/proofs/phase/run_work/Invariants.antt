use Rattle.std.proofs.Common.{◌≡◌, ◌+◌, vec_len}
use Rattle.hv_threads.proofs.WorkSteps.{IsWorking}
use Rattle.hv_threads.proofs.phase.run_work.Given as goal

abbrev pub invariant-loop-action : goal.invariant-loop-action
invariant-loop-action g l = record {
  working : IsWorking l.fn.task.work l.pass l.done l.actions.items;
  left : l.done + vec_len l.actions ≡ vec_len l.fn.task.work.actions;
}

abbrev pub decreases-loop-action : goal.decreases-loop-action
decreases-loop-action g l = vec_len l.actions
