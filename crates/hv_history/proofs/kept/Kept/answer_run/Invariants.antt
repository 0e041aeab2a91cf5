use Rattle.std.proofs.Common.{◌≤◌, ◌-◌}
use Rattle.hv_policy.specs.Parts.{reply_of}
use Rattle.hv_history.specs.Kept.{IsRun}
use Rattle.hv_history.specs.Run.{HasRun}
use Rattle.hv_history.proofs.kept.Kept.answer_run.Given as goal

abbrev pub invariant-loop-next : goal.invariant-loop-next
invariant-loop-next g l = record {
  so_far : HasRun l.fn.by l.fn.frame (reply_of l.answer l.output) l.events l.events l.fn.self l.self;
  within : l.events ≤ l.fn.most;
  run : IsRun l.self;
}

abbrev pub decreases-loop-next : goal.decreases-loop-next
decreases-loop-next g l = l.fn.most - l.events
