use Rattle.std.proofs.Common.{◌-◌}
use Rattle.hv_history.specs.Kept.{IsRun}
use Rattle.hv_history.specs.Run.{start_of}
use Rattle.hv_serve.proofs.Tracing.{IsTracing}
use Rattle.hv_serve.proofs.traced.run_call.Given as goal

abbrev pub invariant-loop-next : goal.invariant-loop-next
invariant-loop-next l = IsTracing l.by l.fn.kept l.fn.frame l.now l.kept l.trace × IsRun l.kept

abbrev pub decreases-loop-next : goal.decreases-loop-next
decreases-loop-next l = 4096 - start_of l.now
