use Rattle.std.proofs.Common.{◌≡◌, ◌+◌, ◌<◌, ◌-◌, length}
use Rattle.hv_history.specs.Kept.{IsRun}
use Rattle.hv_history.specs.Run.{start_of}
use Rattle.hv_explain.proofs.AskedActions.{HasBegun}
use Rattle.hv_explain.proofs.run.explain_call.Given as goal

abbrev pub invariant-loop-next : goal.invariant-loop-next
invariant-loop-next g l =
    (so_far : HasBegun g.T.Teller.tells l.by l.fn.kept (g.W.Write.contents l.initial.out) l.frame l.now l.kept (g.W.Write.contents l.out))
    × (length so_far.before + l.left ≡ l.most) × (0 < l.left) × IsRun l.kept

abbrev pub decreases-loop-next : goal.decreases-loop-next
decreases-loop-next g l = 4096 - start_of l.now
