use Rattle.std.proofs.Common.{length}
use Rattle.hv_explain.proofs.Following.{SoFar}
use Rattle.hv_explain.proofs.follow.follow_script.Given as goal

abbrev pub invariant-loop-by : goal.invariant-loop-by
invariant-loop-by g l = SoFar g.T.Teller.tells l.fn.script.lines.items l.audit l.initial.kept (g.W.Write.contents l.initial.out) l.kept l.schedule l.left (g.W.Write.contents l.out)

abbrev pub decreases-loop-by : goal.decreases-loop-by
decreases-loop-by g l = length l.left
