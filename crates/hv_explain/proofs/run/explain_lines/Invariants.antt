use Rattle.std.proofs.Common.{drop}
use Rattle.hv_history.specs.Kept.{IsRun}
use Rattle.hv_explain.proofs.Lines.{HasToldUpTo}
use Rattle.hv_explain.proofs.run.explain_lines.Given as goal

abbrev pub invariant-loop-place : goal.invariant-loop-place
invariant-loop-place g l = record {
  so_far : HasToldUpTo g.T.Teller.tells l.at l.lines (drop l.place l.lines) l.fn.kept l.kept (g.W.Write.contents l.initial.out) (g.W.Write.contents l.out);
  run : IsRun l.kept;
}
