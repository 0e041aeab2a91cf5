use Rattle.std.proofs.Common.{length, reverse}
use Rattle.hv_phases.specs.PassMap.{HaveStayed}
use Rattle.hv_phases.proofs.LinesTaken.{Goes}
use Rattle.hv_phases.proofs.in_order.run_in_order.Given as goal

abbrev pub invariant-loop-line : goal.invariant-loop-line
invariant-loop-line g l = record {
  goes : Goes l.fn.lines.items (reverse l.left.items) l.last l.phase l.is_stopped l.runners;
  stayed : HaveStayed l.fn.runners l.runners;
}

abbrev pub decreases-loop-line : goal.decreases-loop-line
decreases-loop-line g l = length l.left.items
