use Rattle.std.proofs.Common.{[], false, length, reverse}
use Rattle.hv_phases.specs.PassMap.{AreGoing, HasRunTo, HaveStayed}
use Rattle.hv_phases.proofs.in_threads.run_in_threads.Given as goal

abbrev pub invariant-loop-first : goal.invariant-loop-first
invariant-loop-first g l = record {
  run : HasRunTo false l.fn.lines.items [] (reverse l.left.items) l.last l.runners;
  going : AreGoing l.runners;
  stayed : HaveStayed l.fn.runners l.runners;
}

abbrev pub decreases-loop-first : goal.decreases-loop-first
decreases-loop-first g l = length l.left.items
