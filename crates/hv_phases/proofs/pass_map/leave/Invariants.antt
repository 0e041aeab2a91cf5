use Rattle.std.proofs.Common.{◌≡◌, vec_capacity}
use Rattle.hv_phases.proofs.PassesLeft.{AreLeft}
use Rattle.hv_phases.proofs.pass_map.leave.Given as goal

abbrev pub invariant-loop-at : goal.invariant-loop-at
invariant-loop-at g l = record {
  left : AreLeft l.fn.runners l.callers l.at l.passes.items l.runners;
  room : vec_capacity l.passes ≡ vec_capacity l.fn.passes;
}
