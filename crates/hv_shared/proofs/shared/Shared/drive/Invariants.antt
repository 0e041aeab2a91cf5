use Rattle.std.proofs.Common.{◌-◌}
use Rattle.hv_defs.specs.Bits.{bits}
use Rattle.hv_shared.proofs.Driving.{IsDriving}
use Rattle.hv_shared.proofs.shared.Shared.drive.Given as goal

abbrev pub invariant-loop-copies : goal.invariant-loop-copies
invariant-loop-copies g l = IsDriving l.fn.frame l.frame l.fn.pass l.pass

-- the start index grows
abbrev pub decreases-loop-copies : goal.decreases-loop-copies
decreases-loop-copies g l = 4096 - bits l.frame.rcx 48 12
