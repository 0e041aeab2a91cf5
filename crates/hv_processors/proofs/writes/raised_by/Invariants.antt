use Rattle.std.proofs.Common.{◌≡◌}
use Rattle.hv_admit.specs.Effect.{has_bit}
use Rattle.hv_admit.specs.Ended.{vectors_of}
use Rattle.hv_processors.proofs.writes.raised_by.Given as goal

abbrev pub invariant-loop-sint : goal.invariant-loop-sint
invariant-loop-sint g l = l.raised ≡ vectors_of (has_bit l.fn.due) l.fn.vp.registers l.sint
