-- The lanes so far were added.
use Rattle.hv_draw.specs.Head.{HasSome, IsLane}
use Rattle.hv_draw.proofs.head.push_lanes.Given as goal

abbrev pub invariant-loop-at : goal.invariant-loop-at
invariant-loop-at l = HasSome IsLane l.initial.text.items l.text.items
