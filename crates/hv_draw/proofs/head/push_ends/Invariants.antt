-- The ends so far were added.
use Rattle.hv_draw.specs.Head.{HasSome, IsEnd}
use Rattle.hv_draw.proofs.head.push_ends.Given as goal

abbrev pub invariant-loop-at : goal.invariant-loop-at
invariant-loop-at l = HasSome IsEnd l.initial.text.items l.text.items
