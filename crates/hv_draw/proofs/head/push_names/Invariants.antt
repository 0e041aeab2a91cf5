-- The names so far were added.
use Rattle.hv_draw.specs.Head.{HasSome, IsName}
use Rattle.hv_draw.proofs.head.push_names.Given as goal

abbrev pub invariant-loop-at : goal.invariant-loop-at
invariant-loop-at l = HasSome (IsName l.vp l.x) l.initial.text.items l.text.items
