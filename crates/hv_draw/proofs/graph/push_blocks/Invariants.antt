-- The blocks so far were added.
use Rattle.hv_draw.proofs.Blocks.{AreSoFar}
use Rattle.hv_draw.proofs.graph.push_blocks.Given as goal

abbrev pub invariant-loop-id : goal.invariant-loop-id
invariant-loop-id l = AreSoFar l.tree l.ids l.id-index l.initial.text.items l.text.items
