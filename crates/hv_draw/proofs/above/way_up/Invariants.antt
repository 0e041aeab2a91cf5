-- The way so far.
use Rattle.hv_tree.specs.Rows.{parent}
use Rattle.hv_draw.proofs.WayUp.{IsWay}
use Rattle.hv_draw.proofs.above.way_up.Given as goal

abbrev pub invariant-loop : goal.invariant-loop
invariant-loop l = IsWay (parent l.tree) l.part l.steps l.counter l.at l.way.items
