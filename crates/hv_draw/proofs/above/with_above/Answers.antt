use Rattle.std.proofs.Common.{arith}
use Rattle.hv_draw.proofs.WayUp.{kept_one, way_of_all}
use Rattle.hv_draw.proofs.above.with_above.Goals as goal

pub loop-id-preserved : goal.loop-id-preserved
loop-id-preserved c =
    kept_one c.in_ok-way.way.items _ c.args.ids.now c.loop-id.id-index _ _ _ c.loop-id-test.true c.loop-id.invariant c.deref.ensures.value c.contains.ensures.value c.in_ok-push_if.ensures

pub returns : goal.returns
returns c = way_of_all c.args.tree.now c.args.part c.args.ids.now c.in_ok-way.way.items c.loop-id.shown.items c.loop-id.id-index c.in_ok-way.ensures c.loop-id.invariant (omega arith)
