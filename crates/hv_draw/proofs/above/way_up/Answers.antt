use Rattle.std.proofs.Common.{◌∙◌, ap, sym, arith, ◌++◌, ◌∷◌, [], List, ℕ}
use Rattle.hv_tree.specs.Rows.{parent}
use Rattle.hv_draw.proofs.WayUp.{one_step, steps_up, way_begins, way_ends, way_goes_on}
use Rattle.hv_draw.proofs.above.way_up.Goals as goal

pub loop-init : goal.loop-init
loop-init c =
    way_begins (parent c.args.tree.now) c.args.part _ _ (c.in_ok-push.ensures.items ∙ ap (λ (l : List ℕ). l ++ c.args.part ∷ []) c.new-way.ensures.items)
    (steps_up c.args.tree.now c.args.part c.depth_of.result _ c.depth_of.ensures.found c.depth_of.ensures.depth c.unwrap_or-steps.ensures)

pub unreachable-requires : goal.unreachable-requires
unreachable-requires c =
    let step = one_step (parent c.args.tree.now) c.args.part _ c.loop.counter c.loop.at _ c.loop.invariant c.loop-test.true in
    c.in_default.not-Some step.0 (c.parent_of.ensures.value ∙ step.1)

pub loop-preserved : goal.loop-preserved
loop-preserved c =
    way_goes_on (parent c.args.tree.now) c.args.part _ c.loop.counter c.loop.at c.in-Some.parent _ _ c.loop.invariant c.loop-test.true (sym c.parent_of.ensures.value ∙ c.in-Some.is)
    c.in_ok-push-2.ensures.items

pub returns : goal.returns
returns c = way_ends c.args.tree.now c.args.part _ c.loop.counter c.loop.at _ c.loop.invariant (omega arith)
