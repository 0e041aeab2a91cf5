use Rattle.hv_tree.specs.declared.node.Node.{out-Node, roll-Node}
use Rattle.hv_tree.specs.Index.{parents}
use Rattle.hv_tree.specs.Way.{way_to, IsReached}
use Rattle.hv_tree.proofs.ChangedNode.{lines-kept, same-items}
use Rattle.hv_tree.proofs.change.reserve.Goals as goal

pub returns-then-is_err-clause-rows : goal.returns-then-is_err-clause-rows
returns-then-is_err-clause-rows g c =
    let up = parents c.args.index.now in
    let n = c.in-Some.node.now in
    let r : IsReached up c.args.parent c.args.root.now n = c.in-Some.ensures.found in
    lines-kept (way_to up c.args.parent c.args.root.now) c.args.root.now n r.led c.requires.distinct (roll-Node _ _ (record (out-Node _ _ n) { children = c.reserve.new.self }))
    (same-items n c.reserve.new.self c.reserve.ensures.items)

pub returns-clause-rows : goal.returns-clause-rows
returns-clause-rows g c =
    let up = parents c.args.index.now in
    let n = c.in-Some.node.now in
    let r : IsReached up c.args.parent c.args.root.now n = c.in-Some.ensures.found in
    lines-kept (way_to up c.args.parent c.args.root.now) c.args.root.now n r.led c.requires.distinct (roll-Node _ _ (record (out-Node _ _ n) { children = c.reserve.new.self }))
    (same-items n c.reserve.new.self c.reserve.ensures.items)
