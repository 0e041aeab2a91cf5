use Rattle.std.proofs.Common.{◌≡◌, true, Some, None, sym, ◌∙◌}
use Rattle.std.specs.FinMap.{contains_key}
use Rattle.hv_looks.proofs.PartitionLooks.{child_is, no_children}
use Rattle.hv_looks.proofs.partitions.child_after.Goals as goal

pub returns-in-Some : goal.returns-in-Some
returns-in-Some g c f flat =
    let tree = c.tree_of-tree.result.now in
    let there : contains_key tree c.args.parent ≡ true = sym c.contains.ensures.value ∙ c.if-not-contains.false in
    child_is tree f (c.tree_of-tree.ensures.tied f flat) c.args.parent there c.args.previous (Some c.in-Some.child) c.in-Some.ensures.value

pub returns-in-None : goal.returns-in-None
returns-in-None g c f flat =
    let tree = c.tree_of-tree.result.now in
    let there : contains_key tree c.args.parent ≡ true = sym c.contains.ensures.value ∙ c.if-not-contains.false in
    child_is tree f (c.tree_of-tree.ensures.tied f flat) c.args.parent there c.args.previous None c.in-None.ensures.value
