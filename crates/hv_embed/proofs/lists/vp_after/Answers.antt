use Rattle.hv_embed.proofs.Listed.{next_vp_is, no_next_vp}
use Rattle.hv_embed.proofs.lists.vp_after.Goals as goal

pub returns-in-Some : goal.returns-in-Some
returns-in-Some c f flat =
    let tree = c.tree_of.result.now in
    next_vp_is tree f (c.tree_of.ensures.tied f flat) c.args.part c.in-Some.partition.now c.in-Some.ensures c.args.previous c.next_vp.result c.next_vp.ensures

pub returns-in-None : goal.returns-in-None
returns-in-None c f flat =
    let tree = c.tree_of.result.now in
    no_next_vp tree f (c.tree_of.ensures.tied f flat) c.args.part c.in-None.ensures c.args.previous
