use Rattle.hv_embed.proofs.Listed.{next_link_is, no_next_link}
use Rattle.hv_embed.proofs.lists.id_after.Goals as goal

pub returns-in-Some : goal.returns-in-Some
returns-in-Some c f flat =
    let tree = c.tree_of.result.now in
    next_link_is tree f (c.tree_of.ensures.tied f flat) c.args.part c.in-Some.partition.now c.in-Some.ensures c.args.links c.args.previous c.next_id.result c.next_id.ensures

pub returns-in-None : goal.returns-in-None
returns-in-None c f flat =
    let tree = c.tree_of.result.now in
    no_next_link tree f (c.tree_of.ensures.tied f flat) c.args.part c.in-None.ensures c.args.links c.args.previous
