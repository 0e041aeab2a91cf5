use Rattle.hv_embed.proofs.Listed.{next_page_is, no_next_page, pages_below}
use Rattle.hv_embed.proofs.lists.page_after.Goals as goal

pub next_run-requires : goal.next_run-requires
next_run-requires c =
    let tree = c.tree_of.result.now in
    let law = c.tree_of.ensures.lawful in
    pages_below tree law.flat law.tied c.args.part c.in-Some.partition.now c.in-Some.ensures law

pub returns-in-Some : goal.returns-in-Some
returns-in-Some c f flat =
    let tree = c.tree_of.result.now in
    next_page_is tree f (c.tree_of.ensures.tied f flat) c.args.part c.in-Some.partition.now c.in-Some.ensures c.args.previous c.next_run.result c.next_run.ensures

pub returns-in-None : goal.returns-in-None
returns-in-None c f flat =
    let tree = c.tree_of.result.now in
    no_next_page tree f (c.tree_of.ensures.tied f flat) c.args.part c.in-None.ensures c.args.previous
