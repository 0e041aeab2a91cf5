use Rattle.std.proofs.Common.{◌∙◌, arith, sym}
use Rattle.hv_looks.proofs.PageOwners.{has_there, nobody, owner_is, too_high}
use Rattle.hv_looks.proofs.partitions.page_owner.Goals as goal

pub returns-then-page-ge-MOST : goal.returns-then-page-ge-MOST
returns-then-page-ge-MOST g c f flat =
    too_high c.tree_of-tree.result.now c.tree_of-tree.ensures.lawful f (c.tree_of-tree.ensures.tied f flat) c.args.page (omega (arith, c.if-page-ge-MOST.true))

pub returns-then-has_page : goal.returns-then-has_page
returns-then-has_page g c f flat =
    owner_is c.tree_of-tree.result.now f (c.tree_of-tree.ensures.tied f flat) c.args.page c.loop-id.id (sym c.has_page.ensures ∙ c.if-has_page.true)

pub returns : goal.returns
returns g c f flat =
    let tree = c.tree_of-tree.result.now in
    nobody tree f (c.tree_of-tree.ensures.tied f flat) c.args.page c.args.machine.now.next
    (λ id has. c.tree_of-tree.ensures.below id (has_there tree c.args.page id has))
    (λ id lt. c.loop-id.invariant id (omega (arith, c.loop-id-test.false, c.next_id-id-end.ensures, lt)))
