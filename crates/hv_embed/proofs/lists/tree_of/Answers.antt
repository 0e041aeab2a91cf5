use Rattle.hv_looks.proofs.ProcessorLooks.{tree_lawful, tree_tied}
use Rattle.hv_embed.proofs.lists.tree_of.Goals as goal

pub returns-clause-tied : goal.returns-clause-tied
returns-clause-tied c f flat = tree_tied c.tree.result.now c.args.machine.now c.tree.ensures f flat

pub returns-clause-lawful : goal.returns-clause-lawful
returns-clause-lawful c = tree_lawful c.tree.result.now c.args.machine.now c.tree.ensures c.served.ensures.lasting
