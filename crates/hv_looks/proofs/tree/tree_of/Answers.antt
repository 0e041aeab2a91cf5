use Rattle.hv_looks.proofs.ProcessorLooks.{tree_below, tree_lawful, tree_tied}
use Rattle.hv_looks.proofs.tree.tree_of.Goals as goal

pub returns-clause-tied : goal.returns-clause-tied
returns-clause-tied g c f flat = tree_tied c.tree.result.now c.args.machine.now c.tree.ensures f flat

pub returns-clause-lawful : goal.returns-clause-lawful
returns-clause-lawful g c = tree_lawful c.tree.result.now c.args.machine.now c.tree.ensures c.served.ensures.lasting

pub returns-clause-below : goal.returns-clause-below
returns-clause-below g c = tree_below c.tree.result.now c.args.machine.now c.tree.ensures c.served.ensures.lasting
