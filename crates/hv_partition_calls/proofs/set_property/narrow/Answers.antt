use Rattle.hv_partition_calls.proofs.NarrowedMasks.{narrowed_tied}
use Rattle.hv_partition_calls.proofs.set_property.narrow.Goals as goal

pub returns : goal.returns
returns g c f flat = narrowed_tied c.args.tree.now f flat c.requires c.args.id c.args.value c.update_subtree.new.self c.update_subtree.ensures.edited c.update_subtree.ensures.others
