use Rattle.hv_admit.proofs.StateInvariant.{parents_below}
use Rattle.hv_partition_calls.proofs.Depths.{told_depth}
use Rattle.hv_partition_calls.proofs.create.depth.Goals as goal

pub returns : goal.returns
returns g c f flat =
    let law = c.requires in
    told_depth c.args.tree.now f flat (parents_below c.args.tree.now law.flat law.tied law.pages law.lawful) c.args.id c.depth_of.result c.depth_of.ensures.found c.depth_of.ensures.depth
