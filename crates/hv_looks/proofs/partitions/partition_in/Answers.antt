use Rattle.std.proofs.Common.{◌≡◌, length, rules}
use Rattle.hv_tree.specs.Rows.{children}
use Rattle.hv_looks.proofs.PartitionLooks.{look_is}
use Rattle.hv_looks.proofs.partitions.partition_in.Goals as goal

pub returns : goal.returns
returns g c f flat =
    let counted : c.in-Some-children_of.children ≡ length (children c.args.tree.now c.args.id) = search rules in
    rw (c.life.ensures, c.mask.ensures, c.count.ensures, c.pages.ensures, c.in_use.ensures, c.vp_count.ensures, c.port_count.ensures, c.conn_count.ensures)
    (look_is c.args.tree.now f flat c.args.id c.in-Some.partition.now c.in-Some.ensures c.requires c.parent_of.result c.in-Some-depth_of.depth c.in-Some-children_of.children
    c.parent_of.ensures.value c.in-Some-depth_of.ensures.depth counted)
