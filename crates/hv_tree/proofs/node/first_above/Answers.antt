use Rattle.std.proofs.Common.{rules, leb-true, leb-false}
use Rattle.std.proofs.lemmas.List.Sorted.{IsPartitionPoint-from_clause, IsPartitionedBy-leb}
use Rattle.std.proofs.Math.Dec.{leb}
use Rattle.hv_tree.specs.Way.{id_of}
use Rattle.hv_tree.proofs.node.first_above.Goals as goal

pub returns-clause-place : goal.returns-clause-place
returns-clause-place g c =
    let at = IsPartitionPoint-from_clause (λ k. leb (id_of k.value) c.args.id) c.args.children.now c.partition_point.result c.partition_point.ensures.partitioned
    (IsPartitionedBy-leb (λ k. id_of k.value) c.args.children.now c.args.id c.requires) (λ a r f k. search rules) in
    (λ k d lo hi. leb-true _ _ (at.0 k d lo hi), λ k d lo hi. leb-false _ _ (at.1 k d lo hi))
