use Rattle.std.proofs.Common.{rules}
use Rattle.std.proofs.lemmas.List.Sorted.{answers_always}
use Rattle.hv_tree.specs.Way.{id_of}
use Rattle.hv_tree.proofs.Search.{found_at, found_nowhere}
use Rattle.hv_tree.proofs.node.search_child.Goals as goal

pub returns-clause-found : goal.returns-clause-found
returns-clause-found g c = found_at (λ k. id_of k.value) c.args.children.now c.args.id c.binary_search_by_key.result c.binary_search_by_key.ensures.bound
    (c.binary_search_by_key.ensures.position (λ k. id_of k.value) (answers_always _ _ _ (λ f a r q k. search rules)))

pub returns-clause-none : goal.returns-clause-none
returns-clause-none g c = found_nowhere (λ k. id_of k.value) c.args.children.now c.args.id c.binary_search_by_key.result c.requires
    (c.binary_search_by_key.ensures.position (λ k. id_of k.value) (answers_always _ _ _ (λ f a r q k. search rules)))
