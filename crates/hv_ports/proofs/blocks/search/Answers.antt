use Rattle.std.proofs.Common.{rules}
use Rattle.std.proofs.lemmas.List.Sorted.{answers_always}
use Rattle.hv_ports.proofs.Rising.{searched_found, searched_gap}
use Rattle.hv_ports.proofs.blocks.search.Goals as goal

pub returns-clause-found : goal.returns-clause-found
returns-clause-found g c =
    searched_found c.args.slots.now c.args.id _ (c.binary_search_by_key.ensures.position (λ slot. slot.0) (answers_always _ _ _ (λ f a r k called. search rules)))

pub returns-clause-between : goal.returns-clause-between
returns-clause-between g c =
    searched_gap c.args.slots.now c.args.id _ c.requires (c.binary_search_by_key.ensures.position (λ slot. slot.0) (answers_always _ _ _ (λ f a r k called. search rules)))
