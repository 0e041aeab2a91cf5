use Rattle.hv_tree.proofs.Steps.{place-some, place-none, rising-non_decreasing}
use Rattle.hv_tree.proofs.node.Node.place_of.Goals as goal

pub search_child-requires : goal.search_child-requires
search_child-requires g c = rw c.deref.ensures.value (rising-non_decreasing c.args.self.now c.requires)

pub returns-in-Ok-clause-some : goal.returns-in-Ok-clause-some
returns-in-Ok-clause-some g c = place-some c.args.self.now c.args.id c.in-Ok.at c.requires (rw (← c.deref.ensures.value) c.in-Ok.ensures.found.0) (rw (← c.deref.ensures.value) c.in-Ok.ensures.found.1)

pub returns-in-Err-clause-none : goal.returns-in-Err-clause-none
returns-in-Err-clause-none g c = place-none c.args.self.now c.args.id (rw (← c.deref.ensures.value) c.in-Err.ensures.none)
