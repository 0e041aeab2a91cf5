use Rattle.hv_tree.specs.Way.{id_of, children_of}
use Rattle.hv_tree.proofs.Search.{least_none, least_some}
use Rattle.hv_tree.proofs.Steps.{rising-non_decreasing}
use Rattle.hv_tree.proofs.node.Node.child_after.Goals as goal

pub returns-in-None : goal.returns-in-None
returns-in-None g c =
    least_none (λ k. id_of k.value) (children_of c.args.self.now) c.args.previous c.first_above.result (rw (← c.deref-2.ensures.value) c.first_above.ensures.place)
    (rw (← c.deref.ensures.value) c.in-None.ensures.lookup.3)

pub returns-in-Some : goal.returns-in-Some
returns-in-Some g c =
    let least = least_some (λ k. id_of k.value) (children_of c.args.self.now) c.args.previous c.first_above.result c.in-Some.child.now (rising-non_decreasing c.args.self.now c.requires)
    (rw (← c.deref-2.ensures.value) c.first_above.ensures.place) (rw (← c.deref.ensures.value) c.in-Some.ensures.lookup.3.0) (rw (← c.deref.ensures.value) c.in-Some.ensures.lookup.1) in
    rw c.deref-in-Some.ensures least
