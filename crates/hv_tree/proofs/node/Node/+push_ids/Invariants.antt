use Rattle.std.proofs.Common.{◌≡◌, ◌++◌, ◌∷◌, take, map}
use Rattle.hv_tree.specs.declared.node.Node.{out-Node}
use Rattle.hv_tree.specs.Below.{below}
use Rattle.hv_tree.specs.Lines.{boxed_lines}
use Rattle.hv_tree.proofs.Ids.{ids_of}
use Rattle.hv_tree.proofs.node.Node.+push_ids.Given as goal

abbrev pub invariant-loop-child : goal.invariant-loop-child
invariant-loop-child g l = l.ids.items ≡ l.fn.ids.items ++ ((out-Node _ _ l.self).id ∷ ids_of (below 0 (take l.child-index (map boxed_lines l.child-items))))
