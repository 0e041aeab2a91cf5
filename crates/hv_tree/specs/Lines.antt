-- The rows of a branch, in preorder: a parent comes before its children.
use Rattle.std.specs.Prelude.{None, Some, List, ◌∷◌, Box}
use Rattle.hv_tree.specs.declared.node.Branch.{Branch, fold-Branch}
use Rattle.hv_tree.specs.declared.node.Node.{Node, fold-Node}
use Rattle.hv_tree.specs.Nest.{Line}
use Rattle.hv_tree.specs.Below.{below}

module _ {T A : Type 0} where
  abbrev pub lines : Branch T A → List (Line T)
  lines b = fold-Branch T A (List (Line T)) (List (Line T)) (λ s. s.node)
      (λ s. (s.id, (None, Some s.content)) ∷ below s.id s.children.items) b

  abbrev pub node_lines : Node T A → List (Line T)
  node_lines n = fold-Node T A (List (Line T)) (List (Line T)) (λ s. s.node)
      (λ s. (s.id, (None, Some s.content)) ∷ below s.id s.children.items) n

  -- a box, seen as the rows of what is in it
  abbrev pub boxed_lines : Box (Branch T A) A → Box (List (Line T)) A
  boxed_lines b = record { ptr = b.ptr; alloc = b.alloc; value = lines b.value }
