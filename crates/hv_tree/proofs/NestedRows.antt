-- The rows of a branch are those of one node and of all below it.
use Rattle.std.proofs.Common.{None, Some, List, [], ◌∷◌, Box, map, sym, ap, subst}
use Rattle.hv_tree.specs.declared.node.Branch.{Branch, ind-Branch, roll-Branch, fold-roll-Branch}
use Rattle.hv_tree.specs.declared.node.Node.{Node, fold-roll-Node}
use Rattle.hv_tree.specs.Nest.{Line, IsNest}
use Rattle.hv_tree.specs.Below.{below, AreNests}
use Rattle.hv_tree.specs.Lines.{lines, node_lines, boxed_lines}
use Rattle.hv_tree.proofs.ChildLists.{IsNest-view}

module _ {T A : Type 0} where
  held : (ys : List (Box ((b : Branch T A) × IsNest (lines b)) A)) → AreNests (map boxed_lines (map (λ y. record { ptr = y.ptr; alloc = y.alloc; value = y.value.0 }) ys))
  held [] = tt
  held (y ∷ ys) = (y.value.1, held ys)

  pub nest : (b : Branch T A) → IsNest (lines b)
  nest = ind-Branch T A (λ b. IsNest (lines b)) (λ n. IsNest (node_lines n))
      (λ x y e. subst (λ es. IsNest es) (sym (fold-roll-Branch T A (List (Line T)) (List (Line T)) (λ s. s.node) (λ s. (s.id, (None, Some s.content)) ∷ below s.id s.children.items) x))
      (subst (λ n. IsNest (node_lines n)) (ap (λ s. s.node) e) y.node.1))
      (λ x y e. subst (λ es. IsNest es) (sym (fold-roll-Node T A (List (Line T)) (List (Line T)) (λ s. s.node) (λ s. (s.id, (None, Some s.content)) ∷ below s.id s.children.items) x))
      (IsNest-view x.id (Some x.content) (map boxed_lines x.children.items) (subst (λ ks. AreNests (map boxed_lines ks)) (ap (λ s. s.children.items) e) (held y.children.items))))

  pub nests : (ks : List (Box (Branch T A) A)) → AreNests (map boxed_lines ks)
  nests [] = tt
  nests (k ∷ ks) = (nest k.value, nests ks)

  pub nest-node : (n : Node T A) → IsNest (node_lines n)
  nest-node n = subst (λ es. IsNest es) (fold-roll-Branch T A (List (Line T)) (List (Line T)) (λ s. s.node) (λ s. (s.id, (None, Some s.content)) ∷ below s.id s.children.items) (record { node = n }))
      (nest (roll-Branch T A (record { node = n })))
