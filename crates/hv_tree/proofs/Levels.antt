-- The rows of a branch, one level at a time.
use Rattle.std.proofs.Common.{◌≡◌, ℕ, None, Some, List, ◌∷◌, Box, map, slice_get, slice_set, ap, ◌∙◌}
use Rattle.hv_tree.specs.declared.node.Branch.{Branch, out-Branch, out-roll-Branch, fold_out-Branch}
use Rattle.hv_tree.specs.declared.node.Node.{Node, out-Node, out-roll-Node, fold_out-Node}
use Rattle.hv_tree.specs.Put.{node_of, content_of, put_node, put_child, put_in}
use Rattle.std.specs.Vec.{with_item}
use Rattle.std.specs.Box.{with_value}
use Rattle.hv_tree.specs.Nest.{Line, top}
use Rattle.hv_tree.specs.Below.{below}
use Rattle.hv_tree.specs.Lines.{lines, node_lines, boxed_lines}

module _ {T A : Type 0} where
  pub lines-node : (b : Branch T A) → lines b ≡ node_lines (node_of b)
  lines-node b = fold_out-Branch T A (List (Line T)) (List (Line T)) (λ s. s.node) (λ s. (s.id, (None, Some s.content)) ∷ below s.id s.children.items) b

  pub node-lines : (n : Node T A) → node_lines n ≡ ((out-Node T A n).id, (None, Some (content_of n))) ∷ below (out-Node T A n).id (map boxed_lines (out-Node T A n).children.items)
  node-lines n = fold_out-Node T A (List (Line T)) (List (Line T)) (λ s. s.node) (λ s. (s.id, (None, Some s.content)) ∷ below s.id s.children.items) n

  pub node_of-put : (b : Branch T A) (n : Node T A) → node_of (put_node b n) ≡ n
  node_of-put b n = ap (λ s. s.node) (out-roll-Branch T A (record (out-Branch T A b) { node = n }))

  -- a child is written
  pub lines-put_child : (b : Branch T A) (i : ℕ) (x : Box (Branch T A) A) (k : Branch T A) → slice_get (out-Node T A (node_of b)).children.items i ≡ Some x
      → lines (put_node b (put_child (node_of b) i k))
      ≡ ((out-Node T A (node_of b)).id, (None, Some (content_of (node_of b)))) ∷ below (out-Node T A (node_of b)).id
      (map boxed_lines (slice_set (out-Node T A (node_of b)).children.items i (with_value x k)))
  lines-put_child b i x k at =
      let n = node_of b in
      ap (λ m. lines (put_node b m)) (ap (put_in n i k) at)
      ∙ lines-node (put_node b (put_in n i k (Some x))) ∙ ap (λ m. node_lines m) (node_of-put b (put_in n i k (Some x))) ∙ node-lines (put_in n i k (Some x))
      ∙ ap (λ s. (s.id, (None, Some s.content)) ∷ below s.id (map boxed_lines s.children.items))
      (out-roll-Node T A (record (out-Node T A n) { children = with_item (out-Node T A n).children i (with_value x k) }))

  pub lines-put : (b : Branch T A) (n : Node T A) → lines (put_node b n) ≡ node_lines n
  lines-put b n = lines-node (put_node b n) ∙ ap (λ m. node_lines m) (node_of-put b n)

  pub whole : (b : Branch T A) → lines b ≡ ((out-Node T A (node_of b)).id, (None, Some (content_of (node_of b)))) ∷ below (out-Node T A (node_of b)).id
      (map boxed_lines (out-Node T A (node_of b)).children.items)
  whole b = lines-node b ∙ node-lines (node_of b)

  pub top-lines : (b : Branch T A) → top (lines b) ≡ (out-Node T A (node_of b)).id
  top-lines b = ap top (whole b)

  pub top-node : (n : Node T A) → top (node_lines n) ≡ (out-Node T A n).id
  top-node n = ap top (node-lines n)
