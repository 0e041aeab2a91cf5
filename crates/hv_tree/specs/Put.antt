-- A tree with one part replaced at the end of a way.
use Rattle.std.specs.Prelude.{◌≡◌, ℕ, List, [], ◌∷◌, Option, None, Some, slice_get, Box, option_map}
use Rattle.std.specs.Prelude.{option_and_then}
use Rattle.std.specs.Vec.{with_item}
use Rattle.std.specs.Box.{with_value}
use Rattle.hv_tree.specs.declared.node.Branch.{Branch, out-Branch, roll-Branch}
use Rattle.hv_tree.specs.declared.node.Node.{Node, out-Node, roll-Node}

module _ {T A : Type 0} where
  abbrev pub node_of : Branch T A → Node T A
  node_of b = (out-Branch T A b).node

  abbrev pub put_node : Branch T A → Node T A → Branch T A
  put_node b n = roll-Branch T A (record (out-Branch T A b) { node = n })

  abbrev pub content_of : Node T A → T
  content_of n = (out-Node T A n).content

  abbrev pub put_content : Node T A → T → Node T A
  put_content n c = roll-Node T A (record (out-Node T A n) { content = c })

  -- the child at i
  abbrev pub child_of : Node T A → ℕ → Option (Branch T A)
  child_of n i = option_map (λ b. b.value) (slice_get (out-Node T A n).children.items i)

  -- n with k in the box at i, if there is one
  abbrev pub put_in : Node T A → ℕ → Branch T A → Option (Box (Branch T A) A) → Node T A
  put_in n i k None = n
  put_in n i k (Some b) = roll-Node T A (record (out-Node T A n)
      { children = with_item (out-Node T A n).children i (with_value b k) })

  -- n with k as the child at i, if there is one
  abbrev pub put_child : Node T A → ℕ → Branch T A → Node T A
  put_child n i k = put_in n i k (slice_get (out-Node T A n).children.items i)

  -- the node to which the way leads, if there is one
  abbrev pub reach : List ℕ → Branch T A → Option (Node T A)
  reach [] b = Some (node_of b)
  reach (i ∷ is) b = option_and_then (reach is) (child_of (node_of b) i)

  abbrev pub below : Branch T A → (Branch T A → Branch T A) → Option (Branch T A) → Branch T A
  below b f None = b
  below b f (Some k) = f k

  -- b with n in place of the node to which the way leads
  abbrev pub put_far : List ℕ → Branch T A → Node T A → Branch T A
  put_far [] b n = put_node b n
  put_far (i ∷ is) b n = put_node b (put_child (node_of b) i
      (below b (λ k. put_far is k n) (child_of (node_of b) i)))

  -- n with the content c, if there is a node
  abbrev pub put_content_in : List ℕ → Branch T A → T → Option (Node T A) → Branch T A
  put_content_in is b c None = b
  put_content_in is b c (Some n) = put_far is b (put_content n c)

  -- b with the content c at the node to which the way leads
  abbrev pub put_content_far : List ℕ → Branch T A → T → Branch T A
  put_content_far is b c = put_content_in is b c (reach is b)

  -- the way leads to a node with the id and the content
  abbrev pub IsContentAt : List ℕ → ℕ → Branch T A → T → Type 0
  IsContentAt is q b c = (n : Node T A) × (reach is b ≡ Some n) × ((out-Node T A n).id ≡ q) ×
      (content_of n ≡ c)
