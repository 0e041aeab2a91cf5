-- The way down to a node, derived from an index of parents.
use Rattle.std.specs.Prelude.{remove, unwrap_or, ◌≡◌, ℕ, zero, suc, ◌+◌, ◌<◌, ◌≤◌, ◌==◌, cond, length, List}
use Rattle.std.specs.Prelude.{[], ◌∷◌, ◌++◌, Option, None, Some, Box, get_or}
use Rattle.hv_tree.specs.declared.node.Branch.{Branch}
use Rattle.hv_tree.specs.declared.node.Node.{Node, out-Node}
use Rattle.hv_tree.specs.declared.index.TheConstants.{MOST}
use Rattle.hv_tree.specs.Nest.{IsFound}
use Rattle.hv_tree.specs.Lines.{lines, node_lines}
use Rattle.hv_tree.specs.Put.{node_of, child_of, content_of, reach}

-- the id n steps above at, where an id without a parent counts as its own parent
unfoldable pub above : (ℕ → Option ℕ) → ℕ → ℕ → ℕ
above up zero at = at
above up (suc n) at = above up n (unwrap_or (up at) at)

-- the last n ids on the way down to at, which is the last of them
unfoldable pub line : (ℕ → Option ℕ) → ℕ → ℕ → List ℕ
line up zero at = []
line up (suc n) at = line up n (unwrap_or (up at) at) ++ at ∷ []

abbrev pub depth_from : (ℕ → ℕ) → Option ℕ → ℕ
depth_from f None = 0
depth_from f (Some p) = f p + 1

-- the number of ids above at, counted up to n
unfoldable pub depth : (ℕ → Option ℕ) → ℕ → ℕ → ℕ
depth up zero at = 0
depth up (suc n) at = depth_from (depth up n) (up at)

module _ {T A : Type 0} where
  abbrev pub id_of : Branch T A → ℕ
  id_of b = (out-Node T A (node_of b)).id

  abbrev pub children_of : Node T A → List (Box (Branch T A) A)
  children_of n = (out-Node T A n).children.items

  -- the place of the first child with the id, or the end
  abbrev pub place_by : ℕ → List (Box (Branch T A) A) → ℕ
  place_by q [] = 0
  place_by q (k ∷ ks) = cond (id_of k.value == q) 0 (place_by q ks + 1)

  abbrev pub further : (Branch T A → List ℕ) → Option (Branch T A) → List ℕ
  further f None = []
  further f (Some k) = f k

  -- the places of the children with the ids, each a child of the one before
  abbrev pub places : List ℕ → Branch T A → List ℕ
  places [] b = []
  places (q ∷ qs) b = place_by q (children_of (node_of b)) ∷ further (places qs)
      (child_of (node_of b) (place_by q (children_of (node_of b))))

  -- the ids of a node's children rise
  abbrev pub IsRising : Node T A → Type 0
  IsRising n = (i j : ℕ) (d : Box (Branch T A) A) → i < j → j < length (children_of n) → id_of
      (get_or (children_of n) i d).value < id_of (get_or (children_of n) j d).value

  -- the ids of the children rise at each node of b
  abbrev pub AreRising : Branch T A → Type 0
  AreRising b = (is : List ℕ) (n : Node T A) → reach is b ≡ Some n → IsRising n

  -- the way to the node with the id
  abbrev pub way_to : (ℕ → Option ℕ) → ℕ → Branch T A → List ℕ
  way_to up q b = places (line up (depth up MOST q) q) b

  -- n is the node with the id, and the way leads to it
  pub record IsReached (up : ℕ → Option ℕ) (q : ℕ) (b : Branch T A) (n : Node T A) : Type 0 where
    pub led : reach (way_to up q b) b ≡ Some n
    pub here : (out-Node T A n).id ≡ q
    pub found : IsFound q (lines b) (node_lines n)
    pub rising : IsRising n

  -- new is old without the child with the id, which has the content and no children
  pub record IsShorn (q : ℕ) (c : T) (old new : Node T A) : Type 0 where
    pub at : ℕ
    pub child : Box (Branch T A) A
    pub within : at < length (children_of old)
    pub is : child ≡ get_or (children_of old) at child
    pub leaf : lines child.value ≡ (q, (None, Some c)) ∷ []
    pub id : (out-Node T A new).id ≡ (out-Node T A old).id
    pub content : content_of new ≡ content_of old
    pub children : children_of new ≡ remove (children_of old) at

  -- the node has a child with the id
  pub record HasChild (q : ℕ) (n : Node T A) : Type 0 where
    pub at : ℕ
    pub child : Box (Branch T A) A
    pub within : at < length (children_of n)
    pub is : child ≡ get_or (children_of n) at child
    pub here : id_of child.value ≡ q

  -- the node has a child with the id, which has children
  pub record HasParent (q : ℕ) (n : Node T A) : Type 0 where
    pub at : ℕ
    pub child : Box (Branch T A) A
    pub within : at < length (children_of n)
    pub is : child ≡ get_or (children_of n) at child
    pub here : id_of child.value ≡ q
    pub many : 1 ≤ length (children_of (node_of child.value))
