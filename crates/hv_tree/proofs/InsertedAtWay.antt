-- What is put in where a way leads.
use Rattle.std.proofs.Common.{◌≡◌, ℕ, ◌≤◌, Option, None, Some, List, [], ◌∷◌, ◌++◌, length, slice_get, slice_set, Vec, Box, refl, sym, ap, ◌∙◌, option_map, option_and_then}
use Rattle.std.proofs.lemmas.Option.{get_or_from_slice_get}
use Rattle.std.proofs.lemmas.List.{set-get_or}
use Rattle.std.specs.Vec.{with_item}
use Rattle.std.specs.Box.{with_value}
use mathlib.Core.HLevel.{is_prop→PathP}
use native.Mathlib.Nat.{ℕ_set}
use native.Mathlib.Bridge.{le_prop}
use Rattle.hv_tree.specs.declared.node.Branch.{Branch, roll-out-Branch}
use Rattle.hv_tree.specs.declared.node.Node.{Node, out-Node, roll-Node, roll-out-Node}
use Rattle.hv_tree.specs.Put.{node_of, put_node, child_of, put_in, put_child, reach, below, put_far}

-- one name, and functions that agree
pub same_name : {G X Y : Type 0} {name : G} {f h : X → Y} → ((w : X) → f w ≡ h w) → ◌≡◌ {A = G × (X → Y)} (name, f) (name, h)
same_name {name = name} e = λ t. (name, λ w. e w t)

same_set : {X : Type 0} (xs : List X) (i : ℕ) (x : X) → slice_get xs i ≡ Some x → slice_set xs i x ≡ xs
same_set xs i x e = ap (λ y. slice_set xs i y) (sym (get_or_from_slice_get xs i x x e)) ∙ set-get_or xs i x

same_item : {X Z : Type 0} (v : Vec X Z) (i : ℕ) (b : X) → slice_get v.items i ≡ Some b → with_item v i b ≡ v
same_item v i b e = let items = same_set v.items i b e in λ j. record {
  ptr = v.ptr;
  len = v.len;
  cap = v.cap;
  alloc = v.alloc;
  items = items j;
  ok = is_prop→PathP (λ j. (v.len ≡ length (items j)) × (v.len ≤ v.cap)) (λ j x y k. (ℕ_set _ _ x.0 y.0 k, le_prop x.1 y.1 k)) (with_item v i b).ok v.ok j;
  small = v.small;
}

module _ {T A : Type 0} where
  -- what is written to the value in the box at i
  pub put_there : (n : Node T A) (i : ℕ) (b : Box (Branch T A) A) (k : Branch T A) → slice_get (out-Node T A n).children.items i ≡ Some b
      → roll-Node T A (record (out-Node T A n) { children = with_item (out-Node T A n).children i (with_value b k) }) ≡ put_child n i k
  put_there n i b k e = sym (ap (put_in n i k) e)

  same_in : (n : Node T A) (i : ℕ) (k : Branch T A) (o : Option (Box (Branch T A) A)) → slice_get (out-Node T A n).children.items i ≡ o → option_map (λ b. b.value) o ≡ Some k → put_in n i k o ≡ n
  same_in n i k None at e = cc
  same_in n i k (Some b) at e =
      let value : b.value ≡ k = cc in
      ap (λ v. roll-Node T A (record (out-Node T A n) { children = v }))
      (ap (λ w. with_item (out-Node T A n).children i (with_value b w)) (sym value) ∙ same_item (out-Node T A n).children i b at)
      ∙ roll-out-Node T A n

  -- a child is put back as it was
  pub same_child : (n : Node T A) (i : ℕ) (k : Branch T A) → child_of n i ≡ Some k → put_child n i k ≡ n
  same_child n i k e = same_in n i k (slice_get (out-Node T A n).children.items i) refl e

  same_node : (b : Branch T A) → put_node b (node_of b) ≡ b
  same_node b = roll-out-Branch T A b

  -- what stands there is put back as it was
  pub same_far : (is : List ℕ) (b : Branch T A) (n : Node T A) → reach is b ≡ Some n → put_far is b n ≡ b
  same_far [] b n e = let same : node_of b ≡ n = cc in ap (put_node b) (sym same) ∙ same_node b
  same_far (i ∷ is) b n e = by (λ k h. same_far is k n h) (child_of (node_of b) i) refl e
    where
      by : ((k : Branch T A) → reach is k ≡ Some n → put_far is k n ≡ k) → (o : Option (Branch T A)) → child_of (node_of b) i ≡ o → option_and_then (reach is) o ≡ Some n → put_node b
          (put_child (node_of b) i (below b (λ k. put_far is k n) o)) ≡ b
      by below-is None at h = cc
      by below-is (Some k) at h = ap (λ m. put_node b (put_child (node_of b) i m)) (below-is k h) ∙ ap (put_node b) (same_child (node_of b) i k at) ∙ same_node b

  -- a way in two parts
  pub far_two : (is js : List ℕ) (i : ℕ) (b : Branch T A) (n : Node T A) (k : Branch T A) (w : Node T A) → reach is b ≡ Some n → child_of n i ≡ Some k
      → put_far (is ++ i ∷ js) b w ≡ put_far is b (put_child n i (put_far js k w))
  far_two [] js i b n k w e f =
      let same : node_of b ≡ n = cc in
      rw same (ap (λ o. put_node b (put_child n i (below b (λ m. put_far js m w) o))) f)
  far_two (j ∷ is) js i b n k w e f = by (λ m h. far_two is js i m n k w h f) (child_of (node_of b) j) e
    where
      by : ((m : Branch T A) → reach is m ≡ Some n → put_far (is ++ i ∷ js) m w ≡ put_far is m (put_child n i (put_far js k w))) → (o : Option (Branch T A)) → option_and_then (reach is) o ≡ Some n
          → put_node b (put_child (node_of b) j (below b (λ m. put_far (is ++ i ∷ js) m w) o)) ≡ put_node b (put_child (node_of b) j (below b (λ m. put_far is m (put_child n i (put_far js k w))) o))
      by below-is None h = cc
      by below-is (Some m) h = ap (λ x. put_node b (put_child (node_of b) j x)) (below-is m h)

  pub reach_two : (is js : List ℕ) (i : ℕ) (b : Branch T A) (n : Node T A) (k : Branch T A) → reach is b ≡ Some n → child_of n i ≡ Some k
      → reach (is ++ i ∷ js) b ≡ reach js k
  reach_two [] js i b n k e f = let same : node_of b ≡ n = cc in rw same (rw f refl)
  reach_two (j ∷ is) js i b n k e f = by (λ m h. reach_two is js i m n k h f) (child_of (node_of b) j) e
    where
      by : ((m : Branch T A) → reach is m ≡ Some n → reach (is ++ i ∷ js) m ≡ reach js k) → (o : Option (Branch T A)) → option_and_then (reach is) o ≡ Some n → option_and_then (reach (is ++ i ∷ js)) o
          ≡ reach js k
      by below-is None h = cc
      by below-is (Some m) h = below-is m h
