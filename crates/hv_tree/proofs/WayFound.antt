-- The way that the index tells leads to the node with the id.
use Rattle.std.proofs.Common.{◌≡◌, ◌≢◌, ℕ, zero, suc, ◌<◌, true, false, inl, inr, Option, None, Some, [], ◌∷◌, ◌++◌, refl, sym, ap, subst, ◌∙◌, arith, slice_get, option_map, option_and_then}
use Rattle.std.proofs.Common.{List, unwrap_or}
use Rattle.std.proofs.lemmas.Bool.{cases_Bool}
use Rattle.hv_tree.specs.declared.index.TheConstants.{MOST}
use Rattle.hv_tree.specs.declared.node.Branch.{Branch}
use Rattle.hv_tree.specs.declared.node.Node.{Node, out-Node}
use Rattle.hv_tree.specs.Nest.{has_row, look, top, place, HasDepthIn, IsFound}
use Rattle.hv_tree.specs.Lines.{lines, node_lines}
use Rattle.hv_tree.specs.Put.{node_of, child_of, reach}
use Rattle.hv_tree.specs.Index.{IsLaid}
use Rattle.hv_tree.specs.Way.{line, depth, id_of, children_of, place_by, places, way_to, AreRising, IsReached}
use Rattle.hv_tree.proofs.ParentChain.{line-more, line-zero, depth-none}
use Rattle.hv_tree.proofs.Steps.{place-found, slice-some, split_some}
use Rattle.hv_tree.proofs.Levels.{top-lines, top-node}
use Rattle.hv_tree.proofs.NestedRows.{nest}
use Rattle.hv_tree.proofs.Lists.{get_or_any}
use Rattle.hv_tree.proofs.Order.{place-has}
use Rattle.hv_tree.proofs.ChildRows.{found_has}
use Rattle.hv_tree.proofs.Laws.{parent_above, above_parent}
use Rattle.hv_tree.proofs.TreeAsMap.{root_only, root_top}
use Rattle.hv_tree.proofs.IndexedParents.{at_top, has-over, lower}
use Rattle.hv_tree.proofs.DepthAndOrder.{depth-has, depth-place, depth-same, reach-found, rising-all}
use Rattle.hv_tree.proofs.ChangedNode.{child-named}

module _ {T A : Type 0} (up : ℕ → Option ℕ) (b : Branch T A) (l : IsLaid (lines b) up) where
  pub laid-rising : AreRising b
  laid-rising = rising-all b l.distinct l.rising

  pub named : (q p : ℕ) → up q ≡ Some p → option_map (λ r. r.0) (look q (lines b)) ≡ Some (Some p)
  named q p e = above_parent (look q (lines b)) p (sym (l.indexed q) ∙ e)

  -- an id with a parent is there
  pub has-named : (q p : ℕ) → up q ≡ Some p → has_row q (lines b) ≡ true
  has-named q p e = found_has q (lines b) (λ r. r.0) (Some p) (sym (named q p e))

  -- the root has no parent
  pub root-top : (q : ℕ) → q ≡ id_of b → up q ≡ None
  root-top q e =
      let is : q ≡ top (lines b) = e ∙ sym (top-lines b) in
      l.indexed q ∙ parent_above (look q (lines b)) ∙ ap (option_and_then (λ a. a)) (ap (λ x. option_map (λ r. r.0) (look x (lines b))) is ∙ root_top (lines b) (nest b).topped)

  -- and it alone of those that are there
  pub top-root : (q : ℕ) → has_row q (lines b) ≡ true → up q ≡ None → q ≡ id_of b
  top-root q has e = root_only q (lines b) (nest b).topped (at_top up (lines b) (nest b) l.indexed q has e) ∙ top-lines b

  pub low : (q : ℕ) → has_row q (lines b) ≡ true → place q (lines b) < MOST
  low q has = omega (arith, place-has q (lines b) has, l.fits)

  pub few-steps : (q : ℕ) → has_row q (lines b) ≡ true → depth up MOST q < MOST
  few-steps q has = omega (arith, low q has, depth-place up (lines b) (nest b) l.indexed MOST q has)

  pub depth-laid : (q : ℕ) → has_row q (lines b) ≡ true → HasDepthIn (lines b) q (depth up MOST q)
  depth-laid q has = depth-has up (lines b) (nest b) l.indexed MOST q (low q has) has

  -- what the way leads to is found
  led-found : (q : ℕ) (n : Node T A) → reach (way_to up q b) b ≡ Some n → (out-Node T A n).id ≡ q → IsReached up q b n
  led-found q n led here = record {
    led = led;
    here = here;
    found = subst (λ x. IsFound x (lines b) (node_lines n)) (top-node n ∙ here) (reach-found (way_to up q b) b n led l.distinct);
    rising = laid-rising (way_to up q b) n led;
  }

  pub root-reached : (q : ℕ) → q ≡ id_of b → IsReached up q b (node_of b)
  root-reached q e =
      let none : depth up MOST q ≡ 0 = depth-none up MOST q (root-top q e) in
      led-found q (node_of b) (ap (λ s. reach (places (line up s q) b) b) none ∙ ap (λ xs. reach (places xs b) b) (line-zero up q)) (sym e)

  -- the node that is the parent has the child
  pub child-there : (p q : ℕ) (n : Node T A) → IsReached up p b n → up q ≡ Some p → (k : Branch T A) × (child_of n (place_by q (children_of n)) ≡ Some k) × (id_of k ≡ q)
  child-there p q n r e =
      let h = child-named up b p q n r (named q p e) in
      let at : place_by q (children_of n) ≡ h.at = place-found q (children_of n) h.at r.rising h.within
      (λ d. ap (λ x. id_of x.value) (get_or_any (children_of n) h.at d h.child h.within ∙ sym h.is) ∙ h.here) in
      let got : slice_get (children_of n) h.at ≡ Some h.child = slice-some (children_of n) h.at h.child h.within ∙ ap Some (sym h.is) in
      (h.child.value, ap (λ i. child_of n i) at ∙ ap (option_map (λ x. x.value)) got, h.here)

  pub child-reached : (p q : ℕ) (n : Node T A) (k : Branch T A) → IsReached up p b n → up q ≡ Some p → child_of n (place_by q (children_of n)) ≡ Some k → id_of k ≡ q → IsReached up q b (node_of k)
  child-reached p q n k r e child here =
      let d = depth up MOST p in
      let deep : depth up MOST q ≡ suc d = depth-same (lines b) q (depth up MOST q) (suc d) (depth-laid q (has-named q p e)) (p, named q p e, depth-laid p r.found.there) in
      let whole : line up (depth up MOST q) q ≡ line up d p ++ q ∷ [] = ap (λ n. line up n q) deep ∙ line-more up d q ∙ ap (λ o. line up d (unwrap_or o q) ++ q ∷ []) e in
      led-found q (node_of k) (split_some (line up d p) [] (line up (depth up MOST q) q) q b n k whole (sym r.led) (sym child)) here

  -- what a search among the children of the parent finds is the node with the id
  pub child-found : (p q : ℕ) (n child : Node T A) → IsReached up p b n → up q ≡ Some p → option_map (λ k. node_of k) (child_of n (place_by q (children_of n))) ≡ Some child → IsReached up q b child
  child-found p q n child r e found =
      let there = child-there p q n r e in
      let is : Some (node_of there.0) ≡ Some child = sym (ap (option_map (λ k. node_of k)) there.1) ∙ found in
      let same : node_of there.0 ≡ child = cc in
      subst (λ x. IsReached up q b x) same (child-reached p q n there.0 r e there.1 there.2)

  -- and it finds one
  pub child-kept : (p q : ℕ) (n : Node T A) → IsReached up p b n → up q ≡ Some p → option_map (λ k. node_of k) (child_of n (place_by q (children_of n))) ≢ None
  child-kept p q n r e none =
      let there = child-there p q n r e in
      let clash : Some (node_of there.0) ≡ None = sym (ap (option_map (λ k. node_of k)) there.1) ∙ none in
      cc

  sought : (most q : ℕ) → place q (lines b) < most → has_row q (lines b) ≡ true → (n : Node T A) × IsReached up q b n
  sought zero q lo has = absurd (omega (arith, lo))
  sought (suc m) q lo has = by (λ p lo h. sought m p lo h) (up q) refl
    where
      by : ((p : ℕ) → place p (lines b) < m → has_row p (lines b) ≡ true → (n : Node T A) × IsReached up p b n) → (o : Option ℕ) → up q ≡ o → (n : Node T A) × IsReached up q b n
      by rest None e = (node_of b, root-reached q (top-root q has e))
      by rest (Some p) e =
          let r = rest p (omega (arith, lo, lower up (lines b) (nest b) l.indexed q has p e)) (has-over up (lines b) (nest b) l.indexed q has p e) in
          let k = child-there p q r.0 r.1 e in
          (node_of k.0, child-reached p q r.0 k.0 r.1 e k.1 k.2)

  -- in a tree the way leads to each node that is there
  pub reached : (q : ℕ) → has_row q (lines b) ≡ true → (n : Node T A) × IsReached up q b n
  reached q has = sought MOST q (low q has) has

  -- the ids of a path lead the way
  pub path-way : (q steps : ℕ) (ids : List ℕ) → steps ≡ depth up MOST q → ids ≡ line up steps q → places ids b ≡ way_to up q b
  path-way q steps ids deep is = ap (λ l. places l b) (is ∙ ap (λ n. line up n q) deep)

  -- the parent of an id is there
  pub has-parent : (q p : ℕ) → up q ≡ Some p → has_row p (lines b) ≡ true
  has-parent q p e = has-over up (lines b) (nest b) l.indexed q (has-named q p e) p e

  pub falls : (q p : ℕ) → up q ≡ Some p → place p (lines b) < place q (lines b)
  falls q p e = lower up (lines b) (nest b) l.indexed q (has-named q p e) p e

  -- an id without a parent that is not the root's is not there
  pub lost : (q : ℕ) → q ≢ id_of b → up q ≡ None → has_row q (lines b) ≡ false
  lost q off e = elim (cases_Bool (has_row q (lines b))) [
    | inl s ↦ absurd (off (top-root q s e))
    | inr s ↦ s
  ]
