-- How deep a row is, and that the children of each node rise.
use Rattle.std.proofs.lemmas.Bool.{cases_Bool, eqb-false}
use Rattle.std.proofs.Common.{eqb-true, ltb-true, ltb-false, ◌≡◌, ◌≢◌, ℕ, zero, suc, ◌+◌, ◌<◌, ◌≤◌, true, ◌==◌, inl, inr, Option, None, Some, List, [], ◌∷◌, Box, refl, sym, ap, subst, ◌∙◌, arith}
use Rattle.std.proofs.Common.{length, map, get_or}
use Rattle.std.proofs.Math.Dec.{ltb}
use Rattle.std.specs.List.Sorted.{IsNonDecreasing}
use Rattle.std.proofs.lemmas.List.{length-map}
use Rattle.hv_tree.specs.Rows.{children_in}
use Rattle.hv_tree.specs.declared.node.Branch.{Branch}
use Rattle.hv_tree.specs.declared.node.Node.{Node, out-Node}
use Rattle.hv_tree.specs.Nest.{Line, has_row, top, place, uses, AreDistinct, HasDepthIn, IsFound, IsNest}
use Rattle.hv_tree.specs.Below.{below}
use Rattle.hv_tree.specs.Lines.{lines, node_lines, boxed_lines}
use Rattle.hv_tree.specs.Put.{content_of, reach}
use Rattle.hv_tree.specs.Index.{IsIndexOf}
use Rattle.hv_tree.specs.Way.{depth, depth_from, id_of, children_of, AreRising}
use Rattle.hv_tree.proofs.ParentChain.{depth-more, depth-zero}
use Rattle.hv_tree.proofs.Levels.{top-lines, node-lines}
use Rattle.hv_tree.proofs.NestedRows.{nest, nests, nest-node}
use Rattle.hv_tree.proofs.ChangedBranch.{lifted}
use Rattle.hv_tree.proofs.Lists.{get_or_any}
use Rattle.hv_tree.proofs.ChildLists.{kids-view}
use Rattle.hv_tree.proofs.RemovedRow.{has-nest}
use Rattle.hv_tree.proofs.FoundNode.{IsFound-self, IsFound-child}
use Rattle.hv_tree.proofs.IndexedParents.{same_child, at_top, over, has-over, lower}

-- how deep a row is, by the climb
module _ {T : Type 0} (up : ℕ → Option ℕ) (es : List (Line T)) (n : IsNest es) (f : IsIndexOf es up) where
  pub depth-has : (most q : ℕ) → place q es < most → has_row q es ≡ true → HasDepthIn es q (depth up most q)
  depth-has zero q low has = absurd (omega (arith, low))
  depth-has (suc m) q low has = subst (HasDepthIn es q) (sym (depth-more up m q)) (by (λ p lo h. depth-has m p lo h) (up q) refl)
    where
      by : ((p : ℕ) → place p es < m → has_row p es ≡ true → HasDepthIn es p (depth up m p)) → (o : Option ℕ) → up q ≡ o → HasDepthIn es q (depth_from (depth up m) o)
      by rest None e = at_top up es n f q has e
      by rest (Some p) e =
          let fall : place p es < place q es = lower up es n f q has p e in
          let deep : suc (depth up m p) ≡ depth up m p + 1 = omega arith in
          subst (HasDepthIn es q) deep (p, over up es n f q has p e, rest p (omega (arith, low, fall)) (has-over up es n f q has p e))

  pub depth-place : (most q : ℕ) → has_row q es ≡ true → depth up most q ≤ place q es
  depth-place zero q has = omega (arith, depth-zero up q)
  depth-place (suc m) q has = subst (λ d. d ≤ place q es) (sym (depth-more up m q)) (by (λ p h. depth-place m p h) (up q) refl)
    where
      by : ((p : ℕ) → has_row p es ≡ true → depth up m p ≤ place p es) → (o : Option ℕ) → up q ≡ o → depth_from (depth up m) o ≤ place q es
      by rest None e = omega arith
      by rest (Some p) e = omega (arith, lower up es n f q has p e, rest p (has-over up es n f q has p e))

-- a row has one depth
pub depth-same : {C : Type 0} (es : List (ℕ × (Option ℕ × C))) (q d e : ℕ) → HasDepthIn es q d → HasDepthIn es q e → d ≡ e
depth-same es q zero zero h g = refl
depth-same es q zero (suc e) h (p, named, g) = absurd (none_some (sym h ∙ named))
  where
    none_some : {x : ℕ} → ◌≡◌ {A = Option (Option ℕ)} (Some None) (Some (Some x)) → ⊥
    none_some e = cc
depth-same es q (suc d) zero (p, named, h) g = absurd (none_some (sym g ∙ named))
  where
    none_some : {x : ℕ} → ◌≡◌ {A = Option (Option ℕ)} (Some None) (Some (Some x)) → ⊥
    none_some e = cc
depth-same es q (suc d) (suc e) (p, named, h) (r, f, g) =
    let both : ◌≡◌ {A = Option (Option ℕ)} (Some (Some r)) (Some (Some p)) = sym f ∙ named in
    let same : r ≡ p = cc in
    ap suc (depth-same es p d e h (subst (λ x. HasDepthIn es x e) same g))

get_or-mapped : {X Y : Type 0} (f : X → Y) (xs : List X) (i : ℕ) (d : X) → get_or (map f xs) i (f d) ≡ f (get_or xs i d)
get_or-mapped f [] i d = refl
get_or-mapped f (x ∷ xs) zero d = refl
get_or-mapped f (x ∷ xs) (suc i) d = get_or-mapped f xs i d

module _ {T A : Type 0} (own : ℕ) (c : Option T) (cs : List (Box (Branch T A) A)) (d : AreDistinct ((own, (None, c)) ∷ below own (map boxed_lines cs))) where
  abbrev ks : List (Box (List (Line T)) A)
  ks = map boxed_lines cs

  top_of : (i : ℕ) (x : Box (Branch T A) A) → get_or (map (λ k. top k.value) ks) i (top (lines x.value)) ≡ id_of (get_or cs i x).value
  top_of i x = get_or-mapped (λ k. top k.value) ks i (boxed_lines x) ∙ ap (λ k. top k.value) (get_or-mapped boxed_lines cs i x) ∙ top-lines (get_or cs i x).value

  here : (i : ℕ) (x : Box (Branch T A) A) → i < length ks → boxed_lines (get_or cs i x) ≡ get_or ks i (boxed_lines (get_or cs i x))
  here i x lt = sym (get_or-mapped boxed_lines cs i x) ∙ get_or_any ks i (boxed_lines x) (boxed_lines (get_or cs i x)) lt

  ranked : IsNonDecreasing (map (λ k. top k.value) ks) → (i j : ℕ) (x : Box (Branch T A) A) → i < j → j < length cs → id_of (get_or cs i x).value < id_of (get_or cs j x).value
  ranked up i j x lt lj =
      let lk : length ks ≡ length cs = length-map cs boxed_lines in
      let lm : length (map (λ k. top k.value) ks) ≡ length ks = length-map ks (λ k. top k.value) in
      let le = up i j (top (lines x.value)) (omega (arith, lt)) (omega (arith, lj, lk, lm)) in
      let a = (get_or cs i x).value in
      let b = (get_or cs j x).value in
      elim (cases_Bool (id_of a == id_of b)) [
        | inr t ↦ (let no = eqb-false (id_of a) (id_of b) t in lower_than (id_of a) (id_of b) (omega (arith, le, top_of i x, top_of j x)) no)
        | inl t ↦ (
            let e : id_of a ≡ id_of b = eqb-true (id_of a) (id_of b) t in
            let q = top (lines a) in
            let in_a : has_row q (lines a) ≡ true = has-nest (lines a) (nest a) in
            let same : top (lines b) ≡ q = top-lines b ∙ sym e ∙ sym (top-lines a) in
            let in_b : has_row q (lines b) ≡ true = subst (λ y. has_row y (lines b) ≡ true) same (has-nest (lines b) (nest b)) in
            let one : uses q (below own ks) ≤ 1 = omega (arith, d q) in
            let eq = same_child q own ks one i j (boxed_lines (get_or cs i x)) (boxed_lines (get_or cs j x)) (omega (arith, lt, lj, lk)) (omega (arith, lj, lk)) (here i x (omega (arith, lt, lj, lk)))
            (here j x (omega (arith, lj, lk))) in_a in_b in
            absurd (omega (arith, eq, lt))
            )
      ]
    where
      lower_than : (x y : ℕ) → x ≤ y → x ≢ y → x < y
      lower_than x y le off = elim (cases_Bool (ltb x y)) [
        | inl s ↦ ltb-true x y s
        | inr s ↦ absurd (off (omega (arith, le, ltb-false x y s)))
      ]

module _ {T A : Type 0} where
  -- where a way leads, the node is found
  pub reach-found : (is : List ℕ) (b : Branch T A) (n : Node T A) → reach is b ≡ Some n → AreDistinct (lines b) → IsFound (top (node_lines n)) (lines b) (node_lines n)
  reach-found is b n e d = lifted (λ es _. IsFound (top (node_lines n)) es (node_lines n))
      (λ own c ks i k lt is dist ns new h. IsFound-child own ks i k lt is c dist (top (node_lines n)) ns (node_lines n) h)
      is b n n e d (λ dn. IsFound-self (node_lines n) (nest-node n) dn)

  -- the children of each node rise
  pub rising-all : (b : Branch T A) → AreDistinct (lines b) → ((q : ℕ) → IsNonDecreasing (children_in q (lines b))) → AreRising b
  rising-all b d r is n e = λ i j x lt lj.
      let own = (out-Node T A n).id in
      let ks = map boxed_lines (children_of n) in
      let found = reach-found is b n e d in
      let dn : AreDistinct ((own, (None, Some (content_of n))) ∷ below own ks) = subst (λ es. AreDistinct es) (node-lines n) found.part.distinct in
      let kids : children_in (top (node_lines n)) (lines b) ≡ map (λ k. top k.value) ks =
      found.part.same ∙ ap (λ es. children_in (top es) es) (node-lines n) ∙ kids-view own (Some (content_of n)) ks dn (nests (children_of n)) in
      let up : IsNonDecreasing (map (λ k. top k.value) ks) = subst (λ l. IsNonDecreasing l) kids (r (top (node_lines n))) in
      ranked own (Some (content_of n)) (children_of n) dn up i j x lt lj
