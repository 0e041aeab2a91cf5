-- What a change where a way leads is to the rows of the branch.
use Rattle.std.proofs.Common.{◌≡◌, ℕ, zero, suc, ◌<◌, Option, None, Some, List, [], ◌∷◌, Box, length, map, set, get_or, slice_get, refl, sym, ap, subst, ◌∙◌, arith, option_map, option_and_then}
use Rattle.std.specs.Box.{with_value}
use Rattle.hv_tree.specs.declared.node.Branch.{Branch}
use Rattle.hv_tree.specs.declared.node.Node.{Node, out-Node}
use Rattle.hv_tree.specs.Nest.{Line, AreDistinct}
use Rattle.hv_tree.specs.Below.{below, AreNests}
use Rattle.hv_tree.specs.Put.{node_of, content_of, put_node, put_child, put_far, reach, below as under}
use Rattle.hv_tree.specs.Lines.{lines, node_lines, boxed_lines}
use Rattle.hv_tree.proofs.Levels.{lines-node, lines-put, lines-put_child, whole}
use Rattle.hv_tree.proofs.NestedRows.{nests}
use Rattle.hv_tree.proofs.ChildRows.{AreDistinct-child}

pub map-set : {X Y : Type 0} (f : X → Y) (xs : List X) (i : ℕ) (y : X) → map f (set xs i y) ≡ set (map f xs) i (f y)
map-set f [] i y = refl
map-set f (x ∷ xs) zero y = refl
map-set f (x ∷ xs) (suc i) y = ap (λ ys. f x ∷ ys) (map-set f xs i y)

pub at-mapped : {X Y : Type 0} (f : X → Y) (xs : List X) (i : ℕ) (x : X) → slice_get xs i ≡ Some x → (i < length (map f xs)) × (f x ≡ get_or (map f xs) i (f x))
at-mapped f [] i x e = absurd (none_some e)
  where
    none_some : {X : Type 0} {x : X} → None ≡ Some x → ⊥
    none_some e = cc
at-mapped f (y ∷ xs) zero x e = (omega arith, (let same : y ≡ x = cc in ap f (sym same)))
at-mapped f (y ∷ xs) (suc i) x e = let rest = at-mapped f xs i x e in (omega (arith, rest.0), rest.1)

-- what holds of a child's rows holds of its parent's
abbrev pub Rises : {T : Type 0} → (A : Type 0) → (List (Line T) → List (Line T) → Type 0) → Type 0
Rises {T} A R = (own : ℕ) (c : Option T) (ks : List (Box (List (Line T)) A)) (i : ℕ) (k : Box (List (Line T)) A) → i < length ks → k ≡ get_or ks i k → AreDistinct ((own, (None, c)) ∷ below own ks) →
    AreNests ks
    → (new : List (Line T)) → R k.value new → R ((own, (None, c)) ∷ below own ks) ((own, (None, c)) ∷ below own (set ks i (with_value k new)))

module _ {T A : Type 0} (R : List (Line T) → List (Line T) → Type 0) where
  pub lifted : Rises A R → (is : List ℕ) (b : Branch T A) (n w : Node T A) → reach is b ≡ Some n → AreDistinct (lines b) → (AreDistinct (node_lines n) → R (node_lines n) (node_lines w)) → R (lines b)
      (lines (put_far is b w))
  lifted rise [] b n w e d h =
      let same : node_of b ≡ n = cc in
      let was : lines b ≡ node_lines n = lines-node b ∙ ap (λ m. node_lines m) same in
      subst (λ es. R es (lines (put_node b w))) (sym was) (subst (λ es. R (node_lines n) es) (sym (lines-put b w)) (h (subst (λ es. AreDistinct es) was d)))
  lifted rise (i ∷ is) b n w e d h = by (λ k g dk. lifted rise is k n w g dk h) (slice_get (out-Node T A (node_of b)).children.items i) refl e
    where
      own : ℕ
      own = (out-Node T A (node_of b)).id

      ks : List (Box (List (Line T)) A)
      ks = map boxed_lines (out-Node T A (node_of b)).children.items

      content : Option T
      content = Some (content_of (node_of b))

      by : ((k : Branch T A) → reach is k ≡ Some n → AreDistinct (lines k) → R (lines k) (lines (put_far is k w)))
          → (o : Option (Box (Branch T A) A)) → slice_get (out-Node T A (node_of b)).children.items i ≡ o → option_and_then (reach is) (option_map (λ x. x.value) o) ≡ Some n
          → R (lines b) (lines (put_node b (put_child (node_of b) i (under b (λ k. put_far is k w) (option_map (λ x. x.value) o)))))
      by lower None at g = cc
      by lower (Some x) at g =
          let k = boxed_lines x in
          let placed = at-mapped boxed_lines (out-Node T A (node_of b)).children.items i x at in
          let dw : AreDistinct ((own, (None, content)) ∷ below own ks) = subst (λ es. AreDistinct es) (whole b) d in
          let new = put_far is x.value w in
          let sub = lower x.value g (AreDistinct-child own ks i k placed.0 placed.1 content dw) in
          let step : lines (put_node b (put_child (node_of b) i new)) ≡ (own, (None, content)) ∷ below own (set ks i (with_value k (lines new))) =
          lines-put_child b i x new at
          ∙ ap (λ zs. (own, (None, content)) ∷ below own zs) (map-set boxed_lines (out-Node T A (node_of b)).children.items i (with_value x new)) in
          let up = rise own content ks i k placed.0 placed.1 dw (nests (out-Node T A (node_of b)).children.items) (lines new) sub in
          subst (λ es. R es (lines (put_node b (put_child (node_of b) i new)))) (sym (whole b)) (subst (λ es. R ((own, (None, content)) ∷ below own ks) es) (sym step) up)
