-- What a change of the node where a way leads is to the rows of the tree.
use Rattle.std.proofs.lemmas.Bool.{cases_Bool}
use Rattle.std.proofs.Common.{eqb-true, eq-eqb, ◌≡◌, ℕ, zero, suc, ◌<◌, ◌≤◌, Bool, true, false, cond, ◌==◌, inl, inr, Option, None, Some, List, [], ◌∷◌, ◌++◌, Box, Vec, length, map, set, get_or, refl}
use Rattle.std.proofs.Common.{sym, ap, subst, ◌∙◌, arith, Contains, insert, remove, option_map, get_or-set_same}
use Rattle.std.specs.Box.{with_value}
use Rattle.std.specs.List.Sorted.{IsNonDecreasing, IsNonDecreasingBy}
use Rattle.std.proofs.lemmas.List.{length-map}
use Rattle.hv_tree.specs.Rows.{children_in}
use Rattle.hv_tree.specs.declared.node.Branch.{Branch}
use Rattle.hv_tree.specs.declared.node.Node.{Node, out-Node, roll-Node, out-roll-Node}
use Rattle.hv_tree.specs.Nest.{Line, has_row, look, top, put_at, AreDistinct, IsNest, IsFound, IsGrownBy, IsWithout}
use Rattle.hv_tree.specs.Below.{below, AreNests}
use Rattle.hv_tree.specs.Edited.{edited_in, IsEditedFrom}
use Rattle.hv_tree.specs.Lines.{lines, node_lines, boxed_lines}
use Rattle.hv_tree.specs.Put.{node_of, content_of, child_of, put_content, put_far, reach}
use Rattle.hv_tree.specs.Way.{id_of, children_of, IsReached, IsShorn, HasChild, HasParent}
use Rattle.hv_tree.proofs.Lists.{set-same, get_or_any}
use Rattle.hv_tree.proofs.ChildLists.{kids-view, length-kids, AreNests-set, IsNest-view}
use Rattle.hv_tree.proofs.ChildRows.{AreDistinct-child, grown-here, grown-child, kids-child}
use Rattle.hv_tree.proofs.RemovedRow.{IsWithout-here, IsWithout-child, has-nest}
use Rattle.hv_tree.proofs.FoundNode.{there-child, put-found}
use Rattle.hv_tree.proofs.Search.{keyed}
use Rattle.hv_tree.proofs.IndexedParents.{has-in, or_right}
use Rattle.hv_tree.proofs.EditedRows.{edited_child, edited_whole}
use Rattle.hv_tree.proofs.Levels.{node-lines, top-lines, top-node}
use Rattle.hv_tree.proofs.NestedRows.{nests, nest-node}
use Rattle.hv_tree.proofs.ChangedBranch.{lifted}
use Rattle.hv_tree.proofs.DepthAndOrder.{reach-found}
use Rattle.hv_tree.proofs.Steps.{slice-some}
use Rattle.hv_tree.proofs.InsertedAtWay.{reach_two}

pub len-set : {X : Type 0} (xs : List X) (i : ℕ) (y : X) → length (set xs i y) ≡ length xs
len-set [] i y = refl
len-set (x ∷ xs) zero y = refl
len-set (x ∷ xs) (suc i) y = omega (arith, len-set xs i y)

pub map-insert : {X Y : Type 0} (f : X → Y) (xs : List X) (i : ℕ) (y : X) → map f (insert xs i y) ≡ insert (map f xs) i (f y)
map-insert f [] zero y = refl
map-insert f [] (suc i) y = refl
map-insert f (x ∷ xs) zero y = refl
map-insert f (x ∷ xs) (suc i) y = ap (λ l. f x ∷ l) (map-insert f xs i y)

map-remove : {X Y : Type 0} (f : X → Y) (xs : List X) (i : ℕ) → map f (remove xs i) ≡ remove (map f xs) i
map-remove f [] zero = refl
map-remove f [] (suc i) = refl
map-remove f (x ∷ xs) zero = refl
map-remove f (x ∷ xs) (suc i) = ap (λ l. f x ∷ l) (map-remove f xs i)

up-map : {X : Type 0} (n : X → ℕ) (xs : List X) → IsNonDecreasingBy n xs → IsNonDecreasing (map n xs)
up-map n xs r i j d le lt =
    let (y, ly, a, b) = keyed n xs j d lt in
    let (x, lx, e, f) = keyed n xs i d (omega (arith, le, lt)) in
    let h = r i j y le ly in
    omega (arith, h, a, e, ap n b, ap n f, ap n (get_or_any xs i x y lx))

pub at-box : {X Y : Type 0} (f : X → Y) (xs : List X) (i : ℕ) (x : X) → i < length xs → x ≡ get_or xs i x → (i < length (map f xs)) × (f x ≡ get_or (map f xs) i (f x))
at-box f [] i x lt is = absurd (omega (arith, lt))
at-box f (y ∷ xs) zero x lt is = (omega arith, ap f is)
at-box f (y ∷ xs) (suc i) x lt is = let r = at-box f xs i x (omega (arith, lt)) is in (omega (arith, r.0), r.1)

-- a row that names p is among its children
kid_in : {C : Type 0} (q p : ℕ) (es : List (ℕ × (Option ℕ × C))) → option_map (λ r. r.0) (look q es) ≡ Some (Some p) → Contains (children_in p es) q
kid_in q p [] e = cc
kid_in q p ((x, (None, c)) ∷ es) e = elim (cases_Bool (q == x)) [
  | inl t ↦ absurd (let f : Some None ≡ Some (Some p) = rw t at e in cc)
  | inr t ↦ kid_in q p es (rw t at e)
]
kid_in q p ((x, (Some y, c)) ∷ es) e = elim (cases_Bool (q == x)) [
  | inl t ↦ (
      let f : Some (Some y) ≡ Some (Some p) = rw t at e in
      let g : p ≡ y = cc in
      rw (eq-eqb p y g) (zero, omega arith, sym (eqb-true q x t))
      )
  | inr t ↦ (
      let rest = kid_in q p es (rw t at e) in
      more (p == y) x (children_in p es) rest
      )
]
  where
    more : (b : Bool) (x : ℕ) (xs : List ℕ) → Contains xs q → Contains (cond b (x ∷ xs) xs) q
    more true x xs (i, lt, at) = (suc i, omega (arith, lt), at)
    more false x xs c = c

module _ {T A : Type 0} where
  tops : (cs : List (Box (Branch T A) A)) → map (λ k. top k.value) (map boxed_lines cs) ≡ map (λ k. id_of k.value) cs
  tops [] = refl
  tops (k ∷ ks) = λ i. top-lines k.value i ∷ tops ks i

  -- the children of a node are those that it holds
  pub kids-node : (n : Node T A) → AreDistinct (node_lines n) → children_in (out-Node T A n).id (node_lines n) ≡ map (λ k. id_of k.value) (children_of n)
  kids-node n d =
      let own = (out-Node T A n).id in
      let ks = map boxed_lines (children_of n) in
      ap (children_in own) (node-lines n) ∙ kids-view own (Some (content_of n)) ks (subst (λ es. AreDistinct es) (node-lines n) d) (nests (children_of n)) ∙ tops (children_of n)

  module _ (is : List ℕ) (b : Branch T A) (n : Node T A) (e : reach is b ≡ Some n) (d : AreDistinct (lines b)) where
    -- the node is as it was
    pub lines-kept : (w : Node T A) → node_lines w ≡ node_lines n → lines (put_far is b w) ≡ lines b
    lines-kept w same = lifted (λ es new. new ≡ es)
        (λ own c ks i k lt at dist ns new h. ap (λ l. (own, (None, c)) ∷ below own l) (ap (λ v. set ks i (with_value k v)) h ∙ set-same ks i k lt at))
        is b n w e d (λ _. same)

    -- the content is another
    pub lines-put : (c : T) → (lines (put_far is b (put_content n c)) ≡ put_at (out-Node T A n).id (Some c) (lines b)) × (has_row (out-Node T A n).id (lines b) ≡ true)
    lines-put c =
        let q = (out-Node T A n).id in
        lifted (λ es new. (new ≡ put_at q (Some c) es) × (has_row q es ≡ true))
        (λ own v ks i k lt at dist ns new h. (put-found own ks i k lt at v dist q true (Some c) new (λ _. h.1) h.0, there-child own ks i k lt at v dist q h.1))
        is b n (put_content n c) e d (λ _. (put-here, subst (λ x. has_row x (node_lines n) ≡ true) (top-node n) (has-nest (node_lines n) (nest-node n))))
      where
        put-here : node_lines (put_content n c) ≡ put_at (out-Node T A n).id (Some c) (node_lines n)
        put-here =
            let own = (out-Node T A n).id in
            let ks = map boxed_lines (children_of n) in
            node-lines (put_content n c) ∙ ap (λ s. (s.id, (None, Some s.content)) ∷ below s.id (map boxed_lines s.children.items)) (out-roll-Node T A (record (out-Node T A n) { content = c }))
            ∙ sym (ap (put_at own (Some c)) (node-lines n) ∙ (rw (eq-eqb own own refl) refl))

    -- a child is put in
    pub lines-grown : (w : Node T A) (i : ℕ) (k : Box (Branch T A) A) → (out-Node T A w).id ≡ (out-Node T A n).id → content_of w ≡ content_of n → children_of w ≡ insert (children_of n) i k
        → IsGrownBy (out-Node T A n).id (lines k.value) (lines b) (lines (put_far is b w))
    lines-grown w i k same held kids =
        let own = (out-Node T A n).id in
        let ks = map boxed_lines (children_of n) in
        let row : Line T = (own, (None, Some (content_of n))) in
        let new : node_lines w ≡ row ∷ below own (insert ks i (boxed_lines k)) = node-lines w ∙ (rw (same, held, kids) (ap (λ l. row ∷ below own l) (map-insert boxed_lines (children_of n) i k))) in
        lifted (λ es new. IsGrownBy own (lines k.value) es new)
        (λ p c ks i m lt at dist ns new h. grown-child p ks i m lt at (p, (None, c)) own (lines k.value) new h)
        is b n w e d (λ _. subst (λ es. IsGrownBy own (lines k.value) es (node_lines w)) (sym (node-lines n))
        (subst (λ es. IsGrownBy own (lines k.value) (row ∷ below own ks) es) (sym new) (grown-here own row ks i (boxed_lines k))))

    -- the children of the node, once it is changed
    pub kids-changed : (w : Node T A) → IsNonDecreasingBy (λ k. id_of k.value) (children_of w) → AreDistinct (lines (put_far is b w)) → IsNonDecreasing
        (children_in (out-Node T A w).id (lines (put_far is b w)))
    kids-changed w up =
        let p = (out-Node T A w).id in
        let N = node_lines w in
        let all = lifted (λ es new. IsNest new × (has_row p new ≡ true) × (AreDistinct new → (children_in p new ≡ children_in p N) × AreDistinct N))
        (λ own c ks i k lt at dist ns new h.
        let kn = with_value k new in
        let lt2 : i < length (set ks i kn) = omega (arith, lt, len-set ks i kn) in
        let at2 : kn ≡ get_or (set ks i kn) i kn = sym (get_or-set_same ks i kn kn lt) in
        let ns2 : AreNests (set ks i kn) = AreNests-set ks i kn h.0 ns in (
          IsNest-view own c (set ks i kn) ns2,
          or_right (p == own) (has-in p own (set ks i kn) i kn lt2 at2 h.1),
          λ d2.
              let sub = h.2 (AreDistinct-child own (set ks i kn) i kn lt2 at2 c d2) in
              (kids-child own (set ks i kn) i kn lt2 at2 c d2 p h.1 ns2 ∙ sub.0, sub.1),
        ))
        is b n w e d (λ _. (nest-node w, subst (λ x. has_row x (node_lines w) ≡ true) (top-node w) (has-nest (node_lines w) (nest-node w)), λ d2. (refl, d2))) in
        λ d2. (let h = all.2 d2 in subst (λ l. IsNonDecreasing l) (sym (h.0 ∙ kids-node w h.1)) (up-map (λ k. id_of k.value) (children_of w) up))

    -- a leaf is taken out
    pub lines-shorn : (w : Node T A) (q : ℕ) (c : T) → IsShorn q c n w → IsWithout q (Some c) (lines b) (lines (put_far is b w))
    lines-shorn w q c s =
        let own = (out-Node T A n).id in
        let ks = map boxed_lines (children_of n) in
        let row : Line T = (own, (None, Some (content_of n))) in
        let new : node_lines w ≡ row ∷ below own (remove ks s.at) = node-lines w ∙ (rw (s.id, s.content, s.children) (ap (λ l. row ∷ below own l) (map-remove boxed_lines (children_of n) s.at))) in
        let placed = at-box boxed_lines (children_of n) s.at s.child s.within s.is in
        lifted (λ es new. IsWithout q (Some c) es new)
        (λ p v ks i m lt at dist ns new h. IsWithout-child p ks i m lt at v dist ns q (Some c) new h)
        is b n w e d (λ dn. subst (λ es. IsWithout q (Some c) es (node_lines w)) (sym (node-lines n)) (subst (λ es. IsWithout q (Some c) (row ∷ below own ks) es) (sym new)
        (IsWithout-here own ks s.at (boxed_lines s.child) placed.0 placed.1 (Some (content_of n)) (subst (λ es. AreDistinct es) (node-lines n) dn) (nests (children_of n)) q (Some c) s.leaf)))

    -- the contents from the node down are edited
    pub lines-edited : (f : T → T) (w : Node T A) → node_lines w ≡ edited_in f (λ _. true) (node_lines n) → IsEditedFrom f (out-Node T A n).id (lines b) (lines (put_far is b w))
    lines-edited f w all =
        let q = (out-Node T A n).id in
        (lifted (λ es new. (has_row q es ≡ true) × IsEditedFrom f q es new)
        (λ own c ks i k lt at dist ns new h. (there-child own ks i k lt at c dist q h.0, edited_child f q own c ks i k lt at dist ns h.0 new h.1))
        is b n w e d (λ _. (
          subst (λ x. has_row x (node_lines n) ≡ true) (top-node n) (has-nest (node_lines n) (nest-node n)),
          edited_whole f q (node_lines n) (node_lines w) (sym (top-node n))
              all,
        ))).1

    -- a child with children is no leaf
    pub kids-refused : (q : ℕ) → HasParent q n → 1 ≤ length (children_in q (lines b))
    kids-refused q h =
        let m = node_of h.child.value in
        let at : child_of n h.at ≡ Some h.child.value = ap (option_map (λ x. x.value)) (slice-some (children_of n) h.at h.child h.within ∙ ap Some (sym h.is)) in
        let led : reach (is ++ h.at ∷ []) b ≡ Some m = reach_two is [] h.at b n h.child.value e at in
        let found : IsFound (top (node_lines m)) (lines b) (node_lines m) = reach-found (is ++ h.at ∷ []) b m led d in
        let name : top (node_lines m) ≡ q = top-node m ∙ h.here in
        let kids : children_in q (lines b) ≡ children_in q (node_lines m) = subst (λ x. children_in x (lines b) ≡ children_in x (node_lines m)) name found.part.same in
        let dm : AreDistinct (((out-Node T A m).id, (None, Some (content_of m))) ∷ below (out-Node T A m).id (map boxed_lines (children_of m))) = subst (λ es. AreDistinct es) (node-lines m)
        found.part.distinct in
        let long : length (children_in q (node_lines m)) ≡ length (map boxed_lines (children_of m)) =
        ap (λ x. length (children_in x (node_lines m))) (sym h.here) ∙ ap (λ es. length (children_in (out-Node T A m).id es)) (node-lines m) ∙ length-kids (out-Node T A m).id (Some (content_of m))
        (map boxed_lines (children_of m)) dm (nests (children_of m)) in
        omega (arith, h.many, ap length kids, long, length-map (children_of m) boxed_lines)

  -- the parent has the child
  pub child-named : (up : ℕ → Option ℕ) (b : Branch T A) (p q : ℕ) (n : Node T A) → IsReached up p b n → option_map (λ r. r.0) (look q (lines b)) ≡ Some (Some p) → HasChild q n
  child-named up b p q n r e =
      let kids : children_in p (lines b) ≡ map (λ k. id_of k.value) (children_of n) =
      r.found.part.same ∙ ap (λ x. children_in x (node_lines n)) (sym r.here) ∙ kids-node n r.found.part.distinct in
      let (j, lt, at) = subst (λ l. Contains l q) kids (kid_in q p (lines b) e) in
      let (y, lo, a, g) = keyed (λ k. id_of k.value) (children_of n) j q lt in
      record { at = j; child = y; within = lo; is = g; here = sym a ∙ at }

  -- more room for children
  pub same-items : (n : Node T A) (v : Vec (Box (Branch T A) A) A) → v.items ≡ children_of n → node_lines (roll-Node T A (record (out-Node T A n) { children = v })) ≡ node_lines n
  same-items n v e =
      node-lines (roll-Node T A (record (out-Node T A n) { children = v }))
      ∙ ap (λ s. (s.id, (None, Some s.content)) ∷ below s.id (map boxed_lines s.children.items)) (out-roll-Node T A (record (out-Node T A n) { children = v }))
      ∙ ap (λ l. ((out-Node T A n).id, (None, Some (content_of n))) ∷ below (out-Node T A n).id (map boxed_lines l)) e
      ∙ sym (node-lines n)

  -- the children of the node that is reached
  pub kids-reached : (up : ℕ → Option ℕ) (q : ℕ) (b : Branch T A) (n : Node T A) → IsReached up q b n → children_in q (lines b) ≡ map (λ k. id_of k.value) (children_of n)
  kids-reached up q b n r = r.found.part.same ∙ ap (λ x. children_in x (node_lines n)) (sym r.here) ∙ kids-node n r.found.part.distinct
