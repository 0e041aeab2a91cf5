-- The children in lists that are joined or hung, and that a node's rows are closed.
use Rattle.std.proofs.lemmas.Bool.{cases_Bool}
use Rattle.std.proofs.Common.{◌≡◌, ℕ, Bool, true, false, cond, ◌==◌, ◌||◌, inl, inr, Option, None, Some, List, [], ◌∷◌, ◌++◌, Box, refl, sym, ap, ◌∙◌, arith, eq-eqb, map, length, zero, suc, take}
use Rattle.std.proofs.Common.{drop, set}
use Rattle.std.specs.Option.{option_or}
use Rattle.std.proofs.lemmas.List.{length-map}
use Rattle.hv_tree.specs.Rows.{is_parent, children_in}
use Rattle.hv_tree.specs.Nest.{Line, AreDistinct, has_row, hang, top, orphans, HasTop, IsNest}
use Rattle.hv_tree.specs.Below.{below, AreNests}
use Rattle.hv_tree.proofs.Order.{ordered-view}
use Rattle.hv_tree.proofs.Lines.{has-below, has-unused, one_if}

pub kids-append : {C : Type 0} (q : ℕ) (xs ys : List (ℕ × (Option ℕ × C))) → children_in q (xs ++ ys) ≡ children_in q xs ++ children_in q ys
kids-append q [] ys = refl
kids-append q (e ∷ xs) ys = elim (cases_Bool (is_parent q e.1.0)) [
  | inl s ↦ rw s (ap (λ l. e.0 ∷ l) (kids-append q xs ys))
  | inr s ↦ rw s (kids-append q xs ys)
]

is_parent-hung : (q p : ℕ) (o : Option ℕ) → (q == p) ≡ false → is_parent q (option_or o (Some p)) ≡ is_parent q o
is_parent-hung q p None n = n
is_parent-hung q p (Some x) n = refl

-- rows that hang below another node keep their children
pub kids-hang : {C : Type 0} (q p : ℕ) (es : List (ℕ × (Option ℕ × C))) → (q == p) ≡ false → children_in q (hang p es) ≡ children_in q es
kids-hang q p [] n = refl
kids-hang q p (e ∷ es) n = rw (is_parent-hung q p e.1.0 n) (ap (λ l. cond (is_parent q e.1.0) (e.0 ∷ l) l) (kids-hang q p es n))

itself : (p : ℕ) → (p == p) ≡ true
itself p = eq-eqb p p refl

-- of rows that do not name it, a node has those without a parent as its children
pub kids-own : {C : Type 0} (p : ℕ) (es : List (ℕ × (Option ℕ × C))) → children_in p es ≡ [] → children_in p (hang p es) ≡ orphans es
kids-own p [] e = refl
kids-own p ((q, (None, c)) ∷ es) e = rw (itself p) (ap (λ l. q ∷ l) (kids-own p es e))
kids-own p ((q, (Some x, c)) ∷ es) e = elim (cases_Bool (p == x)) [
  | inl s ↦ absurd (let no : q ∷ children_in p es ≡ [] = rw s at e in cc)
  | inr s ↦ rw s (kids-own p es (rw s at e))
]

pub orphans-append : {C : Type 0} (xs ys : List (ℕ × (Option ℕ × C))) → orphans (xs ++ ys) ≡ orphans xs ++ orphans ys
orphans-append [] ys = refl
orphans-append ((q, (None, c)) ∷ xs) ys = ap (λ l. q ∷ l) (orphans-append xs ys)
orphans-append ((q, (Some x, c)) ∷ xs) ys = orphans-append xs ys

pub orphans-hang : {C : Type 0} (p : ℕ) (es : List (ℕ × (Option ℕ × C))) → orphans (hang p es) ≡ []
orphans-hang p [] = refl
orphans-hang p ((q, (None, c)) ∷ es) = orphans-hang p es
orphans-hang p ((q, (Some x, c)) ∷ es) = orphans-hang p es

pub orphans-top : {C : Type 0} (es : List (ℕ × (Option ℕ × C))) → HasTop es → orphans es ≡ top es ∷ []
orphans-top [] h = absurd h
orphans-top (e ∷ es) h = rw h.0 (ap (λ l. e.0 ∷ l) h.1)

pub or_false : (a b : Bool) → (a || b) ≡ false → (a ≡ false) × (b ≡ false)
or_false true b e = cc
or_false false b e = (refl, e)

orphans-below : {T A : Type 0} (p : ℕ) (ks : List (Box (List (Line T)) A)) → orphans (below p ks) ≡ []
orphans-below p [] = refl
orphans-below p (k ∷ ks) = orphans-append (hang p k.value) (below p ks) ∙ (rw (orphans-hang p k.value, orphans-below p ks) refl)

-- an id that the children lack names no parent there
pub closed-below : {T A : Type 0} (q p : ℕ) (ks : List (Box (List (Line T)) A)) → AreNests ks → (q == p) ≡ false → has_row q (below p ks) ≡ false → children_in q (below p ks) ≡ []
closed-below q p [] ns off gone = refl
closed-below q p (k ∷ ks) ns off gone =
    let both = or_false (has_row q k.value) (has_row q (below p ks)) (sym (has-below q p k ks) ∙ gone) in
    kids-append q (hang p k.value) (below p ks) ∙ (rw (kids-hang q p k.value off, ns.0.closed q both.0, closed-below q p ks ns.1 off both.1) refl)

-- the rows of a node are those of one node and of all below it
pub IsNest-view : {T A : Type 0} (p : ℕ) (c : Option T) (ks : List (Box (List (Line T)) A)) → AreNests ks → IsNest ((p, (None, c)) ∷ below p ks)
IsNest-view p c ks ns = record {
  topped = (refl, orphans-below p ks);
  closed = λ q gone. (let both = or_false (q == p) (has_row q (below p ks)) gone in closed-below q p ks ns both.0 both.1);
  ordered = ordered-view p c ks ns;
}

-- a node's children are those that it holds
pub kids-below : {T A : Type 0} (p : ℕ) (ks : List (Box (List (Line T)) A)) → AreNests ks → has_row p (below p ks) ≡ false → children_in p (below p ks) ≡ map (λ k. top k.value) ks
kids-below p [] ns gone = refl
kids-below p (k ∷ ks) ns gone =
    let both = or_false (has_row p k.value) (has_row p (below p ks)) (sym (has-below p p k ks) ∙ gone) in
    kids-append p (hang p k.value) (below p ks)
    ∙ (rw (kids-own p k.value (ns.0.closed p both.0), orphans-top k.value ns.0.topped, kids-below p ks ns.1 both.1) refl)

pub AreNests-take : {T A : Type 0} (ks : List (Box (List (Line T)) A)) (i : ℕ) → AreNests ks → AreNests (take i ks)
AreNests-take [] zero ns = tt
AreNests-take [] (suc i) ns = tt
AreNests-take (k ∷ ks) zero ns = tt
AreNests-take (k ∷ ks) (suc i) ns = (ns.0, AreNests-take ks i ns.1)

pub AreNests-drop : {T A : Type 0} (ks : List (Box (List (Line T)) A)) (i : ℕ) → AreNests ks → AreNests (drop i ks)
AreNests-drop [] zero ns = tt
AreNests-drop [] (suc i) ns = tt
AreNests-drop (k ∷ ks) zero ns = ns
AreNests-drop (k ∷ ks) (suc i) ns = AreNests-drop ks i ns.1

pub AreNests-set : {T A : Type 0} (ks : List (Box (List (Line T)) A)) (i : ℕ) (y : Box (List (Line T)) A) → IsNest y.value → AreNests ks → AreNests (set ks i y)
AreNests-set [] i y h ns = tt
AreNests-set (k ∷ ks) zero y h ns = (h, ns.1)
AreNests-set (k ∷ ks) (suc i) y h ns = (ns.0, AreNests-set ks i y h ns.1)

-- where no two rows have one id
module _ {T A : Type 0} (p : ℕ) (c : Option T) (ks : List (Box (List (Line T)) A)) (d : AreDistinct ((p, (None, c)) ∷ below p ks)) where
  pub own_free : has_row p (below p ks) ≡ false
  own_free = has-unused p (below p ks) (omega (arith, d p, one_if (p == p) (itself p)))

  pub kids-view : AreNests ks → children_in p ((p, (None, c)) ∷ below p ks) ≡ map (λ k. top k.value) ks
  kids-view ns = kids-below p ks ns own_free

  pub length-kids : AreNests ks → length (children_in p ((p, (None, c)) ∷ below p ks)) ≡ length ks
  length-kids ns = ap length (kids-view ns) ∙ length-map ks (λ k. top k.value)
