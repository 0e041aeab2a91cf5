-- The ids of the rows of a node.
use Rattle.std.proofs.Common.{◌≡◌, ℕ, ◌+◌, ◌<◌, Option, List, [], ◌∷◌, ◌++◌, Box, refl, sym, ap, ◌∙◌, map, length, take, get_or, add-one, append-nil}
use Rattle.hv_tree.specs.Nest.{Line, hang}
use Rattle.hv_tree.specs.Below.{below}
use Rattle.hv_tree.proofs.Lists.{take_more}
use Rattle.hv_tree.proofs.Lines.{below-append}

abbrev pub ids_of : {X : Type 0} → List (ℕ × X) → List ℕ
ids_of es = map (λ e. e.0) es

ids-append : {X : Type 0} (xs ys : List (ℕ × X)) → ids_of (xs ++ ys) ≡ ids_of xs ++ ids_of ys
ids-append [] ys = refl
ids-append (e ∷ xs) ys = ap (λ l. e.0 ∷ l) (ids-append xs ys)

ids-hang : {C : Type 0} (p : ℕ) (es : List (ℕ × (Option ℕ × C))) → ids_of (hang p es) ≡ ids_of es
ids-hang p [] = refl
ids-hang p (e ∷ es) = ap (λ l. e.0 ∷ l) (ids-hang p es)

ids-below : {T A : Type 0} (p : ℕ) (k : Box (List (Line T)) A) (ks : List (Box (List (Line T)) A)) → ids_of (below p (k ∷ ks)) ≡ ids_of k.value ++ ids_of (below p ks)
ids-below p k ks = ids-append (hang p k.value) (below p ks) ∙ ap (λ l. l ++ ids_of (below p ks)) (ids-hang p k.value)

pub ids-shift : {T A : Type 0} (p r : ℕ) (ks : List (Box (List (Line T)) A)) → ids_of (below p ks) ≡ ids_of (below r ks)
ids-shift p r [] = refl
ids-shift p r (k ∷ ks) = ids-below p k ks ∙ ap (λ l. ids_of k.value ++ l) (ids-shift p r ks) ∙ sym (ids-below r k ks)

-- the ids of one child more
pub ids-more : {T A : Type 0} (p : ℕ) (ks : List (Box (List (Line T)) A)) (i : ℕ) (k : Box (List (Line T)) A) → i < length ks → k ≡ get_or ks i k → ids_of (below p (take (i + 1) ks)) ≡ ids_of
    (below p (take i ks)) ++ ids_of k.value
ids-more p ks i k lt is = rw add-one (ap (λ l. ids_of (below p l)) (take_more ks i k lt is) ∙ ap ids_of (below-append p (take i ks) (k ∷ [])) ∙ ids-append (below p (take i ks)) (below p (k ∷ [])) ∙ ap
    (λ l. ids_of (below p (take i ks)) ++ l) (ids-below p k [] ∙ append-nil (ids_of k.value)))
