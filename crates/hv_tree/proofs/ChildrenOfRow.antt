-- The children of a row of a map are those in the list that it was made of.
use Rattle.std.proofs.Common.{◌≡◌, ℕ, ◌+◌, Bool, true, false, cond, ◌==◌, Option, None, Some, List, [], ◌∷◌, refl, sym, ap, ◌∙◌, is_some, length, arith, nat_cmp, is_eq, Less, Equal, Greater}
use Rattle.std.proofs.Common.{IsPermutation, eq-eqb}
use Rattle.std.specs.Cmp.{nat_cmp_total}
use Rattle.std.specs.FinMap.{find, put, entries, from_entries, entries-insert, get-from_entries, get-entries, len-entries, len-empty, empty, keys}
use Rattle.std.specs.FinMap.Entries.{by_order}
use Rattle.std.proofs.lemmas.List.Sorted.{IsPermutation-refl, IsPermutation-cons, IsPermutation-trans, IsPermutation-sym, IsPermutation-map, length_permutation, Contains-permutation}
use Rattle.hv_tree.specs.Rows.{Row, Rows, is_parent, children_in, children, IsLeastAbove}
use Rattle.hv_tree.specs.Nest.{Line, uses, AreDistinct}
use Rattle.hv_tree.specs.Full.{add, full, IsWhole}
use Rattle.hv_tree.proofs.ChildLaws.{swap_heads, kids_put}
use Rattle.hv_tree.proofs.Lists.{no_items}
use Rattle.hv_tree.proofs.Lines.{look-none, has-unused, one_if}
use Rattle.hv_tree.proofs.Ids.{ids_of}
use Rattle.hv_tree.proofs.TreeAsMap.{IsShown, find-look, whole_first, whole_tail}

-- an entry with a new key goes somewhere
put_permutes : {X : Type 0} (k : ℕ) (v : X) (es : List (ℕ × X)) → find nat_cmp k es ≡ None → IsPermutation ((k, v) ∷ es) (put nat_cmp k v es)
put_permutes k v [] none = IsPermutation-refl _
put_permutes {X = X} k v (e ∷ es) none =
    elim (nat_cmp k e.0) as (λ r. cond (is_eq r) (Some e.1) (find nat_cmp k es) ≡ None → IsPermutation ((k, v) ∷ e ∷ es) (by_order r ((k, v) ∷ e ∷ es) ((e.0, v) ∷ es) (e ∷ put nat_cmp k v es))) [
      | Less ↦ λ h. IsPermutation-refl _
      | Equal ↦ λ h. cc
      | Greater ↦ λ h. IsPermutation-trans ((k, v) ∷ e ∷ es) (e ∷ (k, v) ∷ es) (e ∷ put nat_cmp k v es) (swap_heads (k, v) e es)
          (IsPermutation-cons e ((k, v) ∷ es) (put nat_cmp k v es) (put_permutes k v es h))
    ] none

no_entries : {X : Type 0} → entries (empty {X = X} {R = nat_cmp}) ≡ []
no_entries {X = X} = no_items (entries (empty {R = nat_cmp})) (sym (len-entries (empty {R = nat_cmp})) ∙ len-empty nat_cmp X)

-- the first entry's key is new to the rest
fresh : {X : Type 0} (e : ℕ × X) (es : List (ℕ × X)) → AreDistinct (e ∷ es) → find nat_cmp e.0 (entries (from_entries {R = nat_cmp} es)) ≡ None
fresh e es d = sym (get-entries (from_entries {R = nat_cmp} es) e.0) ∙ get-from_entries nat_cmp_total es e.0 ∙ find-look e.0 es ∙ look-none e.0 es
    (has-unused e.0 es (omega (arith, d e.0, one_if (e.0 == e.0) (eq-eqb e.0 e.0 refl))))

-- a map has the entries that it was made of
pub entries_permute : {X : Type 0} (es : List (ℕ × X)) → AreDistinct es → IsPermutation es (entries (from_entries {R = nat_cmp} es))
entries_permute {X = X} [] d = rw (no_entries {X = X}) (IsPermutation-refl [])
entries_permute (e ∷ es) d =
    rw (entries-insert nat_cmp_total (from_entries es) e.0 e.1)
    (IsPermutation-trans (e ∷ es) (e ∷ entries (from_entries {R = nat_cmp} es)) _
    (IsPermutation-cons e es (entries (from_entries {R = nat_cmp} es)) (entries_permute es (λ q. omega (arith, d q))))
    (put_permutes e.0 e.1 (entries (from_entries {R = nat_cmp} es)) (fresh e es d)))

cond_cons : (b : Bool) (x : ℕ) (xs ys : List ℕ) → IsPermutation xs ys → IsPermutation (cond b (x ∷ xs) xs) (cond b (x ∷ ys) ys)
cond_cons true x xs ys p = IsPermutation-cons x xs ys p
cond_cons false x xs ys p = p

pub kids_permute : {T : Type 0} (q : ℕ) (es : List (ℕ × Row T)) → AreDistinct es → IsPermutation (children_in q es) (children_in q (entries (from_entries {R = nat_cmp} es)))
kids_permute {T = T} q [] d = rw (no_entries {X = Row T}) (IsPermutation-refl [])
kids_permute q (e ∷ es) d =
    rw (entries-insert nat_cmp_total (from_entries es) e.0 e.1)
    (IsPermutation-trans (children_in q (e ∷ es)) (children_in q (e ∷ entries (from_entries {R = nat_cmp} es))) _
    (cond_cons (is_parent q e.1.0) e.0 (children_in q es) (children_in q (entries (from_entries {R = nat_cmp} es))) (kids_permute q es (λ x. omega (arith, d x))))
    (kids_put q e.0 e.1 (entries (from_entries {R = nat_cmp} es)) (fresh e es d)))

kids_added : {T : Type 0} (q x : ℕ) (p : Option ℕ) (o : Option T) (es : List (ℕ × Row T)) → is_some o ≡ true → children_in q (add x p o es) ≡ cond (is_parent q p) (x ∷ children_in q es)
    (children_in q es)
kids_added q x p None es h = cc
kids_added q x p (Some c) es h = refl

kids_full : {T : Type 0} (q : ℕ) (es : List (Line T)) → AreDistinct es → IsWhole es → children_in q (full es) ≡ children_in q es
kids_full q [] d w = refl
kids_full q (e ∷ es) d w = kids_added q e.0 e.1.0 e.1.1 (full es) (whole_first e es w) ∙ ap (λ k. cond (is_parent q e.1.0) (e.0 ∷ k) k) (kids_full q es (λ x. omega (arith, d x)) (whole_tail e es d w))

uses_added : {T : Type 0} (q x : ℕ) (p : Option ℕ) (o : Option T) (es : List (ℕ × Row T)) → is_some o ≡ true → uses q (add x p o es) ≡ cond (q == x) 1 0 + uses q es
uses_added q x p None es h = cc
uses_added q x p (Some c) es h = refl

uses_full : {T : Type 0} (q : ℕ) (es : List (Line T)) → AreDistinct es → IsWhole es → uses q (full es) ≡ uses q es
uses_full q [] d w = refl
uses_full q (e ∷ es) d w = uses_added q e.0 e.1.0 e.1.1 (full es) (whole_first e es w) ∙ ap (λ k. cond (q == e.0) 1 0 + k) (uses_full q es (λ x. omega (arith, d x)) (whole_tail e es d w))

ids_added : {T : Type 0} (x : ℕ) (p : Option ℕ) (o : Option T) (es : List (ℕ × Row T)) → is_some o ≡ true → ids_of (add x p o es) ≡ x ∷ ids_of es
ids_added x p None es h = cc
ids_added x p (Some c) es h = refl

ids_full : {T : Type 0} (es : List (Line T)) → AreDistinct es → IsWhole es → ids_of (full es) ≡ ids_of es
ids_full [] d w = refl
ids_full (e ∷ es) d w = ids_added e.0 e.1.0 e.1.1 (full es) (whole_first e es w) ∙ ap (λ k. e.0 ∷ k) (ids_full es (λ x. omega (arith, d x)) (whole_tail e es d w))

pub AreDistinct-full : {T : Type 0} (es : List (Line T)) → AreDistinct es → IsWhole es → AreDistinct (full es)
AreDistinct-full es d w = λ q. rw (uses_full q es d w) (d q)

module _ {T : Type 0} {es : List (Line T)} {n : ℕ} {m : Rows T} (s : IsShown es n m) where
  -- the children of a row, in another order
  pub kids-seen : (q : ℕ) → IsPermutation (children_in q es) (children m q)
  kids-seen q = rw (← s.seen, ← kids_full q es s.sound.distinct s.sound.whole) (kids_permute q (full es) (AreDistinct-full es s.sound.distinct s.sound.whole))

  -- the ids of the rows, in another order
  pub ids-seen : IsPermutation (ids_of es) (keys m)
  ids-seen = rw (← s.seen, ← ids_full es s.sound.distinct s.sound.whole) (IsPermutation-map (λ e. e.0) (full es) (entries (from_entries {R = nat_cmp} (full es)))
      (entries_permute (full es) (AreDistinct-full es s.sound.distinct s.sound.whole)))

  pub count-seen : (q : ℕ) → length (children m q) ≡ length (children_in q es)
  count-seen q = length_permutation (children_in q es) (children m q) (kids-seen q)

-- the order of the list does not matter to what is least above
pub IsLeastAbove-permutation : (low : ℕ) (xs ys : List ℕ) (o : Option ℕ) → IsPermutation xs ys → IsLeastAbove low xs o → IsLeastAbove low ys o
IsLeastAbove-permutation low xs ys None p h = λ x c. h x (Contains-permutation ys xs x (IsPermutation-sym xs ys p) c)
IsLeastAbove-permutation low xs ys (Some y) p h = (Contains-permutation xs ys y p h.0, h.1, λ x c. h.2 x (Contains-permutation ys xs x (IsPermutation-sym xs ys p) c))

pub IsLeastAbove-none : (low : ℕ) → IsLeastAbove low [] None
IsLeastAbove-none low = λ x (k, lt, _). absurd (omega arith)
