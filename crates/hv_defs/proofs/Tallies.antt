-- Counts over the rows of two maps, compared key by key.
use Rattle.std.proofs.Common.{◌≡◌, ◌+◌, ◌≤◌, Bool, true, false, cond, ◌||◌, List, [], ◌∷◌, length, Some, None, refl, sym, ap, ◌∙◌, arith, filter, count_by, Ordering}
use Rattle.std.proofs.lemmas.Bool.{or_parts}
use Rattle.std.proofs.lemmas.List.{length-map}
use Rattle.std.proofs.lemmas.List.Sums.{length-filter}
use Rattle.std.proofs.lemmas.Map.Made.{length-le_from_is_member, IsDistinct-keys_filter}
use Rattle.std.specs.Cmp.{IsTotalOrder, Equal-is, eq_by_cmp_equiv}
use Rattle.std.specs.FinMap.{FinMap, get, insert, entries, entries_sorted, get-entries, get-insert, IsAntisymmetric}
use Rattle.std.specs.List.{AllByRecursion, IsDistinct, list_any}
use Rattle.std.specs.Map.{keys_of}
use Rattle.std.specs.Ordering.{eq_by_cmp}
use Rattle.hv_defs.proofs.Counts.{passes, distinct_keys, passing_keys, count_by-keys}

module _ {K : Type 0} {R : K → K → Ordering} (o : IsTotalOrder R) (same : IsAntisymmetric R) where
  -- the keys of the rows that pass, each once
  abbrev counted_keys : {X : Type 0} → (K × X → Bool) → FinMap R X → List K
  counted_keys p m = keys_of (filter p (entries m))

  distinct_counted : {X : Type 0} (p : K × X → Bool) (m : FinMap R X) → IsDistinct (eq_by_cmp R) (counted_keys p m)
  distinct_counted p m = IsDistinct-keys_filter (eq_by_cmp R) p (entries m) (distinct_keys R (entries m) (entries_sorted m))

  counted_key : {X : Type 0} (p : K × X → Bool) (m : FinMap R X) (q : K) → list_any (eq_by_cmp R q) (counted_keys p m) ≡ passes p q (get m q)
  counted_key p m q = passing_keys R same p q (entries m) (distinct_keys R (entries m) (entries_sorted m)) ∙ ap (passes p q) (sym (get-entries m q))

  length_counted : {X : Type 0} (p : K × X → Bool) (m : FinMap R X) → length (counted_keys p m) ≡ count_by p (entries m)
  length_counted p m = length-map (filter p (entries m)) (λ e. e.0) ∙ length-filter p (entries m)

  -- where the rows at each key pass alike, as many pass
  pub count-alike : {X Y : Type 0} (p : K × X → Bool) (r : K × Y → Bool) (m : FinMap R X) (n : FinMap R Y) → ((q : K) → passes p q (get m q) ≡ passes r q (get n q)) → count_by p (entries m) ≡ count_by
      r (entries n)
  count-alike p r m n h = count_by-keys R o same m p (counted_keys r n) (distinct_counted r n) (λ q. h q ∙ sym (counted_key r n q)) ∙ length_counted r n

  -- where each that passes in the one passes in the other, no more do
  pub count-fewer : {X Y : Type 0} (p : K × X → Bool) (r : K × Y → Bool) (m : FinMap R X) (n : FinMap R Y) → ((q : K) → passes p q (get m q) ≡ true → passes r q (get n q) ≡ true) → count_by p
      (entries m) ≤ count_by r (entries n)
  count-fewer p r m n h =
      let few = length-le_from_is_member (eq_by_cmp_equiv o) (counted_keys p m) (counted_keys r n) (distinct_counted p m) (λ q is. counted_key r n q ∙ h q (sym (counted_key p m q) ∙ is)) in
      let old = length_counted p m in
      let new = length_counted r n in
      omega arith

  none_at : (k : K) (ks : List K) → list_any (eq_by_cmp R k) ks ≡ false → AllByRecursion (λ y. eq_by_cmp R k y ≡ false) ks
  none_at k [] h = tt
  none_at k (y ∷ ks) h = let parts = or_parts (eq_by_cmp R k y) (list_any (eq_by_cmp R k) ks) h in (parts.0, none_at k ks parts.1)

  -- where one key more passes, one more does
  pub count-more : {X Y : Type 0} (p : K × X → Bool) (r : K × Y → Bool) (m : FinMap R X) (n : FinMap R Y) (k : K) → passes r k (get n k) ≡ false →
      ((q : K) → passes p q (get m q) ≡ eq_by_cmp R q k || passes r q (get n q)) → count_by p (entries m) ≡ count_by r (entries n) + 1
  unfolding IsDistinct
  count-more p r m n k new h =
      let ks : List K = counted_keys r n in
      let one = count_by-keys R o same m p (k ∷ ks) (none_at k ks (counted_key r n k ∙ new), distinct_counted r n) (λ q. h q ∙ ap (λ b. eq_by_cmp R q k || b) (sym (counted_key r n q))) in
      let few = length_counted r n in
      omega arith

  -- where none passes, no row does
  pub none-counted : {X : Type 0} (p : K × X → Bool) (m : FinMap R X) → count_by p (entries m) ≡ 0 → (q : K) → passes p q (get m q) ≡ false
  none-counted p m h q = sym (counted_key p m q) ∙ by (counted_keys p m) (length_counted p m ∙ h)
    where
      by : (ks : List K) → length ks ≡ 0 → list_any (eq_by_cmp R q) ks ≡ false
      by [] e = refl
      by (k ∷ ks) e = absurd (omega arith)

  -- at least as many rows pass as there are keys of which each passes
  pub count-from_keys : {X : Type 0} (p : K × X → Bool) (m : FinMap R X) (ks : List K) → IsDistinct (eq_by_cmp R) ks → ((q : K) → list_any (eq_by_cmp R q) ks ≡ true → passes p q (get m q) ≡ true) →
      length ks ≤ count_by p (entries m)
  count-from_keys p m ks d h =
      let few = length-le_from_is_member (eq_by_cmp_equiv o) ks (counted_keys p m) d (λ q is. counted_key p m q ∙ h q is) in
      let all = length_counted p m in
      omega arith

  -- how many rows pass once one with a new key comes in
  pub count-insert : {X : Type 0} (p : K × X → Bool) (m : FinMap R X) (k : K) (v : X) → get m k ≡ None → count_by p (entries (insert m k v)) ≡ count_by p (entries m) + cond (p (k, v)) 1 0
  count-insert {X = X} p m k v free = by (p (k, v)) refl
    where
      at : (q : K) → passes p q (get (insert m k v) q) ≡ passes p q (cond (eq_by_cmp R q k) (Some v) (get m q))
      at q = ap (passes p q) (get-insert o m k v q)

      by : (b : Bool) → p (k, v) ≡ b → count_by p (entries (insert m k v)) ≡ count_by p (entries m) + cond b 1 0
      by true is = count-more p p (insert m k v) m k (ap (passes p k) free) (λ q. at q ∙ one q (eq_by_cmp R q k) refl)
        where
          one : (q : K) (t : Bool) → eq_by_cmp R q k ≡ t → passes p q (cond t (Some v) (get m q)) ≡ t || passes p q (get m q)
          one q true here = ap (λ n. p (n, v)) (same q k ((Equal-is (R q k)).0 here)) ∙ is
          one q false off = refl
      by false is =
          let alike = count-alike p p (insert m k v) m (λ q. at q ∙ one q (eq_by_cmp R q k) refl) in
          omega arith
        where
          one : (q : K) (t : Bool) → eq_by_cmp R q k ≡ t → passes p q (cond t (Some v) (get m q)) ≡ passes p q (get m q)
          one q true here = let is_k : q ≡ k = same q k ((Equal-is (R q k)).0 here) in ap (λ n. p (n, v)) is_k ∙ is ∙ sym (ap (passes p q) (ap (get m) is_k ∙ free))
          one q false off = refl
