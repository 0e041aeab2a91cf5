-- How many rows of a finite map pass a test, from what is at each key.
use Rattle.std.proofs.Common.{◌≡◌, Bool, true, false, cond, ◌||◌, ◌&&◌, T, List, [], ◌∷◌, length, Option, None, Some, refl, sym, ap, ◌∙◌, arith, filter, count_by, is_eq, is_lt, Ordering, Less, Equal}
use Rattle.std.proofs.Common.{Greater}
use Rattle.std.proofs.lemmas.List.{length-map}
use Rattle.std.proofs.lemmas.List.Sums.{length-filter}
use Rattle.std.proofs.lemmas.Map.Made.{length-from_same_keys, IsDistinct-keys_filter}
use Rattle.std.specs.Cmp.{IsTotalOrder, Equal-is, eq_by_cmp_equiv}
use Rattle.std.specs.FinMap.{FinMap, get, entries, entries_sorted, get-entries, find, is_sorted, IsAntisymmetric}
use Rattle.std.specs.FinMap.Entries.{below_all}
use Rattle.std.specs.FinSet.{FinSet, contains, from_list, len, contains-from_list, len-empty, len-insert, same_set}
use Rattle.std.specs.List.{AllByRecursion, IsDistinct, list_any}
use Rattle.std.specs.Map.{keys_of}
use Rattle.std.specs.Ordering.{eq_by_cmp}

-- whether the row at a key passes the test, and false where there is none
abbrev pub passes : {K X : Type 0} → (K × X → Bool) → K → Option X → Bool
passes p k None = false
passes p k (Some x) = p (k, x)

-- the parts of what holds as a whole
pub both_parts : (a b : Bool) → T (a && b) → T a × T b
both_parts true true h = (tt, tt)
both_parts true false h = absurd h
both_parts false b h = absurd h

-- what is below isn't the same
pub less_apart : (o : Ordering) → T (is_lt o) → is_eq o ≡ false
less_apart Less h = refl
less_apart Equal h = absurd h
less_apart Greater h = absurd h

module _ {K : Type 0} (R : K → K → Ordering) where
  none_apart : (k : K) (ks : List K) → AllByRecursion (λ y. eq_by_cmp R k y ≡ false) ks → list_any (eq_by_cmp R k) ks ≡ false
  none_apart k [] a = refl
  none_apart k (x ∷ ks) a = ap (λ b. b || list_any (eq_by_cmp R k) ks) a.0 ∙ none_apart k ks a.1

  -- a list without repetitions has as many members as elements
  pub len-from_list : IsTotalOrder R → (ks : List K) → IsDistinct (eq_by_cmp R) ks → len (from_list {R = R} ks) ≡ length ks
  unfolding IsDistinct
  len-from_list o [] d = len-empty R
  len-from_list o (k ∷ ks) d =
      let new : contains (from_list {R = R} ks) k ≡ false = contains-from_list o ks k ∙ none_apart k ks d.0 in
      let rest = len-from_list o ks d.1 in
      len-insert o (from_list ks) k ∙ rw new (omega arith)

module _ {K X : Type 0} (R : K → K → Ordering) where
  apart_below : (k : K) (es : List (K × X)) → T (below_all R k es) → AllByRecursion (λ y. eq_by_cmp R k y ≡ false) (keys_of es)
  apart_below k [] h = tt
  apart_below k (e ∷ es) h =
      let parts = both_parts (is_lt (R k e.0)) (below_all R k es) h in
      (less_apart (R k e.0) parts.0, apart_below k es parts.1)

  -- the keys of a map are apart
  pub distinct_keys : (es : List (K × X)) → T (is_sorted R es) → IsDistinct (eq_by_cmp R) (keys_of es)
  unfolding IsDistinct
  distinct_keys [] h = tt
  distinct_keys (e ∷ es) h =
      let parts = both_parts (below_all R e.0 es) (is_sorted R es) h in
      (apart_below e.0 es parts.0, distinct_keys es parts.1)

  absent : (k : K) (es : List (K × X)) → AllByRecursion (λ y. eq_by_cmp R k y ≡ false) (keys_of es) → find R k es ≡ None
  absent k [] h = refl
  absent k (e ∷ es) h = ap (λ b. cond b (Some e.1) (find R k es)) h.0 ∙ absent k es h.1

  -- a key stands among those whose rows pass exactly if its own row does
  pub passing_keys : IsAntisymmetric R → (p : K × X → Bool) (q : K) (es : List (K × X)) → IsDistinct (eq_by_cmp R) (keys_of es) → list_any (eq_by_cmp R q) (keys_of (filter p es)) ≡ passes p q
      (find R q es)
  unfolding IsDistinct
  passing_keys same p q [] d = refl
  passing_keys same p q (e ∷ es) d = by (eq_by_cmp R q e.0) (p e) refl refl (passing_keys same p q es d.1)
    where
      by : (t b : Bool) → eq_by_cmp R q e.0 ≡ t → p e ≡ b → list_any (eq_by_cmp R q) (keys_of (filter p es)) ≡ passes p q (find R q es) → list_any (eq_by_cmp R q)
          (keys_of (cond b (e ∷ filter p es) (filter p es))) ≡ passes p q (cond t (Some e.1) (find R q es))
      by true true t b rest =
          let is : q ≡ e.0 = same q e.0 ((Equal-is (R q e.0)).0 t) in
          ap (λ c. c || list_any (eq_by_cmp R q) (keys_of (filter p es))) t ∙ sym (ap (λ k. p (k, e.1)) is ∙ b)
      by true false t b rest =
          let is : q ≡ e.0 = same q e.0 ((Equal-is (R q e.0)).0 t) in
          rest ∙ ap (passes p q) (ap (λ k. find R k es) is ∙ absent e.0 es d.0) ∙ sym (ap (λ k. p (k, e.1)) is ∙ b)
      by false true t b rest = ap (λ c. c || list_any (eq_by_cmp R q) (keys_of (filter p es))) t ∙ rest
      by false false t b rest = rest

  -- where a list holds just the keys whose rows pass, each once, it is as long as they are many
  pub count_by-keys : IsTotalOrder R → IsAntisymmetric R → (m : FinMap R X) (p : K × X → Bool) (ks : List K) → IsDistinct (eq_by_cmp R) ks →
      ((q : K) → passes p q (get m q) ≡ list_any (eq_by_cmp R q) ks) → count_by p (entries m) ≡ length ks
  count_by-keys o same m p ks d h =
      let es : List (K × X) = entries m in
      let apart = distinct_keys es (entries_sorted m) in
      sym (length-filter p es) ∙ sym (length-map (filter p es) (λ e. e.0))
      ∙ length-from_same_keys (eq_by_cmp_equiv o) (keys_of (filter p es)) ks (IsDistinct-keys_filter (eq_by_cmp R) p es apart) d
      (λ q. passing_keys same p q es apart ∙ ap (passes p q) (sym (get-entries m q)) ∙ h q)

  -- where a set holds just the keys whose rows pass, it is as large as they are many
  pub count_by-set : IsTotalOrder R → IsAntisymmetric R → (m : FinMap R X) (p : K × X → Bool) (s : FinSet R) → ((q : K) → passes p q (get m q) ≡ contains s q) → count_by p (entries m) ≡ len s
  count_by-set o same m p s h =
      let es : List (K × X) = entries m in
      let apart = distinct_keys es (entries_sorted m) in
      let ks : List K = keys_of (filter p es) in
      let all : from_list ks ≡ s = same_set o same (from_list ks) s (λ q. contains-from_list o ks q ∙ passing_keys same p q es apart ∙ ap (passes p q) (sym (get-entries m q)) ∙ h q) in
      sym (length-filter p es) ∙ sym (length-map (filter p es) (λ e. e.0))
      ∙ sym (len-from_list R o ks (IsDistinct-keys_filter (eq_by_cmp R) p es apart)) ∙ ap len all

  -- no row passes
  pub count_by-none : IsTotalOrder R → IsAntisymmetric R → (m : FinMap R X) (p : K × X → Bool) → ((q : K) → passes p q (get m q) ≡ false) → count_by p (entries m) ≡ 0
  unfolding IsDistinct
  count_by-none o same m p h = count_by-keys o same m p [] tt h
