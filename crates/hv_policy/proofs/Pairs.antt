-- The order of pairs, counts over keys that are pairs, and the rows of one partition alone.
use Rattle.std.proofs.Common.{◌≡◌, ℕ, ◌==◌, Bool, true, false, cond, ◌&&◌, ◌||◌, List, [], ◌∷◌, map, Some, T, find, refl, sym, ap, subst, ◌∙◌, eq-eqb, eqb-true, option_map, filter, count_by, nat_cmp}
use Rattle.std.proofs.Common.{is_eq, is_lt}
use Rattle.std.proofs.lemmas.List.{length-map}
use Rattle.std.proofs.lemmas.List.Sums.{length-filter}
use Rattle.std.proofs.lemmas.Map.Made.{IsDistinct-keys_filter}
use Rattle.std.specs.Cmp.{IsTotalOrder, nat_cmp_total, on_total, then_total, tied_itself, unsigned_tied, tied_then}
use Rattle.std.specs.FinMap as finmap
use Rattle.std.specs.FinMap.{FinMap, get, entries, entries_sorted, get-entries, is_sorted, IsAntisymmetric, nat_cmp-IsAntisymmetric}
use Rattle.std.specs.FinMap.Entries.{below_all, same_entries}
use Rattle.std.specs.FinSet.{FinSet, contains, from_list, len, contains-from_list, same_set}
use Rattle.std.specs.List.{AllByRecursion, IsDistinct, list_any}
use Rattle.std.specs.Map.{keys_of}
use Rattle.std.specs.Ordering.{eq_by_cmp, ordering_then}
use Rattle.std.proofs.lemmas.Map.Lookups.{exact_pairs}
use Rattle.hv_defs.proofs.Counts.{both_parts, passes, distinct_keys, passing_keys, len-from_list}
use Rattle.hv_defs.specs.Flags.{pair_cmp}

pub pair_cmp_total : IsTotalOrder pair_cmp
pair_cmp_total = then_total (on_total (λ (p : ℕ × ℕ). p.0) nat_cmp_total) (on_total (λ (p : ℕ × ℕ). p.1) nat_cmp_total)

-- only equal pairs tie
pub pair_cmp_exact : IsAntisymmetric pair_cmp
pair_cmp_exact = exact_pairs nat_cmp nat_cmp nat_cmp-IsAntisymmetric nat_cmp-IsAntisymmetric

pub tied_pairs : (a i b j : ℕ) → eq_by_cmp pair_cmp (a, i) (b, j) ≡ (a == b) && eq_by_cmp nat_cmp i j
tied_pairs a i b j = sym (tied_then (nat_cmp a b) (nat_cmp i j)) ∙ ap (λ t. t && is_eq (nat_cmp i j)) (unsigned_tied a b)

both_from : (a b : Bool) → T a → T b → T (a && b)
both_from true b p q = q
both_from false b p q = absurd p

apart_back : (a b : ℕ) → a == b ≡ false → b == a ≡ false
apart_back a b h = by (b == a) refl
  where
    by : (t : Bool) → b == a ≡ t → t ≡ false
    by true is = sym (eq-eqb a b (sym (eqb-true b a is))) ∙ h
    by false is = refl

ordered : (id i : ℕ) (key : ℕ × ℕ) → key.0 == id ≡ true → T (is_lt (pair_cmp (id, i) key)) → T (is_lt (nat_cmp i key.1))
ordered id i key is h = subst (λ r. T (is_lt (ordering_then r (nat_cmp i key.1)))) (ap (nat_cmp id) (eqb-true key.0 id is) ∙ tied_itself nat_cmp_total id) h

module _ {X : Type 0} (id : ℕ) where
  abbrev own : (ℕ × ℕ) × X → Bool
  own e = e.0.0 == id

  abbrev numbers : List ((ℕ × ℕ) × X) → List ℕ
  numbers es = map (λ e. e.0.1) (filter own es)

  own_tied : (e : (ℕ × ℕ) × X) (i : ℕ) → own e ≡ true → eq_by_cmp pair_cmp (id, i) e.0 ≡ eq_by_cmp nat_cmp i e.0.1
  own_tied e i is = tied_pairs id i e.0.0 e.0.1 ∙ ap (λ t. t && eq_by_cmp nat_cmp i e.0.1) (eq-eqb id e.0.0 (sym (eqb-true e.0.0 id is)))

  -- a number stands among those of the partition's rows exactly if its key stands among their keys
  numbered : (i : ℕ) (es : List ((ℕ × ℕ) × X)) → list_any (eq_by_cmp nat_cmp i) (numbers es) ≡ list_any (eq_by_cmp pair_cmp (id, i)) (keys_of (filter own es))
  numbered i [] = refl
  numbered i (e ∷ es) = by (own e) refl (numbered i es)
    where
      by : (b : Bool) → own e ≡ b → list_any (eq_by_cmp nat_cmp i) (numbers es) ≡ list_any (eq_by_cmp pair_cmp (id, i)) (keys_of (filter own es)) → list_any (eq_by_cmp nat_cmp i)
          (map (λ e. e.0.1) (cond b (e ∷ filter own es) (filter own es))) ≡ list_any (eq_by_cmp pair_cmp (id, i)) (keys_of (cond b (e ∷ filter own es) (filter own es)))
      by true is rest = ap (λ t. t || list_any (eq_by_cmp nat_cmp i) (numbers es)) (sym (own_tied e i is)) ∙ ap (λ t. eq_by_cmp pair_cmp (id, i) e.0 || t) rest
      by false is rest = rest

  apart_numbers : (e : (ℕ × ℕ) × X) (es : List ((ℕ × ℕ) × X)) → own e ≡ true → AllByRecursion (λ y. eq_by_cmp pair_cmp e.0 y ≡ false) (keys_of (filter own es)) → AllByRecursion
      (λ y. eq_by_cmp nat_cmp e.0.1 y ≡ false) (numbers es)
  apart_numbers e [] is a = tt
  apart_numbers e (d ∷ es) is a = by (own d) refl a (apart_numbers e es is)
    where
      by : (b : Bool) → own d ≡ b → AllByRecursion (λ y. eq_by_cmp pair_cmp e.0 y ≡ false) (keys_of (cond b (d ∷ filter own es) (filter own es))) →
          (AllByRecursion (λ y. eq_by_cmp pair_cmp e.0 y ≡ false) (keys_of (filter own es)) → AllByRecursion (λ y. eq_by_cmp nat_cmp e.0.1 y ≡ false) (numbers es)) → AllByRecursion
          (λ y. eq_by_cmp nat_cmp e.0.1 y ≡ false) (map (λ e. e.0.1) (cond b (d ∷ filter own es) (filter own es)))
      by true t a rest = (sym (own_tied d e.0.1 t) ∙ ap (λ n. eq_by_cmp pair_cmp (n, e.0.1) d.0) (sym (eqb-true e.0.0 id is)) ∙ a.0, rest a.1)
      by false t a rest = rest a

  distinct_numbers : (es : List ((ℕ × ℕ) × X)) → IsDistinct (eq_by_cmp pair_cmp) (keys_of (filter own es)) → IsDistinct (eq_by_cmp nat_cmp) (numbers es)
  unfolding IsDistinct
  distinct_numbers [] d = tt
  distinct_numbers (e ∷ es) d = by (own e) refl d (distinct_numbers es)
    where
      by : (b : Bool) → own e ≡ b → IsDistinct (eq_by_cmp pair_cmp) (keys_of (cond b (e ∷ filter own es) (filter own es))) →
          (IsDistinct (eq_by_cmp pair_cmp) (keys_of (filter own es)) → IsDistinct (eq_by_cmp nat_cmp) (numbers es)) → IsDistinct (eq_by_cmp nat_cmp)
          (map (λ e. e.0.1) (cond b (e ∷ filter own es) (filter own es)))
      by true is d rest = (apart_numbers e es is d.0, rest d.1)
      by false is d rest = rest d

  -- where a set holds just the numbers of a partition's rows, it is as large as they are many
  pub count_by-pairs : (m : FinMap pair_cmp X) (s : FinSet nat_cmp) → ((i : ℕ) → passes own (id, i) (get m (id, i)) ≡ contains s i) → count_by own (entries m) ≡ len s
  count_by-pairs m s h =
      let es : List ((ℕ × ℕ) × X) = entries m in
      let apart = distinct_keys pair_cmp es (entries_sorted m) in
      let ns : List ℕ = numbers es in
      let all : from_list ns ≡ s = same_set nat_cmp_total nat_cmp-IsAntisymmetric (from_list ns) s
      (λ i. contains-from_list nat_cmp_total ns i ∙ numbered i es ∙ passing_keys pair_cmp pair_cmp_exact own (id, i) es apart ∙ ap (passes own (id, i)) (sym (get-entries m (id, i))) ∙ h i) in
      sym (length-filter own es) ∙ sym (length-map (filter own es) (λ e. e.0.1))
      ∙ sym (len-from_list nat_cmp nat_cmp_total ns (distinct_numbers es (IsDistinct-keys_filter (eq_by_cmp pair_cmp) own es apart))) ∙ ap len all

  -- the rows of a partition by their numbers, as a list
  abbrev pub own_rows : List ((ℕ × ℕ) × X) → List (ℕ × X)
  own_rows [] = []
  own_rows (e ∷ es) = cond (own e) ((e.0.1, e.1) ∷ own_rows es) (own_rows es)

  own_above : (i : ℕ) (es : List ((ℕ × ℕ) × X)) → T (below_all pair_cmp (id, i) es) → T (below_all nat_cmp i (own_rows es))
  own_above i [] h = tt
  own_above i (e ∷ es) h =
      let parts = both_parts (is_lt (pair_cmp (id, i) e.0)) (below_all pair_cmp (id, i) es) h in
      by (own e) refl (own_above i es parts.1)
    where
      by : (b : Bool) → own e ≡ b → T (below_all nat_cmp i (own_rows es)) → T (below_all nat_cmp i (cond b ((e.0.1, e.1) ∷ own_rows es) (own_rows es)))
      by true is rest = both_from (is_lt (nat_cmp i e.0.1)) (below_all nat_cmp i (own_rows es)) (ordered id i e.0 is (both_parts (is_lt (pair_cmp (id, i) e.0)) (below_all pair_cmp (id, i) es) h).0)
          rest
      by false is rest = rest

  own_sorted : (es : List ((ℕ × ℕ) × X)) → T (is_sorted pair_cmp es) → T (is_sorted nat_cmp (own_rows es))
  own_sorted [] h = tt
  own_sorted (e ∷ es) h =
      let parts = both_parts (below_all pair_cmp e.0 es) (is_sorted pair_cmp es) h in
      by (own e) refl (own_sorted es parts.1) parts.0
    where
      by : (b : Bool) → own e ≡ b → T (is_sorted nat_cmp (own_rows es)) → T (below_all pair_cmp e.0 es) → T (is_sorted nat_cmp (cond b ((e.0.1, e.1) ∷ own_rows es) (own_rows es)))
      by true is rest above = both_from (below_all nat_cmp e.0.1 (own_rows es)) (is_sorted nat_cmp (own_rows es))
          (own_above e.0.1 es (subst (λ n. T (below_all pair_cmp (n, e.0.1) es)) (eqb-true e.0.0 id is) above)) rest
      by false is rest above = rest

  own_found : (i : ℕ) (es : List ((ℕ × ℕ) × X)) → finmap.find nat_cmp i (own_rows es) ≡ finmap.find pair_cmp (id, i) es
  own_found i [] = refl
  own_found i (e ∷ es) = by (own e) refl (own_found i es)
    where
      by : (b : Bool) → own e ≡ b → finmap.find nat_cmp i (own_rows es) ≡ finmap.find pair_cmp (id, i) es → finmap.find nat_cmp i (cond b ((e.0.1, e.1) ∷ own_rows es) (own_rows es)) ≡ cond
          (eq_by_cmp pair_cmp (id, i) e.0) (Some e.1) (finmap.find pair_cmp (id, i) es)
      by true is rest = ap (λ t. cond t (Some e.1) (finmap.find nat_cmp i (own_rows es))) (sym (own_tied e i is)) ∙ ap (cond (eq_by_cmp pair_cmp (id, i) e.0) (Some e.1)) rest
      by false is rest = rest ∙ sym (ap (λ t. cond t (Some e.1) (finmap.find pair_cmp (id, i) es)) (tied_pairs id i e.0.0 e.0.1 ∙ ap (λ t. t && eq_by_cmp nat_cmp i e.0.1) (apart_back e.0.0 id is)))

  -- the first of a partition's rows that passes a test is found among these alone
  pub first_own : (test : X → Bool) (es : List ((ℕ × ℕ) × X)) → option_map (λ e. e.0.1) (find (λ e. own e && test e.1) es) ≡ option_map (λ e. e.0) (find (λ e. test e.1) (own_rows es))
  first_own test [] = refl
  first_own test (e ∷ es) = by (own e) (test e.1) refl refl (first_own test es)
    where
      by : (a b : Bool) → own e ≡ a → test e.1 ≡ b → option_map (λ e. e.0.1) (find (λ e. own e && test e.1) es) ≡ option_map (λ e. e.0) (find (λ e. test e.1) (own_rows es)) → option_map (λ e. e.0.1)
          (cond (a && b) (Some e) (find (λ e. own e && test e.1) es)) ≡ option_map (λ e. e.0) (find (λ e. test e.1) (cond a ((e.0.1, e.1) ∷ own_rows es) (own_rows es)))
      by true true is passes rest = rw passes refl
      by true false is passes rest = rw passes rest
      by false b is passes rest = rest

  -- so two maps that have the same rows of a partition have the same first of them
  pub first_alike : (test : X → Bool) (m n : FinMap pair_cmp X) → ((i : ℕ) → get m (id, i) ≡ get n (id, i)) → option_map (λ e. e.0.1) (find (λ e. own e && test e.1) (entries m)) ≡ option_map
      (λ e. e.0.1) (find (λ e. own e && test e.1) (entries n))
  first_alike test m n h =
      let rows : own_rows (entries m) ≡ own_rows (entries n) =
      same_entries nat_cmp nat_cmp_total nat_cmp-IsAntisymmetric (own_rows (entries m)) (own_rows (entries n))
      (own_sorted (entries m) (entries_sorted m)) (own_sorted (entries n) (entries_sorted n))
      (λ i. own_found i (entries m) ∙ sym (get-entries m (id, i)) ∙ h i ∙ get-entries n (id, i) ∙ sym (own_found i (entries n))) in
      first_own test (entries m) ∙ ap (λ es. option_map (λ e. e.0) (find (λ e. test e.1) es)) rows ∙ sym (first_own test (entries n))

  -- where a map by number has these rows, changed, they are its entries
  module _ {Y : Type 0} (g : Y → X) where
    abbrev changed : List (ℕ × Y) → List (ℕ × X)
    changed es = map (λ e. (e.0, g e.1)) es

    changed_above : (i : ℕ) (es : List (ℕ × Y)) → T (below_all nat_cmp i es) → T (below_all nat_cmp i (changed es))
    changed_above i [] h = tt
    changed_above i (e ∷ es) h = let parts = both_parts (is_lt (nat_cmp i e.0)) (below_all nat_cmp i es) h in both_from _ _ parts.0 (changed_above i es parts.1)

    changed_sorted : (es : List (ℕ × Y)) → T (is_sorted nat_cmp es) → T (is_sorted nat_cmp (changed es))
    changed_sorted [] h = tt
    changed_sorted (e ∷ es) h = let parts = both_parts (below_all nat_cmp e.0 es) (is_sorted nat_cmp es) h in both_from _ _ (changed_above e.0 es parts.0) (changed_sorted es parts.1)

    changed_found : (i : ℕ) (es : List (ℕ × Y)) → finmap.find nat_cmp i (changed es) ≡ option_map g (finmap.find nat_cmp i es)
    changed_found i [] = refl
    changed_found i (e ∷ es) = by (eq_by_cmp nat_cmp i e.0) (changed_found i es)
      where
        by : (b : Bool) → finmap.find nat_cmp i (changed es) ≡ option_map g (finmap.find nat_cmp i es) → cond b (Some (g e.1)) (finmap.find nat_cmp i (changed es)) ≡ option_map g
            (cond b (Some e.1) (finmap.find nat_cmp i es))
        by true rest = refl
        by false rest = rest

    first_changed : (test : X → Bool) (es : List (ℕ × Y)) → option_map (λ e. e.0) (find (λ e. test e.1) (changed es)) ≡ option_map (λ e. e.0) (find (λ e. test (g e.1)) es)
    first_changed test [] = refl
    first_changed test (e ∷ es) = by (test (g e.1)) (first_changed test es)
      where
        by : (b : Bool) → option_map (λ e. e.0) (find (λ e. test e.1) (changed es)) ≡ option_map (λ e. e.0) (find (λ e. test (g e.1)) es) → option_map (λ e. e.0)
            (cond b (Some (e.0, g e.1)) (find (λ e. test e.1) (changed es))) ≡ option_map (λ e. e.0) (cond b (Some e) (find (λ e. test (g e.1)) es))
        by true rest = refl
        by false rest = rest

    own_entries : (m : FinMap pair_cmp X) (n : FinMap nat_cmp Y) → ((i : ℕ) → get m (id, i) ≡ option_map g (get n i)) → own_rows (entries m) ≡ changed (entries n)
    own_entries m n h =
        same_entries nat_cmp nat_cmp_total nat_cmp-IsAntisymmetric (own_rows (entries m)) (changed (entries n))
        (own_sorted (entries m) (entries_sorted m)) (changed_sorted (entries n) (entries_sorted n))
        (λ i. own_found i (entries m) ∙ sym (get-entries m (id, i)) ∙ h i ∙ ap (option_map g) (get-entries n i) ∙ sym (changed_found i (entries n)))

    -- so the first of a partition's rows that passes a test is the first there
    pub first_there : (test : X → Bool) (m : FinMap pair_cmp X) (n : FinMap nat_cmp Y) → ((i : ℕ) → get m (id, i) ≡ option_map g (get n i)) → option_map (λ e. e.0.1)
        (find (λ e. own e && test e.1) (entries m)) ≡ option_map (λ e. e.0) (find (λ e. test (g e.1)) (entries n))
    first_there test m n h = first_own test (entries m) ∙ ap (λ es. option_map (λ e. e.0) (find (λ e. test e.1) es)) (own_entries m n h) ∙ first_changed test (entries n)
