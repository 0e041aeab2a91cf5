-- What finite maps by number have after a change, key by key, and what a search through their entries finds.
use Rattle.std.proofs.Common.{◌≡◌, ℕ, ◌<◌, ◌≤◌, ◌==◌, Bool, true, false, cond, List, [], ◌∷◌, map, Option, Some, None, T, find, refl, sym, ap, ◌∙◌, arith, eqb-true, eq-eqb, option_map, nat_cmp, is_lt}
use Rattle.std.proofs.Common.{Ordering, Less, Equal, Greater}
use Rattle.std.specs.Cmp.{nat_cmp_total, unsigned_tied, ranked}
use Rattle.std.specs.FinMap as map
use Rattle.std.specs.FinMap.{FinMap, get, insert, remove, entries, from_entries, entries_sorted, get-entries, get-insert, get-remove, get-from_entries, is_sorted}
use Rattle.std.specs.FinMap.Entries.{below_all}
use Rattle.std.specs.Ordering.{eq_by_cmp}
use Rattle.hv_defs.proofs.Counts.{both_parts}

pub get_at-remove : {X : Type 0} (m : FinMap nat_cmp X) (k q : ℕ) → get (remove m k) q ≡ cond (q == k) None (get m q)
get_at-remove m k q = get-remove nat_cmp_total m k q ∙ ap (λ b. cond b None (get m q)) (unsigned_tied q k)

pub get_at-insert : {X : Type 0} (m : FinMap nat_cmp X) (k : ℕ) (v : X) (q : ℕ) → get (insert m k v) q ≡ cond (q == k) (Some v) (get m q)
get_at-insert m k v q = get-insert nat_cmp_total m k v q ∙ ap (λ b. cond b (Some v) (get m q)) (unsigned_tied q k)

find-mapped : {X : Type 0} (g : X → X) (q : ℕ) (es : List (ℕ × X)) → map.find nat_cmp q (map (λ e. (e.0, g e.1)) es) ≡ option_map g (map.find nat_cmp q es)
find-mapped g q [] = refl
find-mapped g q (e ∷ es) = by (eq_by_cmp nat_cmp q e.0) (find-mapped g q es)
  where
    by : (b : Bool) → map.find nat_cmp q (map (λ e. (e.0, g e.1)) es) ≡ option_map g (map.find nat_cmp q es) → cond b (Some (g e.1)) (map.find nat_cmp q (map (λ e. (e.0, g e.1)) es)) ≡ option_map g
        (cond b (Some e.1) (map.find nat_cmp q es))
    by true rest = refl
    by false rest = rest

pub get-mapped : {X : Type 0} (g : X → X) (m : FinMap nat_cmp X) (q : ℕ) → get (from_entries {R = nat_cmp} (map (λ e. (e.0, g e.1)) (entries m))) q ≡ option_map g (get m q)
get-mapped g m q = get-from_entries nat_cmp_total (map (λ e. (e.0, g e.1)) (entries m)) q ∙ find-mapped g q (entries m) ∙ ap (option_map g) (sym (get-entries m q))

low : (x y : ℕ) (r : Ordering) → r ≡ nat_cmp x y → T (is_lt r) → x < y
low x y Less e t = ranked x y Less e
low x y Equal e t = absurd t
low x y Greater e t = absurd t

above_key : {X : Type 0} (k : ℕ) (es : List (ℕ × X)) (q : ℕ) (row : X) → T (below_all nat_cmp k es) → map.find nat_cmp q es ≡ Some row → k < q
above_key k [] q row h e = cc
above_key {X = X} k (x ∷ es) q row h e =
    let parts = both_parts (is_lt (nat_cmp k x.0)) (below_all nat_cmp k es) h in
    by (eq_by_cmp nat_cmp q x.0) refl e (above_key k es q row parts.1) (low k x.0 (nat_cmp k x.0) refl parts.0)
  where
    by : (b : Bool) → eq_by_cmp nat_cmp q x.0 ≡ b → cond b (Some x.1) (map.find nat_cmp q es) ≡ Some row → (map.find nat_cmp q es ≡ Some row → k < q) → k < x.0 → k < q
    by true s e rest lt = let same : q ≡ x.0 = eqb-true q x.0 (sym (unsigned_tied q x.0) ∙ s) in omega (arith, lt, same)
    by false s e rest lt = rest e

found_is : {X : Type 0} (p : ℕ × X → Bool) (es : List (ℕ × X)) → T (is_sorted nat_cmp es) → (c : ℕ × X) → find p es ≡ Some c → (map.find nat_cmp c.0 es ≡ Some c.1) × (p c ≡ true)
found_is p [] h c e = cc
found_is {X = X} p (x ∷ es) h c e =
    let parts = both_parts (below_all nat_cmp x.0 es) (is_sorted nat_cmp es) h in
    by (p x) refl e (found_is p es parts.1 c) (λ row. above_key x.0 es c.0 row parts.0)
  where
    later : map.find nat_cmp c.0 es ≡ Some c.1 → x.0 < c.0 → map.find nat_cmp c.0 (x ∷ es) ≡ Some c.1
    later e lt = by (eq_by_cmp nat_cmp c.0 x.0) refl
      where
        by : (b : Bool) → eq_by_cmp nat_cmp c.0 x.0 ≡ b → cond b (Some x.1) (map.find nat_cmp c.0 es) ≡ Some c.1
        by true s = absurd (let same : c.0 ≡ x.0 = eqb-true c.0 x.0 (sym (unsigned_tied c.0 x.0) ∙ s) in omega (arith, same, lt))
        by false s = e

    by : (a : Bool) → p x ≡ a → cond a (Some x) (find p es) ≡ Some c → (find p es ≡ Some c → (map.find nat_cmp c.0 es ≡ Some c.1) × (p c ≡ true)) →
        ((row : X) → map.find nat_cmp c.0 es ≡ Some row → x.0 < c.0) → (map.find nat_cmp c.0 (x ∷ es) ≡ Some c.1) × (p c ≡ true)
    by true s e rest above =
        let is : x ≡ c = cc in
        let own : eq_by_cmp nat_cmp c.0 x.0 ≡ true = unsigned_tied c.0 x.0 ∙ eq-eqb c.0 x.0 (ap (λ e. e.0) (sym is)) in
        (ap (λ b. cond b (Some x.1) (map.find nat_cmp c.0 es)) own ∙ ap (λ e. Some e.1) is, ap p (sym is) ∙ s)
    by false s e rest above = let (found, next) = rest e in (later found (above c.1 found), next)

-- the first entry that passes has the least key of all that pass
first_least : {X : Type 0} (p : ℕ × X → Bool) (es : List (ℕ × X)) → T (is_sorted nat_cmp es) → (found : Option (ℕ × X)) → find p es ≡ found → (q : ℕ) (row : X) → map.find nat_cmp q es ≡ Some row → p
    (q, row) ≡ true → (c : ℕ × X) × (found ≡ Some c) × (c.0 ≤ q)
first_least p [] h found is q row e next = cc
first_least {X = X} p (x ∷ es) h found is q row e next =
    let parts = both_parts (below_all nat_cmp x.0 es) (is_sorted nat_cmp es) h in
    by (p x) (eq_by_cmp nat_cmp q x.0) refl refl is e (above_key x.0 es q row parts.0) (λ found is e. first_least p es parts.1 found is q row e next)
  where
    by : (a b : Bool) → p x ≡ a → eq_by_cmp nat_cmp q x.0 ≡ b → cond a (Some x) (find p es) ≡ found → cond b (Some x.1) (map.find nat_cmp q es) ≡ Some row →
        (map.find nat_cmp q es ≡ Some row → x.0 < q) → ((found : Option (ℕ × X)) → find p es ≡ found → map.find nat_cmp q es ≡ Some row → (c : ℕ × X) × (found ≡ Some c) × (c.0 ≤ q)) → (c : ℕ × X) ×
        (found ≡ Some c) × (c.0 ≤ q)
    by true true s t is e above rest = (x, sym is, let same : q ≡ x.0 = eqb-true q x.0 (sym (unsigned_tied q x.0) ∙ t) in omega (arith, same))
    by true false s t is e above rest = (x, sym is, let lt = above e in omega (arith, lt))
    by false true s t is e above rest =
        let same : q ≡ x.0 = eqb-true q x.0 (sym (unsigned_tied q x.0) ∙ t) in
        let row_is : x.1 ≡ row = cc in
        let fails : p (q, row) ≡ false = ap (λ k. p (k, row)) same ∙ ap (λ r. p (x.0, r)) (sym row_is) ∙ s in
        cc
    by false false s t is e above rest = rest found is e

-- the first entry that passes is a row
pub found_row : {X : Type 0} (p : ℕ × X → Bool) (m : FinMap nat_cmp X) (c : ℕ × X) → find p (entries m) ≡ Some c → (get m c.0 ≡ Some c.1) × (p c ≡ true)
found_row p m c is = let (there, own) = found_is p (entries m) (entries_sorted m) c is in (get-entries m c.0 ∙ there, own)

-- and it has the least key of all that pass
pub found_least : {X : Type 0} (p : ℕ × X → Bool) (m : FinMap nat_cmp X) (q : ℕ) (row : X) → get m q ≡ Some row → p (q, row) ≡ true → (c : ℕ × X) × (find p (entries m) ≡ Some c) × (c.0 ≤ q)
found_least p m q row is passes = first_least p (entries m) (entries_sorted m) (find p (entries m)) refl q row (sym (get-entries m q) ∙ is) passes
