-- What comes next among the keys of a finite map, and among the processors that are left.
use Rattle.std.proofs.Common.{◌≡◌, ℕ, zero, suc, ◌+◌, ◌-◌, ◌<◌, ◌≤◌, ◌||◌, ◌&&◌, nat_le, nat_cmp, cond, Bool, true, false, T, List, [], ◌∷◌, length, map, Option, Some, None, refl}
use Rattle.std.proofs.Common.{sym, ap, ◌∙◌, arith, eqb-true, eq-eqb, ne_eqb, inl, inr, Ordering, Less, Equal, Greater, is_lt, is_some, if◌then◌else◌, Bor, option_copied}
use Rattle.std.proofs.lemmas.Bool.{cases_lt, cases_eq}
use Rattle.std.proofs.lemmas.Bool.Decides.{nat_tests}
use Rattle.std.proofs.lemmas.List.{length-map}
use Rattle.std.proofs.lemmas.Option.{slice_get-get_or, slice_get_within}
use Rattle.std.specs.Cmp.{nat_cmp_total, unsigned_tied, ranked}
use Rattle.std.specs.FinMap.{FinMap, contains_key, contains_key-keys, empty_of_len, entries, entries_sorted, get, get-empty, is_sorted, keys, len, len-entries, len-remove, remove}
use Rattle.std.specs.FinMap.Entries.{below_all}
use Rattle.std.specs.List.{list_any, slice_get}
use Rattle.std.specs.Ordering.{eq_by_cmp}
use Rattle.hv_defs.proofs.Counts.{both_parts}
use Rattle.hv_defs.proofs.Maps.{get_at-remove}
use Rattle.hv_defs.specs.declared.sizes.TheConstants.{MAX_PAGES}
use Rattle.hv_partition.specs.Partition.{PartitionState}
use Rattle.hv_partition.specs.declared.kind.PageKind.{PageKind}
use Rattle.hv_partition.specs.declared.kind.PageKind.TheVariants.{Loose, Pooled}
use Rattle.hv_embed.specs.Held.{has_id, holds, ids_of, is_held_by, is_pooled}
use Rattle.hv_embed.specs.Next.{IsNext, IsRunAfter, is_after, is_any}
use Rattle.hv_embed.specs.declared.next.Links.{Links}
use Rattle.hv_embed.specs.declared.next.Links.TheVariants.{Ports, Connections}

-- what comes after an id comes after each lower one
pub not_after : (previous a id : ℕ) → a ≤ id → is_after previous id ≡ false → is_after previous a ≡ false
not_after previous a id le off = grind (arith, nat_tests)

pub still_after : (previous a id : ℕ) → id ≤ a → is_after previous id ≡ true → is_after previous a ≡ true
still_after previous a id le on = grind (arith, nat_tests)

low : (x y : ℕ) (r : Ordering) → r ≡ nat_cmp x y → T (is_lt r) → x < y
low x y Less e t = ranked x y Less e
low x y Equal e t = absurd t
low x y Greater e t = absurd t

module _ {X : Type 0} where
  abbrev names : List (ℕ × X) → List ℕ
  names es = map (λ e. e.0) es

  above : (k : ℕ) (es : List (ℕ × X)) → T (below_all nat_cmp k es) → (j b : ℕ) → slice_get (names es) j ≡ Some b → k < b
  above k [] h j b is = absurd (cc)
  above k (x ∷ es) h zero b is =
      let parts = both_parts (is_lt (nat_cmp k x.0)) (below_all nat_cmp k es) h in
      let lt = low k x.0 (nat_cmp k x.0) refl parts.0 in
      let same : x.0 ≡ b = cc in
      omega (arith, lt, same)
  above k (x ∷ es) h (suc j) b is = above k es (both_parts (is_lt (nat_cmp k x.0)) (below_all nat_cmp k es) h).1 j b is

  -- the keys rise
  rising : (es : List (ℕ × X)) → T (is_sorted nat_cmp es) → (i j a b : ℕ) → i < j → slice_get (names es) i ≡ Some a → slice_get (names es) j ≡ Some b → a < b
  rising [] h i j a b lt is at = absurd (cc)
  rising (x ∷ es) h zero zero a b lt is at = absurd (omega (arith, lt))
  rising (x ∷ es) h zero (suc j) a b lt is at =
      let up = above x.0 es (both_parts (below_all nat_cmp x.0 es) (is_sorted nat_cmp es) h).0 j b at in
      let same : x.0 ≡ a = cc in
      omega (arith, up, same)
  rising (x ∷ es) h (suc i) zero a b lt is at = absurd (omega (arith, lt))
  rising (x ∷ es) h (suc i) (suc j) a b lt is at = rising es (both_parts (below_all nat_cmp x.0 es) (is_sorted nat_cmp es) h).1 i j a b (omega (arith, lt)) is at

  pub keys_rise : (m : FinMap nat_cmp X) (i j a b : ℕ) → i < j → slice_get (keys m) i ≡ Some a → slice_get (keys m) j ≡ Some b → a < b
  keys_rise m = rising (entries m) (entries_sorted m)

-- a key has a place, and what has a place is a key
placed : (q : ℕ) (ks : List ℕ) → list_any (eq_by_cmp nat_cmp q) ks ≡ true → (place : ℕ) × (slice_get ks place ≡ Some q)
placed q [] is = absurd (cc)
placed q (k ∷ ks) is = by (eq_by_cmp nat_cmp q k) refl is (placed q ks)
  where
    by : (b : Bool) → eq_by_cmp nat_cmp q k ≡ b → b || list_any (eq_by_cmp nat_cmp q) ks ≡ true → (list_any (eq_by_cmp nat_cmp q) ks ≡ true → (place : ℕ) × (slice_get ks place ≡ Some q))
        → (place : ℕ) × (slice_get (k ∷ ks) place ≡ Some q)
    by true same is rest = (0, ap Some (sym (eqb-true q k (sym (unsigned_tied q k) ∙ same))))
    by false same is rest = let (place, at) = rest is in (suc place, at)

listed : (q : ℕ) (ks : List ℕ) (place : ℕ) → slice_get ks place ≡ Some q → list_any (eq_by_cmp nat_cmp q) ks ≡ true
listed q [] place is = absurd (cc)
listed q (k ∷ ks) zero is =
    let same : q ≡ k = cc in
    ap (λ b. b || list_any (eq_by_cmp nat_cmp q) ks) (unsigned_tied q k ∙ eq-eqb q k same)
listed q (k ∷ ks) (suc place) is = by (eq_by_cmp nat_cmp q k) (listed q ks place is)
  where
    by : (b : Bool) → list_any (eq_by_cmp nat_cmp q) ks ≡ true → b || list_any (eq_by_cmp nat_cmp q) ks ≡ true
    by true rest = refl
    by false rest = rest

module _ {X : Type 0} (m : FinMap nat_cmp X) (previous place : ℕ)
    (before : (p id : ℕ) → p < place → slice_get (keys m) p ≡ Some id → is_after previous id ≡ false) (from : (p id : ℕ) → place ≤ p → slice_get (keys m) p ≡ Some id
    → is_after previous id ≡ true) where
  has_place : (id : ℕ) → contains_key m id ≡ true → (p : ℕ) × (slice_get (keys m) p ≡ Some id)
  has_place id there = placed id (keys m) (sym (contains_key-keys m id) ∙ there)

  nothing : None ≡ slice_get (keys m) place → (id : ℕ) → contains_key m id ≡ true → is_after previous id ≡ false
  nothing none id there =
      let (p, at) = has_place id there in
      elim (cases_lt p place) [
        | inl lt ↦ before p id lt at
        | inr le ↦ (let within = slice_get_within (keys m) p id at in
            let here = slice_get-get_or (keys m) place 0 (omega (arith, within, le)) in
            absurd (cc))
      ]

  lowest : (id : ℕ) → Some id ≡ slice_get (keys m) place → (other : ℕ) → contains_key m other ≡ true → is_after previous other ≡ true → id ≤ other
  lowest id is other there after =
      let (p, at) = has_place other there in
      elim (cases_lt p place) [
        | inl lt ↦ (let off = before p other lt at in absurd (cc))
        | inr le ↦ elim (cases_eq p place) [
          | inl same ↦ (let here : slice_get (keys m) place ≡ Some other = ap (slice_get (keys m)) (sym same) ∙ at in let one : id ≡ other = cc in omega (arith, one))
          | inr apart ↦ (let lt = keys_rise m place p id other (omega (arith, le, apart)) (sym is) at in omega (arith, lt))
        ]
      ]

  -- the key at a place comes next if those before it don't come after `previous`
  pub key_next : (r : Option ℕ) → r ≡ slice_get (keys m) place → IsNext (contains_key m) previous r
  key_next None none = nothing none
  key_next (Some id) is = record { passes = contains_key-keys m id ∙ listed id (keys m) place (sym is); after = from place id (omega arith) (sym is); least = lowest id is }

pub id_next : (links : Links) (p : PartitionState) (previous place : ℕ) → ((k id : ℕ) → k < place → slice_get (ids_of links p) k ≡ Some id → is_after previous id ≡ false)
    → ((k id : ℕ) → place ≤ k → slice_get (ids_of links p) k ≡ Some id → is_after previous id ≡ true)
    → (r : Option ℕ) → r ≡ slice_get (ids_of links p) place → IsNext (has_id links p) previous r
id_next Ports p previous place before from r is = key_next p.ports.rows previous place before from r is
id_next Connections p previous place before from r is = key_next p.conns.rows previous place before from r is

pub ids_rise : (links : Links) (p : PartitionState) (i j a b : ℕ) → i < j → slice_get (ids_of links p) i ≡ Some a → slice_get (ids_of links p) j ≡ Some b → a < b
ids_rise Ports p = keys_rise p.ports.rows
ids_rise Connections p = keys_rise p.conns.rows

pub keys_counted : {X : Type 0} (m : FinMap nat_cmp X) → len m ≡ length (keys m)
keys_counted m = len-entries m ∙ sym (length-map (entries m) (λ e. e.0))

-- the ids up to a place don't come after `previous` if the one there doesn't
pub up_to : (links : Links) (p : PartitionState) (previous place id : ℕ) → slice_get (ids_of links p) place ≡ Some id → is_after previous id ≡ false
    → (k other : ℕ) → k < place + 1 → slice_get (ids_of links p) k ≡ Some other → is_after previous other ≡ false
up_to links p previous place id is off k other lt at =
    elim (cases_eq k place) [
      | inl same ↦ (let here : slice_get (ids_of links p) place ≡ Some other = ap (slice_get (ids_of links p)) (sym same) ∙ at in
          let one : id ≡ other = cc in not_after previous other id (omega (arith, one)) off)
      | inr apart ↦ (let less = ids_rise links p k place other id (omega (arith, lt, apart)) at is in not_after previous other id (omega (arith, less)) off)
    ]

-- and those from a place on do if the one there does
pub from_on : (links : Links) (p : PartitionState) (previous place id : ℕ) → slice_get (ids_of links p) place ≡ Some id → is_after previous id ≡ true
    → (k other : ℕ) → place ≤ k → slice_get (ids_of links p) k ≡ Some other → is_after previous other ≡ true
from_on links p previous place id is on k other le at =
    elim (cases_eq k place) [
      | inl same ↦ (let here : slice_get (ids_of links p) place ≡ Some other = ap (slice_get (ids_of links p)) (sym same) ∙ at in
          let one : id ≡ other = cc in still_after previous other id (omega (arith, one)) on)
      | inr apart ↦ (let less = ids_rise links p place k id other (omega (arith, le, apart)) is at in still_after previous other id (omega (arith, less)) on)
    ]

-- nothing stands at a place where the list has ended
pub past : (xs : List ℕ) (place k other : ℕ) → None ≡ slice_get xs place → place ≤ k → slice_get xs k ≡ Some other → ⊥
past xs place k other none le at =
    let within = slice_get_within xs k other at in
    let here = slice_get-get_or xs place 0 (omega (arith, within, le)) in
    cc

-- as many rows as `left` have keys from this one on
pub record HasLeft {X : Type 0} (m : FinMap nat_cmp X) (from left : ℕ) : Type 0 where
  pub rest : FinMap nat_cmp X
  pub count : len rest ≡ left
  pub keys : (q : ℕ) → contains_key rest q ≡ (nat_le from q && contains_key m q)

from_zero : (q : ℕ) (b : Bool) → b ≡ (nat_le 0 q && b)
from_zero q b = grind (arith, nat_tests)

later : (from q : ℕ) (b : Bool) → (q ≡ from → ⊥) → (nat_le from q && b) ≡ (nat_le (from + 1) q && b)
later from q b apart = grind (arith, nat_tests)

at_least : (from q : ℕ) → from ≤ q → nat_le from q ≡ true
at_least from q le = grind (arith, nat_tests)

too_low : (from : ℕ) (b : Bool) → (nat_le (from + 1) from && b) ≡ false
too_low from b = grind (arith, nat_tests)

both_off : (a b : Bool) → (a && false) ≡ (b && false)
both_off true true = refl
both_off true false = refl
both_off false true = refl
both_off false false = refl

module _ {X : Type 0} (m : FinMap nat_cmp X) where
  pub all_left : HasLeft m 0 (len m)
  all_left = record { rest = m; count = refl; keys = λ q. from_zero q (contains_key m q) }

  no_key : (rest : FinMap nat_cmp X) → len rest ≡ 0 → (q : ℕ) → contains_key rest q ≡ false
  no_key rest none q = ap (λ (m : FinMap nat_cmp X). contains_key m q) (empty_of_len rest none) ∙ ap is_some (get-empty {X = X} nat_cmp q)

  -- where none is left, no key is there from this one on
  pub none_left : (from left : ℕ) → left ≡ 0 → HasLeft m from left → (q : ℕ) → from ≤ q → contains_key m q ≡ false
  none_left from left none h q le = ap (λ b. b && contains_key m q) (sym (at_least from q le)) ∙ sym (h.keys q) ∙ no_key h.rest (h.count ∙ none) q

  there_in : (from left : ℕ) → contains_key m from ≡ true → (h : HasLeft m from left) → contains_key h.rest from ≡ true
  there_in from left there h = h.keys from ∙ ap (λ b. b && contains_key m from) (at_least from from (omega arith)) ∙ there

  -- one key less
  pub some_left : (from left : ℕ) → contains_key m from ≡ true → HasLeft m from left → 1 ≤ left
  some_left from left there h =
      elim (cases_lt 0 left) [
        | inl lt ↦ omega (arith, lt)
        | inr le ↦ (let none = no_key h.rest (h.count ∙ (omega (arith, le))) from in let here = there_in from left there h in absurd (cc))
      ]

  pub one_less : (from left : ℕ) → contains_key m from ≡ true → HasLeft m from left → HasLeft m (from + 1) (left - 1)
  one_less from left there h = record {
    rest = remove h.rest from;
    count = len-remove nat_cmp_total h.rest from ∙ ap (λ b. cond b (len h.rest - 1) (len h.rest)) (there_in from left there h) ∙ ap (λ n. n - 1) h.count;
    keys = keys_of;
  }
    where
      keys_of : (q : ℕ) → contains_key (remove h.rest from) q ≡ (nat_le (from + 1) q && contains_key m q)
      keys_of q =
          ap is_some (get_at-remove h.rest from q) ∙
          (elim (cases_eq q from) [
            | inl same ↦ ap (λ b. is_some (cond b None (get h.rest q))) (eq-eqb q from same) ∙ sym (ap (λ k. nat_le (from + 1) k && contains_key m q) same ∙ too_low from (contains_key m q))
            | inr apart ↦ ap (λ b. is_some (cond b None (get h.rest q))) (ne_eqb q from apart) ∙ h.keys q ∙ later from q (contains_key m q) apart
          ])

  -- no key less
  pub none_less : (from left : ℕ) → contains_key m from ≡ false → HasLeft m from left → HasLeft m (from + 1) left
  none_less from left gone h = record { rest = h.rest; count = h.count; keys = λ q. h.keys q ∙ same q }
    where
      same : (q : ℕ) → (nat_le from q && contains_key m q) ≡ (nat_le (from + 1) q && contains_key m q)
      same q = elim (cases_eq q from) [
        | inl is ↦ (let here : contains_key m q ≡ false = ap (contains_key m) is ∙ gone in ap (λ b. nat_le from q && b) here ∙ both_off (nat_le from q) (nat_le (from + 1) q)
            ∙ sym (ap (λ b. nat_le (from + 1) q && b) here))
        | inr apart ↦ later from q (contains_key m q) apart
      ]

-- whether a look-up found something
pub copied_some : {X : Type 0} (o : Option (Bor X)) → is_some (option_copied o) ≡ is_some o
copied_some None = refl
copied_some (Some x) = refl
