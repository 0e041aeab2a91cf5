-- What a binary search by an unsigned key finds in a list in which it does not fall.
use Rattle.std.proofs.Common.{◌≡◌, ◌≢◌, ℕ, ◌+◌, ◌<◌, ◌≤◌, ◌==◌, false, inl, inr, Result, Ok, Err, List, [], ◌∷◌, map, zero, suc, length, get_or, IfOk, OnErr, refl, sym, ap, arith, All, HoldsAt}
use Rattle.std.proofs.Common.{Contains, Less, Equal, Greater, nat_cmp, is_lt, ltb-false, ltb-true}
use Rattle.std.specs.List.Sorted.{IsNonDecreasingBy, IsBinarySearchResult, IsSearchInRange, IsPartitionPoint}
use Rattle.std.specs.Cmp.{nat_cmp_total, ranked}
use Rattle.std.proofs.lemmas.List.{length-map}
use Rattle.std.proofs.lemmas.List.Sorted.{searchable_from_sorted}
use Rattle.std.proofs.lemmas.Bool.{cases_Bool}
use Rattle.std.proofs.Math.Dec.{ltb}
use Rattle.hv_tree.proofs.Lists.{get_or_any}

pub found_at : {X : Type 0} (n : X → ℕ) (xs : List X) (id : ℕ) (r : Result ℕ ℕ) → IsSearchInRange r (length xs) → IsBinarySearchResult (λ x. nat_cmp (n x) id) xs r → IfOk r
    (λ i. (i < length xs) × HoldsAt (λ x. n x ≡ id) xs i)
found_at n xs id (Ok i) lt at = (lt, λ d. ranked _ _ Equal (sym (at d)))
found_at n xs id (Err i) lt at = tt

rises : (a b : ℕ) → a ≤ b → is_lt (nat_cmp b a) ≡ false
rises a b le = elim (cases_Bool (ltb b a)) [
  | inl s ↦ absurd (omega (arith, ltb-true b a s))
  | inr s ↦ rw s (elim (cases_Bool (b == a)) [ inl t ↦ rw t refl | inr t ↦ rw t refl ])
]

pub found_nowhere : {X : Type 0} (n : X → ℕ) (xs : List X) (id : ℕ) (r : Result ℕ ℕ) → IsNonDecreasingBy n xs → IsBinarySearchResult (λ x. nat_cmp (n x) id) xs r → OnErr r (All (λ x. n x ≢ id) xs)
found_nowhere n xs id (Ok i) up at = tt
found_nowhere n xs id (Err i) up at = λ k d lt same.
    let point = at (searchable_from_sorted nat_cmp_total n xs id (λ j e lo hi. rises (n (get_or xs j e)) (n (get_or xs (j + 1) e)) (up j (j + 1) e (omega arith) hi))) in
    elim (cases_Bool (ltb k i)) [
      | inl s ↦ let low : n (get_or xs k d) < id = ranked _ _ Less (sym (point.0 k d (omega arith) (ltb-true k i s))) in omega (arith, low, same)
      | inr s ↦ let high : id < n (get_or xs k d) = ranked _ _ Greater (sym (point.1 k d (ltb-false k i s) lt)) in omega (arith, high, same)
    ]

-- an element of the keys is the key of an element
pub keyed : {X : Type 0} (n : X → ℕ) (xs : List X) (j x : ℕ) → j < length (map n xs) → (y : X) × (j < length xs) × (get_or (map n xs) j x ≡ n y) × (y ≡ get_or xs j y)
keyed n [] j x lt = absurd (omega arith)
keyed n (y ∷ xs) zero x lt = (y, omega arith, refl, refl)
keyed n (y ∷ xs) (suc j) x lt = let (z, lo, a, b) = keyed n xs j x (omega arith) in (z, omega arith, a, b)

get_or-map : {X : Type 0} (n : X → ℕ) (xs : List X) (j x : ℕ) (y : X) → j < length xs → y ≡ get_or xs j y → get_or (map n xs) j x ≡ n y
get_or-map n [] j x y lt is = absurd (omega arith)
get_or-map n (z ∷ xs) zero x y lt is = ap n (sym is)
get_or-map n (z ∷ xs) (suc j) x y lt is = get_or-map n xs j x y (omega arith) is

-- past all that are no higher, none is higher
pub least_none : {X : Type 0} (n : X → ℕ) (xs : List X) (low i : ℕ) → IsPartitionPoint (λ x. n x ≤ low) (λ x. low < n x) xs i → length xs ≤ i → (x : ℕ) → Contains (map n xs) x → x ≤ low
least_none n xs low i point past x (j, lt, at) =
    let (y, lo, a, b) = keyed n xs j x lt in
    let h = point.0 j y (omega arith) (omega arith) in
    omega (arith, ap n b, a, at, h)

-- the first that is higher is the least of those
pub least_some : {X : Type 0} (n : X → ℕ) (xs : List X) (low i : ℕ) (y : X) → IsNonDecreasingBy n xs → IsPartitionPoint (λ x. n x ≤ low) (λ x. low < n x) xs i → i < length xs → y ≡ get_or xs i y →
    Contains (map n xs) (n y) × (low < n y) × ((x : ℕ) → Contains (map n xs) x → low < x → n y ≤ x)
least_some n xs low i y up point lt is = (
  (i, rw (length-map xs n) lt, get_or-map n xs i (n y) y lt is),
  (let h = point.1 i y (omega arith) lt in omega (arith, ap n is, h)),
  λ x (j, lj, at) high.
      let (z, lo, a, b) = keyed n xs j x lj in
      elim (cases_Bool (ltb j i)) [
        | inl s ↦ let h = point.0 j z (omega arith) (ltb-true j i s) in absurd (omega (arith, ap n b, a, at, h))
        | inr s ↦ let h = up i j z (ltb-false j i s) lo in omega (arith, ap n b, a, at, h, ap n is, ap n (get_or_any xs i y z lt))
      ],
)
