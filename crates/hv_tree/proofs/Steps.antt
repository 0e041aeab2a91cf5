-- The places on the way down to a node, in two parts and one step between.
use Rattle.std.proofs.Common.{◌≡◌, ◌≢◌, ℕ, zero, suc, ◌+◌, ◌<◌, ◌≤◌, ◌==◌, false, inl, inr, Option, None, Some, List, [], ◌∷◌, ◌++◌, Box, length, get_or, slice_get, refl, sym, ap, ◌∙◌, arith, eq-eqb}
use Rattle.std.proofs.Common.{All, option_map, option_and_then, ne_eqb, ltb-true, ltb-false}
use Rattle.std.specs.List.Sorted.{IsNonDecreasingBy}
use Rattle.std.proofs.lemmas.Bool.{cases_Bool}
use Rattle.std.proofs.Math.Dec.{ltb}
use Rattle.hv_tree.specs.declared.node.Branch.{Branch}
use Rattle.hv_tree.specs.declared.node.Node.{Node}
use Rattle.hv_tree.specs.Put.{node_of, child_of, reach}
use Rattle.hv_tree.specs.Way.{id_of, children_of, place_by, further, places, IsRising, AreRising}
use Rattle.hv_tree.proofs.InsertedAtWay.{reach_two}

pub none-past : {X : Type 0} (xs : List X) (i : ℕ) → length xs ≤ i → slice_get xs i ≡ None
none-past [] i h = refl
none-past (x ∷ xs) zero h = absurd (omega arith)
none-past (x ∷ xs) (suc i) h = none-past xs i (omega arith)

pub slice-some : {X : Type 0} (xs : List X) (i : ℕ) (d : X) → i < length xs → slice_get xs i ≡ Some (get_or xs i d)
slice-some [] i d lt = absurd (omega (arith, lt))
slice-some (x ∷ xs) zero d lt = refl
slice-some (x ∷ xs) (suc i) d lt = slice-some xs i d (omega (arith, lt))

module _ {T A : Type 0} where
  abbrev pub IsRisingList : List (Box (Branch T A) A) → Type 0
  IsRisingList ks = (i j : ℕ) (d : Box (Branch T A) A) → i < j → j < length ks → id_of (get_or ks i d).value < id_of (get_or ks j d).value

  pub place-found : (q : ℕ) (ks : List (Box (Branch T A) A)) (i : ℕ) → IsRisingList ks → i < length ks → ((d : Box (Branch T A) A) → id_of (get_or ks i d).value ≡ q) → place_by q ks ≡ i
  place-found q [] i r lt at = absurd (omega arith)
  place-found q (k ∷ ks) zero r lt at = rw (eq-eqb (id_of k.value) q (at k)) refl
  place-found q (k ∷ ks) (suc i) r lt at =
      let low : id_of k.value < id_of (get_or ks i k).value = r zero (suc i) k (omega arith) lt in
      let off : (id_of k.value == q) ≡ false = ne_eqb (id_of k.value) q (λ e. omega (arith, e, low, at k)) in
      rw off (ap (λ n. n + 1) (place-found q ks i (λ a b d l h. r (suc a) (suc b) d (omega arith) (omega arith)) (omega arith) at) ∙ (omega arith))

  pub place-absent : (q : ℕ) (ks : List (Box (Branch T A) A)) → All (λ k. id_of k.value ≢ q) ks → place_by q ks ≡ length ks
  place-absent q [] all = refl
  place-absent q (k ∷ ks) all =
      let off : (id_of k.value == q) ≡ false = ne_eqb (id_of k.value) q (all zero k (omega arith)) in
      rw off (ap (λ n. n + 1) (place-absent q ks (λ i d lt. all (suc i) d (omega arith))) ∙ (omega arith))

  -- the place of the child with the id
  pub place-some : (n : Node T A) (q i : ℕ) → IsRising n → i < length (children_of n) → ((d : Box (Branch T A) A) → id_of (get_or (children_of n) i d).value ≡ q) → i ≡ place_by q (children_of n)
  place-some n q i r lt at = sym (place-found q (children_of n) i r lt at)

  pub place-none : (n : Node T A) (q : ℕ) → All (λ k. id_of k.value ≢ q) (children_of n) → child_of n (place_by q (children_of n)) ≡ None
  place-none n q all = ap (λ i. child_of n i) (place-absent q (children_of n) all) ∙ ap (option_map (λ b. b.value)) (none-past (children_of n) (length (children_of n)) (omega arith))

  pub rising-non_decreasing : (n : Node T A) → IsRising n → IsNonDecreasingBy (λ k. id_of k.value) (children_of n)
  rising-non_decreasing n r i j d le lt = elim (cases_Bool (ltb i j)) [
    | inl s ↦ (let h = r i j d (ltb-true i j s) lt in omega (arith, h))
    | inr s ↦ (let e : i ≡ j = omega (arith, ltb-false i j s, le) in rw e (omega arith))
  ]

  pub rising-child : (b : Branch T A) → AreRising b → (is : List ℕ) (n : Node T A) (i : ℕ) (k : Branch T A) → reach is b ≡ Some n → child_of n i ≡ Some k → AreRising k
  rising-child b r is n i k e f = λ js m h. r (is ++ i ∷ js) m (reach_two is js i b n k e f ∙ h)

  abbrev next : ℕ → Node T A → ℕ
  next q n = place_by q (children_of n)

  abbrev on : ℕ → List ℕ → Option (Node T A) → Option (Node T A)
  on q ys o = option_and_then (λ n. option_and_then (λ k. reach (places ys k) k) (child_of n (next q n))) o

  first_step : (ys : List ℕ) (o : Option (Branch T A)) → option_and_then (reach (further (places ys) o)) o ≡ option_and_then (λ k. reach (places ys k) k) o
  first_step ys None = refl
  first_step ys (Some k) = refl

  reach_split : (xs ys : List ℕ) (q : ℕ) (b : Branch T A) → reach (places (xs ++ q ∷ ys) b) b ≡ on q ys (reach (places xs b) b)
  reach_split [] ys q b = first_step ys (child_of (node_of b) (next q (node_of b)))
  reach_split (x ∷ xs) ys q b = by (λ k. reach_split xs ys q k) (child_of (node_of b) (next x (node_of b)))
    where
      by : ((k : Branch T A) → reach (places (xs ++ q ∷ ys) k) k ≡ on q ys (reach (places xs k) k)) → (o : Option (Branch T A))
          → option_and_then (reach (further (places (xs ++ q ∷ ys)) o)) o ≡ on q ys (option_and_then (reach (further (places xs) o)) o)
      by rest None = refl
      by rest (Some k) = rest k

  pub places_split : (xs ys : List ℕ) (q : ℕ) (b : Branch T A) (n : Node T A) (k : Branch T A) → reach (places xs b) b ≡ Some n → child_of n (next q n) ≡ Some k
      → places (xs ++ q ∷ ys) b ≡ places xs b ++ next q n ∷ places ys k
  places_split [] ys q b n k e f =
      let same : node_of b ≡ n = cc in
      ap (λ m. next q m ∷ further (places ys) (child_of m (next q m))) same ∙ ap (λ o. next q n ∷ further (places ys) o) f
  places_split (x ∷ xs) ys q b n k e f = ap (λ l. next x (node_of b) ∷ l) (by (λ m h. places_split xs ys q m n k h f) (child_of (node_of b) (next x (node_of b))) e)
    where
      by : ((m : Branch T A) → reach (places xs m) m ≡ Some n → places (xs ++ q ∷ ys) m ≡ places xs m ++ next q n ∷ places ys k) → (o : Option (Branch T A))
          → option_and_then (reach (further (places xs) o)) o ≡ Some n
          → further (places (xs ++ q ∷ ys)) o ≡ further (places xs) o ++ next q n ∷ places ys k
      by rest None h = cc
      by rest (Some m) h = rest m h

  -- what lies in two parts is found in the second
  pub split_some : (xs ys zs : List ℕ) (q : ℕ) (b : Branch T A) (n : Node T A) (k : Branch T A) → zs ≡ xs ++ q ∷ ys → Some n ≡ reach (places xs b) b → Some k ≡ child_of n (next q n) → reach
      (places zs b) b ≡ reach (places ys k) k
  split_some xs ys zs q b n k e f g = ap (λ l. reach (places l b) b) e ∙ reach_split xs ys q b ∙ ap (on q ys) (sym f) ∙ ap (option_and_then (λ k. reach (places ys k) k)) (sym g)

  pub split_lost : (xs ys zs : List ℕ) (q : ℕ) (b : Branch T A) → zs ≡ xs ++ q ∷ ys → None ≡ reach (places xs b) b → reach (places zs b) b ≡ None
  split_lost xs ys zs q b e f = ap (λ l. reach (places l b) b) e ∙ reach_split xs ys q b ∙ ap (on q ys) (sym f)

  pub split_stuck : (xs ys zs : List ℕ) (q : ℕ) (b : Branch T A) (n : Node T A) → zs ≡ xs ++ q ∷ ys → Some n ≡ reach (places xs b) b → child_of n (next q n) ≡ None → reach (places zs b) b ≡ None
  split_stuck xs ys zs q b n e f g = ap (λ l. reach (places l b) b) e ∙ reach_split xs ys q b ∙ ap (on q ys) (sym f) ∙ ap (option_and_then (λ k. reach (places ys k) k)) g
