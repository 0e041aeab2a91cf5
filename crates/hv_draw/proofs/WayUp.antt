-- The way from a partition up to the root.
use Rattle.std.proofs.Common.{
  ◌≡◌,
  ◌↔◌,
  ◌⊎◌,
  inl,
  inr,
  ℕ,
  zero,
  suc,
  ◌+◌,
  ◌-◌,
  ◌≤◌,
  ◌<◌,
  Bool,
  true,
  false,
  cond,
  List,
  [],
  ◌∷◌,
  ◌++◌,
  refl,
  sym,
  ap,
  ◌∙◌,
  subst,
  arith,
  take,
  get_or,
  length,
  eq-eqb,
  Option,
  None,
  Some,
  nat_eq,
  option_map,
  option_and_then,
  is_some,
  take_all,
}
use Rattle.std.proofs.lemmas.Bool.{cases_lt}
use Rattle.std.proofs.lemmas.Bool.Decides.{nat_tests}
use Rattle.std.proofs.lemmas.Grind.{take_at_read}
use Rattle.std.proofs.lemmas.List.Elements.{Contains-append_left, Contains-push, Contains-push_cases, filter-append}
use Rattle.std.proofs.lemmas.List.Folds.{list_any_at}
use Rattle.std.proofs.lemmas.Map.Views.{Contains-from_any}
use Rattle.std.proofs.lemmas.Option.{none-some, same_Some}
use Rattle.std.specs.FinMap.{contains_key, get}
use Rattle.std.specs.Option.{IfSome, unwrap_or}
use Rattle.std.specs.List.{Contains, filter, list_any}
use Rattle.hv_tree.specs.Rows.{HasDepth, IsRoot, Row, Rows, parent}
use Rattle.hv_tree.specs.Subtree.{IsInSubtree, LeadsUp}
use Rattle.hv_partition.specs.Partition.{PartitionState}
use Rattle.hv_draw.specs.Chosen.{AreAbove}

-- so many steps up, and no more
abbrev pub Climbs : (ℕ → Option ℕ) → ℕ → ℕ → Type 0
Climbs up q zero = up q ≡ None
Climbs up q (suc n) = (p : ℕ) × (up q ≡ Some p) × Climbs up p n

module _ {T : Type 0} (m : Rows T) where
  -- the root has no parent
  no_parent : (q : ℕ) → IsRoot m q → parent m q ≡ None
  no_parent q root = by (get m q) root
    where
      by : (o : Option (Row T)) → option_map (λ r. r.0) o ≡ Some None → option_and_then (λ r. r.0) o ≡ None
      by None is = absurd (none-some _ is)
      by (Some r) is = same_Some _ _ is

  pub climbs : (q d : ℕ) → HasDepth m q d → Climbs (parent m) q d
  climbs q zero root = no_parent q root
  climbs q (suc d) (p, is, deep) = (p, is, climbs p d deep)

  -- what isn't there has no parent
  pub climbs_none : (q : ℕ) → is_some (get m q) ≡ false → Climbs (parent m) q 0
  climbs_none q none = by (get m q) none
    where
      by : (o : Option (Row T)) → is_some o ≡ false → option_and_then (λ r. r.0) o ≡ None
      by None is = refl
      by (Some r) is = absurd (cc)

-- one more step
leads_on : (up : ℕ → Option ℕ) (q a p n : ℕ) → LeadsUp up q a n → up a ≡ Some p → LeadsUp up q p (suc n)
leads_on up q a p zero here is = (p, ap up here ∙ is, refl)
leads_on up q a p (suc n) (r, first, rest) is = (r, first, leads_on up r a p n rest is)

-- so many steps lead to one id
one_end : (up : ℕ → Option ℕ) (q a b n : ℕ) → LeadsUp up q a n → LeadsUp up q b n → a ≡ b
one_end up q a b zero here there = sym here ∙ there
one_end up q a b (suc n) (r, first, rest) (s, second, more) =
    let same : r ≡ s = same_Some _ _ (sym first ∙ second) in
    one_end up s a b n (subst (λ (r : ℕ). LeadsUp up r a n) same rest) more

-- no step leads on from an id without a parent
no_further : (up : ℕ → Option ℕ) (q a b i n : ℕ) → LeadsUp up q a i → up a ≡ None → LeadsUp up q b n → n ≤ i
no_further up q a b i zero here none there = omega arith
no_further up q a b zero (suc n) here none (p, is, more) = absurd (none-some p (sym none ∙ ap up (sym here) ∙ is))
no_further up q a b (suc i) (suc n) (r, first, rest) none (s, second, more) =
    let same : r ≡ s = same_Some _ _ (sym first ∙ second) in
    let le = no_further up s a b i n (subst (λ (r : ℕ). LeadsUp up r a i) same rest) none more in
    omega (arith, le)

-- the way so far, of so many steps, has all ids up to this one
pub record IsWay (up : ℕ → Option ℕ) (part steps i at : ℕ) (way : List ℕ) : Type 0 where
  pub here : LeadsUp up part at i
  pub rest : Climbs up at (steps - i)
  pub forth : (id : ℕ) → Contains way id → (n : ℕ) × LeadsUp up part id n
  pub back : (id n : ℕ) → n ≤ i → LeadsUp up part id n → Contains way id

pub way_begins : (up : ℕ → Option ℕ) (part steps : ℕ) (way : List ℕ) → way ≡ [] ++ part ∷ [] → Climbs up part steps → IsWay up part steps 0 part way
way_begins up part steps way is rest = record {
  here = refl;
  rest = let same : steps ≡ steps - 0 = omega arith in subst (Climbs up part) same rest;
  forth = λ id has. (0, by id (Contains-push_cases [] part id (subst (λ w. Contains w id) is has)));
  back = λ id n le leads. subst (λ w. Contains w id) (sym is) (at_start id n le leads);
}
  where
    by : (id : ℕ) → Contains {X = ℕ} [] id ⊎ (part ≡ id) → part ≡ id
    by id (inl none) = absurd (omega (arith, none.1))
    by id (inr same) = same

    at_start : (id n : ℕ) → n ≤ 0 → LeadsUp up part id n → Contains (part ∷ []) id
    at_start id zero le leads = subst (Contains (part ∷ [])) leads (Contains-push [] part)
    at_start id (suc n) le leads = absurd (omega (arith, le))

-- there is one more step
pub one_step : (up : ℕ → Option ℕ) (part steps i at : ℕ) (way : List ℕ) → IsWay up part steps i at way → i < steps → (p : ℕ) × (up at ≡ Some p) × Climbs up p (steps - (i + 1))
one_step up part steps i at way is lt =
    let left : steps - i ≡ suc (steps - (i + 1)) = omega (arith, lt) in
    subst (Climbs up at) left is.rest

pub way_goes_on : (up : ℕ → Option ℕ) (part steps i at p : ℕ) (way more : List ℕ) → IsWay up part steps i at way → i < steps → up at ≡ Some p → more ≡ way ++ p ∷ []
    → IsWay up part steps (i + 1) p more
way_goes_on up part steps i at p way more is lt parent longer = record {
  here = subst (LeadsUp up part p) next to;
  rest = subst (λ (q : ℕ). Climbs up q (steps - (i + 1))) (same_Some _ _ (sym step.1 ∙ parent)) step.2;
  forth = λ id has. by id (Contains-push_cases way p id (subst (λ w. Contains w id) longer has));
  back = λ id n le leads. subst (λ w. Contains w id) (sym longer) (found id n (cases_lt i n) le leads);
}
  where
    next : suc i ≡ i + 1
    next = omega arith

    to : LeadsUp up part p (suc i)
    to = leads_on up part at p i is.here parent

    step : (p : ℕ) × (up at ≡ Some p) × Climbs up p (steps - (i + 1))
    step = one_step up part steps i at way is lt

    by : (id : ℕ) → Contains way id ⊎ (p ≡ id) → (n : ℕ) × LeadsUp up part id n
    by id (inl has) = is.forth id has
    by id (inr same) = (suc i, subst (λ (id : ℕ). LeadsUp up part id (suc i)) same to)

    found : (id n : ℕ) → (i < n) ⊎ (n ≤ i) → n ≤ i + 1 → LeadsUp up part id n → Contains (way ++ p ∷ []) id
    found id n (inr le) most leads = Contains-append_left way (p ∷ []) id (is.back id n le leads)
    found id n (inl gt) most leads =
        let last : n ≡ suc i = omega (arith, gt, most) in
        subst (Contains (way ++ p ∷ [])) (one_end up part p id (suc i) to (subst (LeadsUp up part id) last leads)) (Contains-push way p)

-- at the end the way has all ids above
pub way_ends : {T : Type 0} (m : Rows T) (part steps i at : ℕ) (way : List ℕ) → IsWay (parent m) part steps i at way → steps ≤ i → (id : ℕ) → Contains way id ↔ IsInSubtree m id part
way_ends m part steps i at way is le id = (is.forth id, back)
  where
    top : parent m at ≡ None
    top = let none : steps - i ≡ 0 = omega (arith, le) in subst (Climbs (parent m) at) none is.rest

    back : IsInSubtree m id part → Contains way id
    back (n, leads) = is.back id n (no_further (parent m) part at id i n is.here top leads) leads

-- whether a list has a number, as a slice tells it
abbrev pub is_in : List ℕ → ℕ → Bool
is_in xs x = list_any (λ y. nat_eq y x) xs

pub is_in-exact : (xs : List ℕ) (x : ℕ) → (is_in xs x ≡ true) ↔ Contains xs x
is_in-exact xs x = (Contains-from_any {eq = λ a b. nat_eq b a} (λ a b h. grind (arith, nat_tests, h)) x xs, λ has. list_any_at (λ y. nat_eq y x) xs has.0 x has.1 (eq-eqb _ _ has.2))

-- a step of a filter
pub filtered_one : (p : ℕ → Bool) (xs : List ℕ) (i : ℕ) → i < length xs → filter p (take (i + 1) xs) ≡ filter p (take i xs) ++ cond (p (get_or xs i 0)) (get_or xs i 0 ∷ []) []
filtered_one p xs i lt = ap (filter p) (take_at_read xs i 0 lt).1 ∙ filter-append p (take i xs) (get_or xs i 0 ∷ [])

pub kept_one : (way seen ids : List ℕ) (i : ℕ) (has : Bool) (old new : List ℕ) → i < length ids → old ≡ filter (is_in way) (take i ids) → seen ≡ way → has ≡ is_in seen (get_or ids i 0)
    → new ≡ old ++ cond has (get_or ids i 0 ∷ []) [] → new ≡ filter (is_in way) (take (i + 1) ids)
kept_one way seen ids i has old new lt so_far same is more =
    let id = get_or ids i 0 in
    more ∙ ap (λ (l : List ℕ). l ++ cond has (id ∷ []) []) so_far
    ∙ ap (λ (b : Bool). filter (is_in way) (take i ids) ++ cond b (id ∷ []) []) (is ∙ ap (λ (w : List ℕ). is_in w id) same)
    ∙ sym (filtered_one (is_in way) ids i lt)

-- the number of steps up to the root is the depth, and 0 from what isn't there
pub steps_up : {T : Type 0} (m : Rows T) (q : ℕ) (depth : Option ℕ) (steps : ℕ) → is_some depth ≡ contains_key m q → IfSome depth (HasDepth m q) → steps ≡ unwrap_or depth 0
    → Climbs (parent m) q steps
steps_up m q None steps found deep is = subst (Climbs (parent m) q) (sym is) (climbs_none m q (sym found))
steps_up m q (Some d) steps found deep is = subst (Climbs (parent m) q) (sym is) (climbs m q d deep)

-- what is above is chosen from all ids
pub way_of_all : (tree : Rows PartitionState) (part : ℕ) (ids way shown : List ℕ) (i : ℕ) → ((id : ℕ) → Contains way id ↔ IsInSubtree tree id part) → shown ≡ filter (is_in way) (take i ids)
    → length ids ≤ i → AreAbove tree part ids shown
way_of_all tree part ids way shown i above is le = record {
  is_above = is_in way;
  exact = λ id. let there = is_in-exact way id in let up = above id in (λ yes. up.0 (there.0 yes), λ below. there.1 (up.1 below));
  all = is ∙ ap (filter (is_in way)) (take_all i ids le);
}
