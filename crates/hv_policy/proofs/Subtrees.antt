-- The test of a subtree decides the relation, where parents' ids are below their children's.
use Rattle.std.proofs.Common.{◌≡◌, ℕ, zero, suc, ◌<◌, ◌≤◌, ◌==◌, ◌||◌, Bool, true, false, Option, Some, None, refl, ap, ◌∙◌, arith, eqb-true, eq-eqb}
use Rattle.std.specs.Option.{option_map_or}
use Rattle.hv_policy.specs.Subtree.{LeadsUp, leads_within}

or_true : (b : Bool) → b || true ≡ true
or_true true = refl
or_true false = refl

module _ (parent_of : ℕ → Option ℕ) (top : ℕ) where
  -- where the test is met, a chain leads up
  pub within_leads : (steps id : ℕ) → leads_within steps parent_of top id ≡ true → (n : ℕ) × LeadsUp parent_of top n id
  within_leads zero id h = (0, eqb-true id top h)
  within_leads (suc steps) id h = by (id == top) (parent_of id) refl refl h (within_leads steps)
    where
      by : (b : Bool) (o : Option ℕ) → id == top ≡ b → parent_of id ≡ o → b || option_map_or (leads_within steps parent_of top) o false ≡ true →
          ((p : ℕ) → leads_within steps parent_of top p ≡ true → (n : ℕ) × LeadsUp parent_of top n p) → (n : ℕ) × LeadsUp parent_of top n id
      by true o here is h rest = (0, eqb-true id top here)
      by false None here is h rest = cc
      by false (Some p) here is h rest = let (n, leads) = rest p h in (suc n, (p, is, leads))

  -- where it is met, it is with more steps
  within_more : (steps more id : ℕ) → steps ≤ more → leads_within steps parent_of top id ≡ true → leads_within more parent_of top id ≡ true
  within_more zero zero id le h = h
  within_more zero (suc more) id le h = ap (λ b. b || option_map_or (leads_within more parent_of top) (parent_of id) false) h
  within_more (suc steps) zero id le h = absurd (omega (arith, le))
  within_more (suc steps) (suc more) id le h = by (id == top) (parent_of id) h (λ p. within_more steps more p (omega (arith, le)))
    where
      by : (b : Bool) (o : Option ℕ) → b || option_map_or (leads_within steps parent_of top) o false ≡ true →
          ((p : ℕ) → leads_within steps parent_of top p ≡ true → leads_within more parent_of top p ≡ true) → b || option_map_or (leads_within more parent_of top) o false ≡ true
      by true o h rest = refl
      by false None h rest = h
      by false (Some p) h rest = rest p h

  -- a chain is found in as many steps as it has
  found_within : (n id : ℕ) → LeadsUp parent_of top n id → leads_within n parent_of top id ≡ true
  found_within zero id leads = eq-eqb id top leads
  found_within (suc n) id (p, is, leads) =
      ap (λ o. (id == top) || option_map_or (leads_within n parent_of top) o false) is
      ∙ ap (λ b. (id == top) || b) (found_within n p leads) ∙ or_true (id == top)

  module _ (rising : (id p : ℕ) → parent_of id ≡ Some p → p < id) where
    -- and has no more steps than the id
    few_steps : (n id : ℕ) → LeadsUp parent_of top n id → n ≤ id
    few_steps zero id leads = omega arith
    few_steps (suc n) id (p, is, leads) = let few = few_steps n p leads in let less = rising id p is in omega arith

    -- so the test finds each
    pub leads_tested : (n id : ℕ) → LeadsUp parent_of top n id → leads_within id parent_of top id ≡ true
    leads_tested n id leads = within_more n id id (few_steps n id leads) (found_within n id leads)

    -- what is below a partition of the subtree is in it
    pub child_within : (id p : ℕ) → parent_of id ≡ Some p → leads_within p parent_of top p ≡ true → leads_within id parent_of top id ≡ true
    child_within id p is h = let (n, leads) = within_leads p p h in leads_tested (suc n) id (p, is, leads)
