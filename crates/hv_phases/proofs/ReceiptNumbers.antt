-- The numbers of a pass's receipts.
use Rattle.std.proofs.Common.{◌≡◌, ℕ, zero, suc, ◌+◌, ◌<◌, ◌≤◌, max, List, [], ◌∷◌, length, get_or, drop, refl, sym, subst, arith, Bool, true, false, Some, All, nat_lt, option_map, slice_get}
use Rattle.std.proofs.Common.{get_or-drop, length-drop}
use Rattle.std.proofs.lemmas.Bool.Decides.{nat_tests}
use Rattle.std.proofs.lemmas.Option.{none-some, same_Some}
use Rattle.hv_phases.specs.PassMap.{IsWithin}
use Rattle.hv_shared.specs.declared.receipts.Receipt.{Receipt}

number_is : (list : List Receipt) (at number : ℕ) (d : Receipt) → option_map (λ r. r.number) (slice_get list at) ≡ Some number → (get_or list at d).number ≡ number
number_is [] at number d is = absurd (none-some number is)
number_is (r ∷ rs) zero number d is = same_Some r.number number is
number_is (r ∷ rs) (suc k) number d is = number_is rs k number d is

module _ (list : List Receipt) (from last highest at : ℕ) (so_far : (k : ℕ) (d : Receipt) → from ≤ k → k < at → IsWithin last highest (get_or list k d)) where
  -- the number at a place is above too
  pub above_more : (number : ℕ) → option_map (λ (r : Receipt). r.number) (slice_get list at) ≡ Some number → last < number → (k : ℕ) (d : Receipt) → from ≤ k → k < at + 1
      → IsWithin last (max highest number) (get_or list k d)
  above_more number known above k d low less = by (nat_lt k at) refl
    where
      by : (t : Bool) → nat_lt k at ≡ t → IsWithin last (max highest number) (get_or list k d)
      by true is =
          let before : k < at = grind (arith, nat_tests) in
          let was = so_far k d low before in
          let up = was.1 in
          (was.0, omega (arith, up))
      by false is =
          let same : at ≡ k = grind (arith, nat_tests) in
          let own : (get_or list at d).number ≡ number = number_is list at number d known in
          subst (λ (j : ℕ). IsWithin last (max highest number) (get_or list j d)) same (omega (arith, own, above), omega (arith, own))

  -- all were looked at
  pub above_all : length list ≤ at → All (IsWithin last highest) (drop from list)
  above_all all k d h =
      let long = length-drop from list in
      subst (IsWithin last highest) (sym (get_or-drop from list k d)) (so_far (from + k) d (omega arith) (omega (arith, all, long, h)))
