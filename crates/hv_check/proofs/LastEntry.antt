-- The last entry of a history.
use Rattle.std.proofs.Common.{◌≡◌, ℕ, ◌+◌, ◌-◌, List, [], ◌∷◌, ◌++◌, refl, sym, ap, ◌∙◌, arith, length, length-append, Some, slice_get}

module _ {X : Type 0} where
  behind : (before : List X) (last : X) → slice_get (before ++ last ∷ []) (length before) ≡ Some last
  behind [] last = refl
  behind (x ∷ before) last = behind before last

  -- which was looked up at its place
  pub last_is : (history before : List X) (last e : X) (at : ℕ) → history ≡ before ++ last ∷ [] → at + 1 ≡ length history → slice_get history at ≡ Some e → e ≡ last
  last_is history before last e at all place is =
      let n = ap length all in
      let here : at ≡ length before = omega (arith, n, place, length-append before (last ∷ [])) in
      let same : Some e ≡ Some last = sym is ∙ (λ i. slice_get (all i) (here i)) ∙ behind before last in cc
