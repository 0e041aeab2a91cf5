-- Which partitions are a caller's relatives.
use Rattle.std.proofs.Common.{◌≡◌, ℕ, ◌==◌, ◌||◌, Bool, true, false, refl, sym, ap, ◌∙◌, eqb-true}
use Rattle.hv_policy.specs.Flat.{Flat}
use Rattle.hv_policy.specs.Met.{is_child, is_kin}
use Rattle.hv_policy.specs.declared.need.Kin.{Kin}
use Rattle.hv_policy.specs.declared.need.Kin.TheVariants as kin
use Rattle.hv_security.specs.Same.{is_relative}

-- whom a call may name is a relative
pub kin_relative : (k : Kin) (f : Flat) (caller id : ℕ) → is_kin k f caller id ≡ true → is_relative f caller id ≡ true
kin_relative kin.Caller f caller id h = ap (λ b. b || is_child f caller id) h
kin_relative kin.CallerOrChild f caller id h = h
kin_relative kin.Child f caller id h = by (id == caller) h
  where
    by : (b : Bool) → is_child f caller id ≡ true → b || is_child f caller id ≡ true
    by true h = refl
    by false h = h

-- a relative is another than who is none
pub far_apart : (f : Flat) (caller id target : ℕ) → is_relative f caller id ≡ false → is_relative f caller target ≡ true → id == target ≡ false
far_apart f caller id target far own = by (id == target) refl
  where
    by : (b : Bool) → id == target ≡ b → b ≡ false
    by true is = sym own ∙ ap (is_relative f caller) (sym (eqb-true id target is)) ∙ far
    by false is = refl
