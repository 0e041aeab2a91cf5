-- What members have alike in two states reads alike.
use Rattle.std.proofs.Common.{◌≡◌, ℕ, ◌==◌, ◌||◌, Bool, true, false, Option, Some, None, is_some, refl, sym, ap, ◌∙◌, ne_eqb, option_map}
use Rattle.hv_policy.specs.Count.{is_parent}
use Rattle.hv_policy.specs.Flat.{Flat}
use Rattle.hv_policy.specs.Met.{is_child, is_kin, test_row}
use Rattle.hv_policy.specs.declared.need.Kin.{Kin}
use Rattle.hv_policy.specs.declared.need.Kin.TheVariants as kin
use Rattle.hv_security.specs.Alike.{AreLowEquivalent, AreClosed}

-- rows that are alike in some way are there alike
pub there_alike : {X Y : Type 0} (u v : X → Y) (r s : Option X) → option_map u r ≡ option_map v s → is_some r ≡ is_some s
there_alike u v None None e = refl
there_alike u v None (Some y) e = cc
there_alike u v (Some x) None e = cc
there_alike u v (Some x) (Some y) e = refl

module _ (members : ℕ → Bool) where
  -- who is no member is no child of one
  pub no_child : (h : Flat) → AreClosed members h → (parent id : ℕ) → members parent ≡ true → members id ≡ false → is_child h parent id ≡ false
  no_child h closed parent id own off = by (is_child h parent id) refl
    where
      by : (b : Bool) → is_child h parent id ≡ b → b ≡ false
      by true is = let clash = sym off ∙ closed parent id own is in cc
      by false is = refl

  module _ (f g : Flat) (a : AreLowEquivalent members f g) (closed : AreClosed members f) (closed_too : AreClosed members g) where
    pub child_alike : (parent id : ℕ) → members parent ≡ true → is_child f parent id ≡ is_child g parent id
    child_alike parent id own = by (members id) refl
      where
        by : (b : Bool) → members id ≡ b → is_child f parent id ≡ is_child g parent id
        by true is = ap (test_row (λ row. is_parent parent row.parent)) (a id is).part
        by false off = no_child f closed parent id own off ∙ sym (no_child g closed_too parent id own off)

    module _ (caller : ℕ) (own : members caller ≡ true) where
      -- whom the caller may name
      pub kin_alike : (k : Kin) (id : ℕ) → is_kin k f caller id ≡ is_kin k g caller id
      kin_alike kin.Caller id = refl
      kin_alike kin.CallerOrChild id = ap (λ b. (id == caller) || b) (child_alike caller id own)
      kin_alike kin.Child id = child_alike caller id own

      pub no_kin : (h : Flat) → AreClosed members h → (k : Kin) (id : ℕ) → members id ≡ false → is_kin k h caller id ≡ false
      no_kin h shut k id off = by k
        where
          other : id == caller ≡ false
          other = ne_eqb id caller (λ same. (let clash = sym off ∙ ap members same ∙ own in cc))

          by : (k : Kin) → is_kin k h caller id ≡ false
          by kin.Caller = other
          by kin.CallerOrChild = λ i. other i || no_child h shut caller id own off i
          by kin.Child = no_child h shut caller id own off
