-- Where nothing changed, nothing is told.
use Rattle.std.proofs.Common.{◌≡◌, ℕ, ◌==◌, ◌||◌, not, is_some, Bool, true, false, List, [], ◌∷◌, ◌++◌}
use Rattle.std.proofs.Common.{Option, Some, None, refl, sym, ap, ◌∙◌, arith, eq-eqb, eqb-true}
use Rattle.std.proofs.lemmas.Nat.Bits.{bit_at-lt, bit_at-zero, same_from_bits}
use Rattle.std.specs.FinMap.{get}
use Rattle.std.specs.Int.{bit_at}
use Rattle.hv_policy.specs.Flat.{Flat, MailRow, PageRow}
use Rattle.hv_policy.specs.Mail.{is_shown, place}
use Rattle.hv_admit.specs.Effect.{IsSynic, LeavesUnnamed, Tells, has_bit, names_some, was_of}
use Rattle.hv_admit.specs.declared.effect.Effect.{Effect}
use Rattle.hv_admit.specs.declared.effect.Effect.TheVariants as variant
use Rattle.hv_admit.specs.declared.effect.FlagChange.{FlagChange}
use Rattle.hv_admit.specs.declared.effect.Synic.{Synic}
use Rattle.std.proofs.Common.{find}

-- a mask without bits is 0
no_mask : (mask : ℕ) → ((k : ℕ) → has_bit mask k ≡ false) → mask == 0 ≡ true
no_mask mask none = eq-eqb mask 0 (same_from_bits mask 0 (λ k. clear k ∙ sym (bit_at-zero k)))
  where
    clear : (k : ℕ) → bit_at mask k ≡ 0
    clear k = grind (arith, none k, bit_at-lt mask k)

-- a list is no longer than itself
not_longer : (rows : List MailRow) (row : MailRow) → rows ≡ rows ++ row ∷ [] → ⊥
not_longer [] row same = cc
not_longer (first ∷ rows) row same = not_longer rows row (cc)

-- no Boolean is its opposite
pub not_opposite : (b : Bool) → b ≡ not b → ⊥
not_opposite true same = cc
not_opposite false same = cc

-- a partition's page is no page of another one
pub own_page : (from to : ℕ) (row : Option PageRow) → was_of from row ≡ true → row ≡ Some (record { owner = to; pooled = false }) → from ≡ to
own_page from to row was now = sym (eqb-true to from (sym (ap (was_of from) now) ∙ was))

module _ (f g : Flat) (same : LeavesUnnamed variant.Nothing f g) where
  -- at a processor then nothing is named but raised vectors
  module _ (s : Synic) (is : IsSynic s f g) where
    none_shown : (k : ℕ) (b : Bool) → has_bit s.shown k ≡ b → b ≡ false
    none_shown k true h = absurd (is.shown k h (ap (find is_shown) (same.messages (place s.part s.vp k) refl)))
    none_shown k false h = refl

    none_waits : (o : Option ℕ) → s.waiting ≡ o → is_some o ≡ false
    none_waits None h = refl
    none_waits (Some sint) h =
        let more = is.waiting sint h in
        absurd (not_longer _ more.message (sym (same.messages (place s.part s.vp sint) refl) ∙ more.last))

    none_turned : (o : Option FlagChange) → s.flag ≡ o → is_some o ≡ false
    none_turned None h = refl
    none_turned (Some change) h =
        let turned = is.flag change h in
        absurd (not_opposite change.is_set (sym turned.now ∙ same.flags (place s.part s.vp change.sint) change.flag refl ∙ turned.before))

    none_taken : (o : Option ℕ) → s.taken ≡ o → is_some o ≡ false
    none_taken None h = refl
    none_taken (Some vector) h =
        let taken = is.taken vector h in
        let clash : false ≡ true = sym taken.now ∙ same.vectors s.part s.vp vector refl ∙ taken.before in
        cc

    pub names_none : names_some s ≡ false
    names_none =
        (λ i. (not (no_mask s.shown (λ k. none_shown k (has_bit s.shown k) refl) i) || none_waits s.waiting refl i)
        || (none_turned s.flag refl i || none_taken s.taken refl i))

  pub untold_unchanged : (e : Effect) → Tells e f g → e ≡ variant.Nothing
  untold_unchanged variant.Nothing t = refl
  untold_unchanged (variant.Synic s) t = (let clash : false ≡ true = sym (names_none s t.named) ∙ t.changed in cc)
  untold_unchanged (variant.Page page owner pooled) t = absurd (t.changed (sym (same.pages page refl) ∙ t.named.now))
  untold_unchanged (variant.Pages from to) t =
      let (some, apart) = t.changed in
      absurd (apart (own_page from to (get f.page some.page) some.is (sym (same.pages some.page refl) ∙ t.named.pages some.page some.is)))
  untold_unchanged (variant.Processor part vp) t = absurd (not_opposite _ (sym (same.processors part vp refl) ∙ t.changed))
  untold_unchanged (variant.Partition part) t =
      let clash : true ≡ false = sym t.changed.is ∙ sym (same.processors part t.changed.vp refl) ∙ t.named.gone t.changed.vp in
      cc
