-- A change has effects of one kind alone.
use Rattle.std.proofs.Common.{◌≡◌, ℕ, ◌==◌, ◌&&◌, not, is_some, Bool, true, false, Option, Some, None, refl, sym, ap, ◌∙◌, arith, eqb-true}
use Rattle.std.proofs.lemmas.Bool.{and_parts}
use Rattle.std.specs.FinMap.{contains_key, get}
use Rattle.std.specs.Option.{option_map_or}
use Rattle.hv_defs.specs.declared.life.Life.{Life}
use Rattle.hv_defs.specs.declared.life.Life.TheVariants.{Active, Finalized}
use Rattle.hv_policy.specs.Flat.{Flat, PageRow}
use Rattle.hv_admit.proofs.Unchanged.{not_opposite, own_page, untold_unchanged}
use Rattle.hv_admit.specs.Effect.{HasPage, LeavesUnnamed, Tells, life_of, was_of}
use Rattle.hv_admit.specs.Kind.{kind_of}
use Rattle.hv_admit.specs.declared.effect.Effect.{Effect}
use Rattle.hv_admit.specs.declared.effect.Effect.TheVariants as variant
use Rattle.hv_admit.specs.declared.effect.Synic.{Synic}

-- no partition is Active and Finalized
two_lives : (life : Option Life) → life ≡ Some Active → life ≡ Some Finalized → ⊥
two_lives life active final = (let both : Some Active ≡ Some Finalized = sym active ∙ final in cc)

module _ (f g : Flat) where
  -- an effect at a processor names no page, and one on pages nothing else
  calm : (s : Synic) → Tells (variant.Synic s) f g → LeavesUnnamed variant.Nothing f g → ⊥
  calm s t same = (let clash : variant.Synic s ≡ variant.Nothing = untold_unchanged f g same (variant.Synic s) t in cc)

  by_page : (s : Synic) (page owner : ℕ) (pooled : Bool) → Tells (variant.Synic s) f g → Tells (variant.Page page owner pooled) f g → ⊥
  by_page s page owner pooled t u = calm s t (record {
    messages = λ at _. u.unnamed.messages at refl;
    flags = λ at flag _. u.unnamed.flags at flag refl;
    vectors = λ part vp vector _. u.unnamed.vectors part vp vector refl;
    pages = λ page _. t.unnamed.pages page refl;
    processors = λ part vp _. u.unnamed.processors part vp refl;
  })

  by_pages : (s : Synic) (from to : ℕ) → Tells (variant.Synic s) f g → Tells (variant.Pages from to) f g → ⊥
  by_pages s from to t u = calm s t (record {
    messages = λ at _. u.unnamed.messages at refl;
    flags = λ at flag _. u.unnamed.flags at flag refl;
    vectors = λ part vp vector _. u.unnamed.vectors part vp vector refl;
    pages = λ page _. t.unnamed.pages page refl;
    processors = λ part vp _. u.unnamed.processors part vp refl;
  })

  -- the processors stay
  abbrev SameProcessors : Type 0
  SameProcessors = (part vp : ℕ) → contains_key g.vp (part, vp) ≡ contains_key f.vp (part, vp)

  not_processor : (part vp : ℕ) → SameProcessors → Tells (variant.Processor part vp) f g → ⊥
  not_processor part vp same t = not_opposite (contains_key f.vp (part, vp)) (sym (same part vp) ∙ t.changed)

  not_partition : (part : ℕ) → SameProcessors → Tells (variant.Partition part) f g → ⊥
  not_partition part same t = (let clash : true ≡ false = sym t.changed.is ∙ sym (same part t.changed.vp) ∙ t.named.gone t.changed.vp in cc)

  -- a page that moved has a former owner that exists
  owner_of : (from : ℕ) (row : Option PageRow) → was_of from row ≡ true
      → option_map_or (λ row. contains_key g.part row.owner) row false ≡ contains_key g.part from
  owner_of from None was = cc
  owner_of from (Some row) was = ap (contains_key g.part) (eqb-true row.owner from was)

  moved_on : (page owner from to : ℕ) (pooled : Bool) → Tells (variant.Page page owner pooled) f g → Tells (variant.Pages from to) f g → ⊥
  moved_on page owner from to pooled t u =
      let (some, apart) = u.changed in
      by some.page some.is (some.page == page) refl
      (λ same. apart (own_page from to (get f.page some.page) some.is (sym same ∙ u.named.pages some.page some.is)))
    where
      by : (q : ℕ) → was_of from (get f.page q) ≡ true → (b : Bool) → q == page ≡ b → (get g.page q ≡ get f.page q → ⊥) → ⊥
      by q was true here stays =
          let at : was_of from (get f.page page) ≡ true = ap (λ q. was_of from (get f.page q)) (sym (eqb-true q page here)) ∙ was in
          let clash : true ≡ false = sym t.named.owner ∙ owner_of from (get f.page page) at ∙ u.named.gone in
          cc
      by q was false off stays = stays (t.unnamed.pages q off)

  -- a processor of a finalized partition isn't one of an Active one
  ended_alone : (part vp id : ℕ) → Tells (variant.Processor part vp) f g → Tells (variant.Partition id) f g → ⊥
  ended_alone part vp id t u = by (part == id) refl
    where
      by : (b : Bool) → part == id ≡ b → ⊥
      by true here = two_lives (life_of g part) t.named.life (ap (life_of g) (eqb-true part id here) ∙ u.named.life)
      by false off = not_opposite (contains_key f.vp (part, vp)) (sym (u.unnamed.processors part vp off) ∙ t.changed)

  pub one_kind : (e other : Effect) → Tells e f g → Tells other f g → kind_of e ≡ kind_of other
  one_kind variant.Nothing other t u = ap kind_of (sym (untold_unchanged f g t.unnamed other u))
  one_kind e variant.Nothing t u = ap kind_of (untold_unchanged f g u.unnamed e t)
  one_kind (variant.Synic s) (variant.Synic _) t u = refl
  one_kind (variant.Page _ _ _) (variant.Page _ _ _) t u = refl
  one_kind (variant.Pages _ _) (variant.Pages _ _) t u = refl
  one_kind (variant.Processor _ _) (variant.Processor _ _) t u = refl
  one_kind (variant.Partition _) (variant.Partition _) t u = refl
  one_kind (variant.Synic s) (variant.Page page owner pooled) t u = absurd (by_page s page owner pooled t u)
  one_kind (variant.Page page owner pooled) (variant.Synic s) t u = absurd (by_page s page owner pooled u t)
  one_kind (variant.Synic s) (variant.Pages from to) t u = absurd (by_pages s from to t u)
  one_kind (variant.Pages from to) (variant.Synic s) t u = absurd (by_pages s from to u t)
  one_kind (variant.Synic s) (variant.Processor part vp) t u = absurd (not_processor part vp (λ part vp. t.unnamed.processors part vp refl) u)
  one_kind (variant.Processor part vp) (variant.Synic s) t u = absurd (not_processor part vp (λ part vp. u.unnamed.processors part vp refl) t)
  one_kind (variant.Synic s) (variant.Partition part) t u = absurd (not_partition part (λ part vp. t.unnamed.processors part vp refl) u)
  one_kind (variant.Partition part) (variant.Synic s) t u = absurd (not_partition part (λ part vp. u.unnamed.processors part vp refl) t)
  one_kind (variant.Page page owner pooled) (variant.Pages from to) t u = absurd (moved_on page owner from to pooled t u)
  one_kind (variant.Pages from to) (variant.Page page owner pooled) t u = absurd (moved_on page owner from to pooled u t)
  one_kind (variant.Page page owner pooled) (variant.Processor part vp) t u = absurd (not_processor part vp (λ part vp. t.unnamed.processors part vp refl) u)
  one_kind (variant.Processor part vp) (variant.Page page owner pooled) t u = absurd (not_processor part vp (λ part vp. u.unnamed.processors part vp refl) t)
  one_kind (variant.Page page owner pooled) (variant.Partition part) t u = absurd (not_partition part (λ part vp. t.unnamed.processors part vp refl) u)
  one_kind (variant.Partition part) (variant.Page page owner pooled) t u = absurd (not_partition part (λ part vp. u.unnamed.processors part vp refl) t)
  one_kind (variant.Pages from to) (variant.Processor part vp) t u = absurd (not_processor part vp (λ part vp. t.unnamed.processors part vp refl) u)
  one_kind (variant.Processor part vp) (variant.Pages from to) t u = absurd (not_processor part vp (λ part vp. u.unnamed.processors part vp refl) t)
  one_kind (variant.Pages from to) (variant.Partition part) t u = absurd (not_partition part (λ part vp. t.unnamed.processors part vp refl) u)
  one_kind (variant.Partition part) (variant.Pages from to) t u = absurd (not_partition part (λ part vp. u.unnamed.processors part vp refl) t)
  one_kind (variant.Processor part vp) (variant.Partition id) t u = absurd (ended_alone part vp id t u)
  one_kind (variant.Partition id) (variant.Processor part vp) t u = absurd (ended_alone part vp id u t)
