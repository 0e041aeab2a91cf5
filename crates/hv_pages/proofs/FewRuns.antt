-- Few runs as the only block.
use Rattle.std.proofs.Common.{◌≡◌, ◌==◌, Bool, true, false, ℕ, ◌+◌, ◌<◌, ◌≤◌, List, [], ◌∷◌, ◌++◌, length, arith, refl, ap, sym, subst, ◌∙◌, append-nil}
use Rattle.std.proofs.lemmas.Bool.{eqb-true, eqb-false}
use Rattle.hv_pages.specs.declared.runs.Run.{Run}
use Rattle.hv_pages.specs.declared.blocks.Place.{Place}
use Rattle.hv_pages.specs.Blocks.{Block, IsPlace, IsPlaceOrEnd, before, flat}
use Rattle.hv_pages.specs.RunList.{as_block}

pub some_of : (n : ℕ) (empty : Bool) → empty ≡ (n == 0) → empty ≡ false → 1 ≤ n
some_of n empty is h = let ne = eqb-false n 0 (sym is ∙ h) in omega (arith, ne)

pub none_of : (n : ℕ) (empty : Bool) → empty ≡ (n == 0) → empty ≡ true → n ≡ 0
none_of n empty is h = eqb-true n 0 (sym is ∙ h)

-- without few runs there are the blocks alone
pub no_few : (few : List Run) (bs : List Block) → length few ≡ 0 → as_block few ++ bs ≡ bs
no_few [] bs e = refl
no_few (run ∷ few) bs e = absurd (omega (arith, e))

pub few_alone : (few : List Run) (bs : List Block) → 1 ≤ length few → bs ≡ [] → as_block few ++ bs ≡ record { items = few } ∷ []
few_alone [] bs some e = absurd (omega (arith, some))
few_alone (run ∷ few) bs some e = ap (λ (l : List Block). record { items = run ∷ few } ∷ l) e

few_flat_of : (few : List Run) → flat (as_block few ++ []) ≡ few
few_flat_of [] = refl
few_flat_of (run ∷ few) = append-nil (run ∷ few)

-- without blocks there are the few runs alone
pub few_flat : (few : List Run) (bs : List Block) → bs ≡ [] → flat (as_block few ++ bs) ≡ few
few_flat few bs e = ap (λ (l : List Block). flat (as_block few ++ l)) e ∙ few_flat_of few

pub first_before : (bs : List Block) (p : Place) → p.block ≡ 0 → before bs p ≡ p.at
first_before bs p e = rw e (omega arith)

module _ (few : List Run) (bs : List Block) (p : Place) (some : 1 ≤ length few) (none : bs ≡ []) where
  abbrev only : List Block
  only = record { items = few } ∷ []

  pub few_at : p.block ≡ 0 → IsPlaceOrEnd (as_block few ++ bs) p → p.at < length few
  few_at e h =
      let g : IsPlaceOrEnd only p = subst (λ (l : List Block). IsPlaceOrEnd l p) (few_alone few bs some none) h in
      let lt = g.1 (omega (arith, e)) (record { items = few }) in
      rw e at lt

  pub few_block : IsPlace (as_block few ++ bs) p → p.block ≡ 0
  few_block h =
      let g : IsPlace only p = subst (λ (l : List Block). IsPlace l p) (few_alone few bs some none) h in
      let lt = g.0 in
      omega (arith, lt)

  pub few_within : IsPlace (as_block few ++ bs) p → p.at < length few
  few_within h =
      let g : IsPlace only p = subst (λ (l : List Block). IsPlace l p) (few_alone few bs some none) h in
      let e = few_block h in
      let lt = g.1 (record { items = few }) in
      rw e at lt

  pub few_place : p.block ≡ 0 → p.at < length few → IsPlace (as_block few ++ bs) p
  few_place e lt =
      let g : IsPlace only p = (omega (arith, e), λ b. rw e lt) in
      subst (λ (l : List Block). IsPlace l p) (sym (few_alone few bs some none)) g
