-- Loose and pooled pages as the model looks them up, in a state that a machine stands for.
use Rattle.std.proofs.Common.{◌≡◌, ℕ, ◌==◌, Bool, true, false, ◌&&◌, find, Option, Some, None, refl, sym, ap, subst, ◌∙◌, arith}
use Rattle.std.specs.FinMap.{get, entries}
use Rattle.hv_defs.proofs.Counts.{passes}
use Rattle.hv_pages.specs.PageSet.{IsLowest}
use Rattle.hv_partition.specs.Partition.{PartitionState}
use Rattle.hv_policy.specs.Count.{lowest_pooled, number_of}
use Rattle.hv_policy.specs.Flat.{Flat, PageRow}
use Rattle.hv_policy.specs.Met.{is_loose}
use Rattle.hv_tree.specs.Rows.{Row, Rows}
use Rattle.hv_admit.proofs.CountedRows.{pooled_at}
use Rattle.hv_defs.proofs.Maps.{found_least, found_row}
use Rattle.hv_admit.specs.Tie.{Refines, is_held, holds}

-- a loose page of a partition is one that it holds so
pub loose_is_held : (id : ℕ) (page : Option PageRow) → is_loose id page ≡ is_held id false page
loose_is_held id None = refl
loose_is_held id (Some page) = refl

module _ (rows : Rows PartitionState) (f : Flat) (flat : Refines rows f) (id : ℕ) where
  pub loose_held : (page : ℕ) → is_loose id (get f.page page) ≡ holds false page (get rows id)
  loose_held page = loose_is_held id (get f.page page) ∙ (flat.rows id).page page false

  abbrev is_own : ℕ × PageRow → Bool
  is_own e = e.1.owner == id && e.1.pooled

  abbrev found : Option (ℕ × PageRow)
  found = find is_own (entries f.page)

  own_held : (q : ℕ) (row : PageRow) → get f.page q ≡ Some row → is_own (q, row) ≡ true → holds true q (get rows id) ≡ true
  own_held q row is own = sym (pooled_at rows f flat id q) ∙ ap (passes is_own q) is ∙ own

  held_own : (q : ℕ) → holds true q (get rows id) ≡ true → (row : PageRow) × (get f.page q ≡ Some row) × (is_own (q, row) ≡ true)
  held_own q h = by (get f.page q) refl (pooled_at rows f flat id q ∙ h)
    where
      by : (row : Option PageRow) → get f.page q ≡ row → passes is_own q (get f.page q) ≡ true → (row : PageRow) × (get f.page q ≡ Some row) × (is_own (q, row) ≡ true)
      by None is h = let none = sym (ap (passes is_own q) is) ∙ h in cc
      by (Some row) is h = let some = sym (ap (passes is_own q) is) ∙ h in (row, is, some)

  -- where a partition holds no pooled page, there is no lowest
  pub no_lowest : ((q : ℕ) → holds true q (get rows id) ≡ false) → lowest_pooled f id ≡ None
  no_lowest none = by found refl
    where
      by : (c : Option (ℕ × PageRow)) → found ≡ c → number_of c ≡ None
      by None is = refl
      by (Some c) is =
          let (there, own) = found_row is_own f.page c is in
          let h = sym (own_held c.0 c.1 there own) ∙ none c.0 in
          cc

  -- and the lowest that it holds is the model's
  pub lowest_is : (r : Row PartitionState) → get rows id ≡ Some r → (page : ℕ) → IsLowest r.1.pooled.pages page → lowest_pooled f id ≡ Some page
  lowest_is r is page low =
      let (row, there, own) = held_own page (ap (holds true page) is ∙ low.held) in
      let (c, same, le) = found_least is_own f.page page row there own in
      let (c_there, c_own) = found_row is_own f.page c same in
      let ge = low.least c.0 (sym (ap (holds true c.0) is) ∙ own_held c.0 c.1 c_there c_own) in
      let number : c.0 ≡ page = omega arith in
      ap number_of same ∙ ap Some number

  -- and what is the model's lowest is one that it holds
  pub lowest_held : (page : ℕ) → lowest_pooled f id ≡ Some page → holds true page (get rows id) ≡ true
  lowest_held page low = by found refl low
    where
      by : (c : Option (ℕ × PageRow)) → found ≡ c → number_of c ≡ Some page → holds true page (get rows id) ≡ true
      by None is h = cc
      by (Some c) is h =
          let (there, own) = found_row is_own f.page c is in
          let same : c.0 ≡ page = cc in
          subst (λ q. holds true q (get rows id) ≡ true) same (own_held c.0 c.1 there own)
