-- Sets of pages that share none.
use Rattle.std.proofs.Common.{sym, ◌∙◌, inl, inr}
use Rattle.std.specs.Cmp.{nat_cmp_total}
use Rattle.std.specs.FinSet as set
use Rattle.std.specs.FinSet.{contains-union}
use Rattle.std.proofs.lemmas.Bool.{or_cases}
use Rattle.hv_pages.specs.PageSet.{Pages, IsDisjoint}

-- what shares no page with either set shares none with both together
pub IsDisjoint-union : (s t others : Pages) → IsDisjoint s others → IsDisjoint t others → IsDisjoint (set.union s t) others
IsDisjoint-union s t others first second = λ page held. elim (or_cases _ _ (sym (contains-union nat_cmp_total s t page) ∙ held)) [
  | inl here ↦ first page here
  | inr there ↦ second page there
]
