use Rattle.std.proofs.Common.{◌≡◌, ℕ, false, ap, ◌∙◌, nat_cmp}
use Rattle.std.specs.FinSet.{contains, contains-empty}
use Rattle.std.specs.FinSet as set
use Rattle.hv_pages.specs.PageSet.{Pages, PagesAndRoom, IsDisjoint}
use Rattle.test_core.proofs.pages.put_run.Goals as goal

-- a set that is empty, after room is made
none_in : (pages : Pages) (empty : PagesAndRoom) → pages ≡ empty.pages → empty ≡ record { pages = set.empty; room = 0 } → (page : ℕ) → contains pages page ≡ false
none_in pages empty same is page = ap (λ s. contains s page) (same ∙ ap (λ (r : PagesAndRoom). r.pages) is) ∙ contains-empty nat_cmp page

apart : (pages others : Pages) → ((page : ℕ) → contains pages page ≡ false) → IsDisjoint pages others
apart pages others none = λ page has. let not = none page in cc

pub put_run-requires-clause-new : goal.put_run-requires-clause-new
put_run-requires-clause-new c = λ page low high. none_in _ _ c.in_ok-reserve.ensures.pages c.new-set.ensures page

pub absorb-requires-clause-disjoint : goal.absorb-requires-clause-disjoint
absorb-requires-clause-disjoint c = apart _ _ (none_in _ _ c.in_ok-reserve-2.ensures.pages c.new-other.ensures)
