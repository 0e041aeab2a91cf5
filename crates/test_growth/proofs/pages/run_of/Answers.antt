use Rattle.std.proofs.Common.{◌≡◌, ℕ, false, ap, ◌∙◌, nat_cmp}
use Rattle.std.specs.FinSet.{contains, contains-empty}
use Rattle.std.specs.FinSet as set
use Rattle.hv_pages.specs.PageSet.{Pages, PagesAndRoom}
use Rattle.test_growth.proofs.pages.run_of.Goals as goal

-- a set that is empty, after room is made
none_in : (pages : Pages) (empty : PagesAndRoom) → pages ≡ empty.pages → empty ≡ record { pages = set.empty; room = 0 } → (page : ℕ) → contains pages page ≡ false
none_in pages empty same is page = ap (λ s. contains s page) (same ∙ ap (λ (r : PagesAndRoom). r.pages) is) ∙ contains-empty nat_cmp page

pub put_run-requires-clause-new : goal.put_run-requires-clause-new
put_run-requires-clause-new c = λ page low high. none_in _ _ c.in_ok-reserve.ensures.pages c.new-set.ensures page
