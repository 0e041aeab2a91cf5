use Rattle.std.proofs.Common.{sym, ap, ◌∙◌, arith}
use Rattle.std.specs.FinSet as set
use Rattle.hv_pages.specs.PageSet.{PagesAndRoom, runs_of}
use Rattle.hv_pages.proofs.LastPages.{runs_of-spread}
use Rattle.hv_pages.proofs.Members.{len-pages_of}
use Rattle.hv_pages.proofs.Spreads.{runs_few, spread_falls, spread_fits}
use Rattle.hv_pages.proofs.page_set.PageSet.runs.Goals as goal

pub count-requires-clause-few : goal.count-requires-clause-few
count-requires-clause-few g c =
    let few = runs_few _ c.self.invariant.1 in let fits = spread_fits _ c.self.invariant.1 in omega (arith, few, fits)

pub returns-clause-runs : goal.returns-clause-runs
returns-clause-runs g c =
    c.count.ensures ∙ sym (runs_of-spread _ c.self.invariant.1) ∙ ap (λ (s : PagesAndRoom). runs_of s.pages) c.self.view_is

pub returns-clause-few : goal.returns-clause-few
returns-clause-few g c =
    let few = runs_few _ c.self.invariant.1 in
    let count = sym (len-pages_of _ (spread_falls _ c.self.invariant.1)) ∙ ap (λ (s : PagesAndRoom). set.len s.pages) c.self.view_is in
    omega (arith, few, count, c.count.ensures)
