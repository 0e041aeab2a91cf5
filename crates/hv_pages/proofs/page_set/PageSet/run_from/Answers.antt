use Rattle.std.proofs.Common.{◌<◌, ◌≤◌, sym, subst}
use Rattle.hv_pages.specs.declared.runs.Run.{Run}
use Rattle.hv_pages.specs.PageSet.{PagesAndRoom, pages_of, IsFirstRun}
use Rattle.hv_pages.specs.Blocks.{before, flat}
use Rattle.hv_pages.specs.RunList.{blocks_in}
use Rattle.hv_pages.specs.Runs.{spread}
use Rattle.hv_pages.proofs.Edits.{place_within}
use Rattle.hv_pages.proofs.FirstRuns.{first_within}
use Rattle.hv_pages.proofs.PagesOfRuns.{below_at, found_first}
use Rattle.hv_pages.proofs.page_set.PageSet.run_from.Goals as goal

pub run_above-requires-clause-below : goal.run_above-requires-clause-below
run_above-requires-clause-below g c =
    let blocks = (blocks_in c.self.inside.runs) in
    let run = c.in-Some.run' in
    let within = place_within blocks c.find-at.result c.in-Some.ensures.some.0 in
    let is = c.in-Some.ensures.some.1 run in
    let under = subst (λ (r : Run). r.last < c.args.page) is c.if-page-run.false in
    below_at (flat blocks) (before blocks c.find-at.result) run c.args.page c.self.invariant.1 within under

pub returns-then-page-run-clause-some : goal.returns-then-page-run-clause-some
returns-then-page-run-clause-some g c =
    let blocks = (blocks_in c.self.inside.runs) in
    let run = c.in-Some.run' in
    let at = before blocks c.find-at.result in
    let within = place_within blocks c.find-at.result c.in-Some.ensures.some.0 in
    let is = c.in-Some.ensures.some.1 run in
    let low = found_first (flat blocks) at c.args.page c.find-at.ensures.above run within c.self.invariant.1 c.find-at.ensures.from in
    let to = subst (λ (r : Run). c.args.page ≤ r.last) is c.if-page-run.true in
    let first = first_within (flat blocks) at run c.args.page c.self.invariant.1 within low to in
    let held = subst (λ (r : Run). IsFirstRun (pages_of (spread (flat blocks))) c.args.page c.args.page r.last) (sym is) first in
    subst (λ (s : PagesAndRoom). IsFirstRun s.pages c.args.page c.args.page run.last) c.self.view_is held
