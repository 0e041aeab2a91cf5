use Rattle.std.proofs.Common.{sym, subst}
use Rattle.hv_pages.specs.declared.runs.Run.{Run}
use Rattle.hv_pages.specs.PageSet.{pages_of, IsFirstRun}
use Rattle.hv_pages.specs.Blocks.{before, flat}
use Rattle.hv_pages.specs.RunList.{blocks_in}
use Rattle.hv_pages.specs.Runs.{spread}
use Rattle.hv_pages.proofs.Edits.{place_within}
use Rattle.hv_pages.proofs.FirstRuns.{first_before, none_before}
use Rattle.hv_pages.proofs.runs.run_above.Goals as goal

pub returns-in_err-upper-clause-none : goal.returns-in_err-upper-clause-none
returns-in_err-upper-clause-none g c =
    let blocks = (blocks_in c.args.list.now) in
    rw c.from_residual.ensures (none_before (flat blocks) (before blocks c.args.at) c.args.page c.in_err-upper.ensures.none c.requires.below)

pub returns-clause-some : goal.returns-clause-some
returns-clause-some g c =
    let blocks = (blocks_in c.args.list.now) in
    let run = c.read-run.result in
    let upper = c.in_ok-upper.upper in
    let within = place_within blocks upper c.in_ok-upper.ensures.some.0 in
    let first = first_before (flat blocks) (before blocks c.args.at) (before blocks upper) run c.args.page c.requires.runs
    c.in_ok-upper.ensures.some.1 within c.requires.above c.requires.below in
    subst (λ (r : Run). IsFirstRun (pages_of (spread (flat blocks))) c.args.page r.first r.last) (sym (c.read-run.ensures run)) first
