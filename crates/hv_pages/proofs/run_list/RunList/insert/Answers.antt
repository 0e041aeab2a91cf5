use Rattle.std.proofs.Common.{◌+◌, ◌-◌, ◌++◌, List, length, arith, ap}
use Rattle.hv_pages.specs.declared.runs.Run.{Run}
use Rattle.hv_pages.specs.Blocks.{Block}
use Rattle.hv_pages.specs.RunList.{as_block}
use Rattle.hv_pages.proofs.FewRuns.{few_flat}
use Rattle.hv_pages.proofs.Edits.{place_bound}
use Rattle.hv_pages.proofs.run_list.RunList.insert.Goals as goal

pub insert-requires-else-self-eq0 : goal.insert-requires-else-self-eq0
insert-requires-else-self-eq0 g c =
    let few : List Run = c.args.self.now.few.items in
    let bs : List Block = c.args.self.now.blocks.blocks.items in
    let none = c.requires.kept.few.alone (omega (arith, c.if-self-eq0.false)) in
    let bound = place_bound (as_block few ++ bs) c.args.place c.requires.place in
    let long = ap (λ (l : List Run). length l) (few_flat few bs none) in
    omega (arith, bound, long, c.position-at.ensures, c.requires.kept.few.fits, c.if-self-eq0.false)
