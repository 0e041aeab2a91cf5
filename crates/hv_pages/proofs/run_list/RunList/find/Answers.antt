use Rattle.std.proofs.Common.{◌<◌, ◌≤◌, ◌+◌, ◌-◌, ◌++◌, List, length, get_or, take, drop, All, arith, sym, subst}
use Rattle.hv_pages.specs.declared.runs.Run.{Run}
use Rattle.hv_pages.specs.Blocks.{Block, flat}
use Rattle.hv_pages.specs.Runs.{AreRuns}
use Rattle.hv_pages.specs.RunList.{as_block}
use Rattle.hv_pages.proofs.FewRuns.{few_flat, some_of}
use Rattle.hv_pages.proofs.Places.{parted_above, parted_from}
use Rattle.hv_pages.proofs.run_list.RunList.find.Goals as goal

pub returns-else-is_empty-clause-above : goal.returns-else-is_empty-clause-above
returns-else-is_empty-clause-above g c =
    let few : List Run = c.args.self.now.few.items in
    let bs : List Block = c.args.self.now.blocks.blocks.items in
    let some : 1 ≤ length few = some_of (length few) c.is_empty.result c.is_empty.ensures c.if-is_empty.false in
    let none = c.requires.kept.few.alone (omega (arith, some)) in
    let is = few_flat few bs none in
    let runs : AreRuns few = subst AreRuns is c.requires.runs in
    let bound = subst (λ (l : List Run). c.search.result ≤ length l) c.deref.ensures.0 c.search.ensures.bound in
    let above = subst (λ (l : List Run). (r : Run) → 1 ≤ c.search.result → c.args.page < (get_or l (c.search.result - 1) r).first) c.deref.ensures.0 c.search.ensures.above in
    subst (λ n. All (λ (run : Run). c.args.page < run.first) (take n (flat (as_block few ++ bs)))) (sym c.place.ensures.at)
    (subst (λ (l : List Run). All (λ (run : Run). c.args.page < run.first) (take c.search.result l)) (sym is)
    (parted_above few runs c.search.result c.args.page bound above))

pub returns-else-is_empty-clause-from : goal.returns-else-is_empty-clause-from
returns-else-is_empty-clause-from g c =
    let few : List Run = c.args.self.now.few.items in
    let bs : List Block = c.args.self.now.blocks.blocks.items in
    let some : 1 ≤ length few = some_of (length few) c.is_empty.result c.is_empty.ensures c.if-is_empty.false in
    let none = c.requires.kept.few.alone (omega (arith, some)) in
    let is = few_flat few bs none in
    let runs : AreRuns few = subst AreRuns is c.requires.runs in
    let bound = subst (λ (l : List Run). c.search.result ≤ length l) c.deref.ensures.0 c.search.ensures.bound in
    let from = subst (λ (l : List Run). (r : Run) → c.search.result < length l → (get_or l c.search.result r).first ≤ c.args.page) c.deref.ensures.0 c.search.ensures.from in
    subst (λ n. All (λ (run : Run). run.first ≤ c.args.page) (drop n (flat (as_block few ++ bs)))) (sym c.place.ensures.at)
    (subst (λ (l : List Run). All (λ (run : Run). run.first ≤ c.args.page) (drop c.search.result l)) (sym is)
    (parted_from few runs c.search.result c.args.page from))
