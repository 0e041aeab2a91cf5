use Rattle.std.proofs.Common.{◌≤◌, ◌+◌, ◌-◌, ◌++◌, List, length, arith, sym, ap, ◌∙◌, remove as list_remove}
use Rattle.hv_pages.specs.declared.runs.Run.{Run}
use Rattle.hv_pages.specs.Blocks.{Block, flat}
use Rattle.hv_pages.specs.RunList.{as_block}
use Rattle.hv_pages.proofs.FewRuns.{few_block, few_flat, few_within, first_before, some_of}
use Rattle.hv_pages.proofs.run_list.RunList.remove.Goals as goal

pub remove-requires-else-is_empty : goal.remove-requires-else-is_empty
remove-requires-else-is_empty g c =
    let few : List Run = c.args.self.now.few.items in
    let bs : List Block = c.args.self.now.blocks.blocks.items in
    let some : 1 ≤ length few = some_of (length few) c.is_empty.result c.is_empty.ensures c.if-is_empty.false in
    let none = c.requires.kept.few.alone (omega (arith, some)) in
    let e = few_block few bs c.args.place some none c.requires.place in
    let lt = few_within few bs c.args.place some none c.requires.place in
    omega (arith, lt)

pub returns-else-is_empty-clause-runs : goal.returns-else-is_empty-clause-runs
returns-else-is_empty-clause-runs g c =
    let few : List Run = c.args.self.now.few.items in
    let bs : List Block = c.args.self.now.blocks.blocks.items in
    let some : 1 ≤ length few = some_of (length few) c.is_empty.result c.is_empty.ensures c.if-is_empty.false in
    let none = c.requires.kept.few.alone (omega (arith, some)) in
    let e = few_block few bs c.args.place some none c.requires.place in
    let lt = few_within few bs c.args.place some none c.requires.place in
    few_flat c.remove-else-is_empty.new.self.items bs none
    ∙ c.remove-else-is_empty.ensures.items
    ∙ ap (λ (l : List Run). list_remove l c.args.place.at) (sym (few_flat few bs none))
    ∙ ap (λ n. list_remove (flat (as_block few ++ bs)) n) (sym (first_before (as_block few ++ bs) c.args.place e))
