use Rattle.std.proofs.Common.{◌≤◌, ◌-◌, List, length, arith}
use Rattle.hv_pages.specs.declared.runs.Run.{Run}
use Rattle.hv_pages.specs.Blocks.{Block}
use Rattle.hv_pages.proofs.FewRuns.{few_block, few_within, some_of}
use Rattle.hv_pages.proofs.run_list.RunList.next.Goals as goal

pub overflow_add-place : goal.overflow_add-place
overflow_add-place g c =
    let few : List Run = c.args.self.now.few.items in
    let bs : List Block = c.args.self.now.blocks.blocks.items in
    let some : 1 ≤ length few = some_of (length few) c.is_empty.result c.is_empty.ensures c.if-is_empty.false in
    let none = c.requires.kept.few.alone (omega (arith, some)) in
    let e = few_block few bs c.args.place some none c.requires.place in
    let lt = few_within few bs c.args.place some none c.requires.place in
    omega (arith, lt, c.requires.kept.few.fits)

pub place-requires-clause-at : goal.place-requires-clause-at
place-requires-clause-at g c =
    let few : List Run = c.args.self.now.few.items in
    let bs : List Block = c.args.self.now.blocks.blocks.items in
    let some : 1 ≤ length few = some_of (length few) c.is_empty.result c.is_empty.ensures c.if-is_empty.false in
    let none = c.requires.kept.few.alone (omega (arith, some)) in
    let e = few_block few bs c.args.place some none c.requires.place in
    let lt = few_within few bs c.args.place some none c.requires.place in
    omega (arith, lt)
