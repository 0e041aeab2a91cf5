use Rattle.std.proofs.Common.{◌≤◌, ◌+◌, ◌-◌, ◌++◌, List, length, get_or, arith, sym, ap, ◌∙◌}
use Rattle.hv_pages.specs.declared.runs.Run.{Run}
use Rattle.hv_pages.specs.Blocks.{Block, flat}
use Rattle.hv_pages.specs.RunList.{as_block}
use Rattle.hv_pages.proofs.FewRuns.{few_block, few_flat, few_within, first_before, some_of}
use Rattle.std.proofs.lemmas.List.{get_or_default}
use Rattle.hv_pages.proofs.run_list.RunList.read.Goals as goal

pub offset_bounds-deref-place : goal.offset_bounds-deref-place
offset_bounds-deref-place g c =
    let few : List Run = c.args.self.now.few.items in
    let bs : List Block = c.args.self.now.blocks.blocks.items in
    let some : 1 ≤ length few = some_of (length few) c.is_empty.result c.is_empty.ensures c.if-is_empty.false in
    let none = c.requires.kept.few.alone (omega (arith, some)) in
    let e = few_block few bs c.args.place some none c.requires.place in
    let lt = few_within few bs c.args.place some none c.requires.place in
    let len = ap (λ (l : List Run). length l) c.deref.ensures.0 in
    omega (arith, lt, len, c.requires.kept.few.fits)

pub bounds-deref-place : goal.bounds-deref-place
bounds-deref-place g c =
    let few : List Run = c.args.self.now.few.items in
    let bs : List Block = c.args.self.now.blocks.blocks.items in
    let some : 1 ≤ length few = some_of (length few) c.is_empty.result c.is_empty.ensures c.if-is_empty.false in
    let none = c.requires.kept.few.alone (omega (arith, some)) in
    let e = few_block few bs c.args.place some none c.requires.place in
    let lt = few_within few bs c.args.place some none c.requires.place in
    let len = ap (λ (l : List Run). length l) c.deref.ensures.0 in
    omega (arith, lt, len, c.requires.kept.few.fits)

pub returns-else-is_empty : goal.returns-else-is_empty
returns-else-is_empty g c =
    let few : List Run = c.args.self.now.few.items in
    let bs : List Block = c.args.self.now.blocks.blocks.items in
    let some : 1 ≤ length few = some_of (length few) c.is_empty.result c.is_empty.ensures c.if-is_empty.false in
    let none = c.requires.kept.few.alone (omega (arith, some)) in
    let e = few_block few bs c.args.place some none c.requires.place in
    let lt = few_within few bs c.args.place some none c.requires.place in
    let none_run : Run = record { first = 0; last = 0 } in
    λ r. ap (λ (l : List Run). get_or l c.args.place.at none_run) c.deref.ensures.0
    ∙ get_or_default few c.args.place.at none_run r lt
    ∙ ap (λ (l : List Run). get_or l c.args.place.at r) (sym (few_flat few bs none))
    ∙ ap (λ n. get_or (flat (as_block few ++ bs)) n r) (sym (first_before (as_block few ++ bs) c.args.place e))
