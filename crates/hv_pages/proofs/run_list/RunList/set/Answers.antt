use Rattle.std.proofs.Common.{◌≡◌, ◌≤◌, ◌+◌, ◌-◌, ◌++◌, List, length, arith, sym, ap, subst, ◌∙◌, set as list_set, length-set}
use Rattle.hv_pages.specs.declared.runs.Run.{Run}
use Rattle.hv_pages.specs.Blocks.{Block, IsPlace, before}
use Rattle.hv_pages.specs.RunList.{as_block}
use Rattle.hv_pages.proofs.FewRuns.{few_block, few_place, few_within, first_before, no_few, none_of, some_of}
use Rattle.hv_pages.proofs.BlockLists.{rewritten}
use Rattle.hv_pages.proofs.run_list.RunList.set.Goals as goal

pub offset_bounds-deref_mut-place : goal.offset_bounds-deref_mut-place
offset_bounds-deref_mut-place g c =
    let few : List Run = c.args.self.now.few.items in
    let bs : List Block = c.args.self.now.blocks.blocks.items in
    let some : 1 ≤ length few = some_of (length few) c.is_empty.result c.is_empty.ensures c.if-is_empty.false in
    let none = c.requires.kept.few.alone (omega (arith, some)) in
    let e = few_block few bs c.args.place some none c.requires.place in
    let lt = few_within few bs c.args.place some none c.requires.place in
    let len = ap (λ (l : List Run). length l) c.deref_mut.ensures.value in
    omega (arith, lt, len, c.requires.kept.few.fits)

pub bounds-deref_mut-place : goal.bounds-deref_mut-place
bounds-deref_mut-place g c =
    let few : List Run = c.args.self.now.few.items in
    let bs : List Block = c.args.self.now.blocks.blocks.items in
    let some : 1 ≤ length few = some_of (length few) c.is_empty.result c.is_empty.ensures c.if-is_empty.false in
    let none = c.requires.kept.few.alone (omega (arith, some)) in
    let e = few_block few bs c.args.place some none c.requires.place in
    let lt = few_within few bs c.args.place some none c.requires.place in
    let len = ap (λ (l : List Run). length l) c.deref_mut.ensures.value in
    omega (arith, lt, len, c.requires.kept.few.fits)

pub returns-then-is_empty-clause-places : goal.returns-then-is_empty-clause-places
returns-then-is_empty-clause-places g c =
    let empty : length c.args.self.now.few.items ≡ 0 = none_of (length c.args.self.now.few.items) c.is_empty.result c.is_empty.ensures c.if-is_empty.true in
    let old = no_few c.args.self.now.few.items c.args.self.now.blocks.blocks.items empty in
    let new = no_few c.args.self.now.few.items c.set.new.self.blocks.items empty in
    λ other h.
    let kept = c.set.ensures.places other (subst (λ (l : List Block). IsPlace l other) old h) in (
      subst (λ (l : List Block). IsPlace l other) (sym new) kept.0,
      ap (λ (l : List Block). before l other) new ∙ kept.1 ∙ sym (ap (λ (l : List Block). before l other) old),
    )

pub returns-else-is_empty-clause-places : goal.returns-else-is_empty-clause-places
returns-else-is_empty-clause-places g c =
    let few : List Run = c.args.self.now.few.items in
    let bs : List Block = c.args.self.now.blocks.blocks.items in
    let some : 1 ≤ length few = some_of (length few) c.is_empty.result c.is_empty.ensures c.if-is_empty.false in
    let none = c.requires.kept.few.alone (omega (arith, some)) in
    let long : length (list_set c.deref_mut.result.now c.args.place.at c.args.run) ≡ length few = length-set c.deref_mut.result.now c.args.place.at c.args.run ∙ ap (λ (l : List Run). length l)
    c.deref_mut.ensures.value in
    let now = ap (λ (l : List Run). length l) (rewritten (record { items = few }) (list_set c.deref_mut.result.now c.args.place.at c.args.run) long) ∙ long in
    λ other h.
    let e = few_block few bs other some none h in
    let lt = few_within few bs other some none h in (
      few_place _ bs other (omega (arith, now, some)) none e (omega (arith, now, lt)),
      first_before _ other e ∙ sym (first_before (as_block few ++ bs) other e),
    )
