use Rattle.std.proofs.Common.{◌≡◌, ◌+◌, length, get_or, drop, arith, refl, ap, sym}
use Rattle.std.proofs.lemmas.List.{drop-drop}
use Rattle.hv_pages.specs.Blocks.{Block, flat}
use Rattle.hv_pages.proofs.Merges.{cursor_at, cursor_outer, cursor_some, left_outer}
use Rattle.hv_pages.proofs.merge.after.Goals as goal

pub overflow_add-place : goal.overflow_add-place
overflow_add-place c = let a = cursor_at c.args.blocks.now c.args.place c.requires.place in omega (arith, a)

pub returns-then-place-len-clause-left : goal.returns-then-place-len-clause-left
returns-then-place-len-clause-left c = sym (drop-drop 1 c.args.place.at (flat (drop c.args.place.block c.args.blocks.now)))

pub returns-else-place-len-clause-place : goal.returns-else-place-len-clause-place
returns-else-place-len-clause-place c =
    let within = cursor_some c.args.blocks.now c.args.place c.requires.some in
    cursor_outer c.args.blocks.now c.args.place c.requires.place within (record { block = c.args.place.block + 1; at = 0 }) refl refl

pub returns-else-place-len-clause-left : goal.returns-else-place-len-clause-left
returns-else-place-len-clause-left c =
    let d : Block = c.index-blocks-place.result in
    let within = cursor_some c.args.blocks.now c.args.place c.requires.some in
    let same : length d.items ≡ length (get_or c.args.blocks.now c.args.place.block d).items = ap (λ (x : Block). length x.items) c.index-blocks-place.is in
    left_outer c.args.blocks.now c.args.place.block c.args.place.at d within (c.requires.place.inside.1 within d)
    (omega (arith, same, c.if-place-len.false, c.len.ensures.value))
