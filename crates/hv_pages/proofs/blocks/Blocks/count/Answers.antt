use Rattle.std.proofs.Common.{◌≡◌, ◌<◌, length, get_or, arith, ap}
use Rattle.std.proofs.lemmas.List.Folds.{length-flat_map-take}
use Rattle.hv_pages.specs.declared.runs.Run.{Run}
use Rattle.hv_pages.specs.Blocks.{Block}
use Rattle.hv_pages.proofs.blocks.Blocks.count.Goals as goal

pub overflow_add-count : goal.overflow_add-count
overflow_add-count g c =
    let d : Block = c.index.result.now in
    let within : c.loop-at.at < length c.args.self.now.blocks.items = omega (arith, c.loop-at-test.true, c.len.ensures, c.args.self.now.blocks.ok.0) in
    let here : length d.items ≡ length (get_or c.args.self.now.blocks.items c.loop-at.at d).items = ap (λ (x : Block). length x.items) c.index.ensures in
    let part = length-flat_map-take {X = Block} {Y = Run} (λ block. block.items) c.args.self.now.blocks.items c.loop-at.at d within in
    omega (arith, here, part, c.requires, c.loop-at.invariant.1, c.len-in-loop-at.ensures.value)
