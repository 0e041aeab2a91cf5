use Rattle.std.proofs.Common.{◌≡◌, ◌+◌, ◌<◌, [], length, take, arith, ap, ◌∙◌, remove as list_remove}
use Rattle.hv_pages.specs.Blocks.{Block, flat}
use Rattle.hv_pages.proofs.BlockLists.{removed_block, weight_low}
use Rattle.hv_pages.proofs.Dense.{dense_without}
use Rattle.hv_pages.proofs.blocks.Blocks.remove_block.Goals as goal

pub returns-then-len-ge1-clause-blocks : goal.returns-then-len-ge1-clause-blocks
returns-then-len-ge1-clause-blocks g c =
    let d : Block = record { items = [] } in
    let within : c.args.block < length c.args.self.now.blocks.items = omega (arith, c.requires.block, c.args.self.now.blocks.ok.0) in
    let one = c.requires.one d in
    let done = removed_block c.args.self.now.blocks.items c.args.block d within c.requires.blocks.each 0 (omega (arith, one)) one in
    let w = done.weight_is in
    let l = rw c.remove.ensures.items at (weight_low c.remove.new.self.items) in
    let n = rw c.remove.ensures.items at c.remove.new.self.ok.0 in
    record {
      each = rw c.remove.ensures.items done.each;
      fits = rw c.remove.ensures.items (omega (arith, w, l, n, c.requires.blocks.fits, c.remove.ensures.capacity, c.saturating_add-self.ensures, c.if-len-ge1.true, c.len.ensures));
      dense = rw c.remove.ensures.items (dense_without c.args.self.now.blocks.items c.args.block d within c.requires.blocks.each one c.requires.blocks.dense);
    }

pub returns-then-len-ge1-clause-runs : goal.returns-then-len-ge1-clause-runs
returns-then-len-ge1-clause-runs g c =
    let d : Block = record { items = [] } in
    let within : c.args.block < length c.args.self.now.blocks.items = omega (arith, c.requires.block, c.args.self.now.blocks.ok.0) in
    let one = c.requires.one d in
    let done = removed_block c.args.self.now.blocks.items c.args.block d within c.requires.blocks.each 0 (omega (arith, one)) one in
    let first : length (flat (take c.args.block c.args.self.now.blocks.items)) + 0 ≡ length (flat (take c.args.block c.args.self.now.blocks.items)) = omega arith in
    rw c.remove.ensures.items (done.runs ∙ ap (λ n. list_remove (flat c.args.self.now.blocks.items) n) first)
