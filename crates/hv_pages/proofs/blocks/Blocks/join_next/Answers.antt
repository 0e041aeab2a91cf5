use Rattle.std.proofs.Common.{◌+◌, ◌<◌, [], length, arith}
use Rattle.hv_pages.specs.Blocks.{Block}
use Rattle.hv_pages.proofs.BlockLists.{joined_each, joined_weight, weight_low}
use Rattle.hv_pages.proofs.blocks.Blocks.join_next.Goals as goal

pub returns-clause-blocks : goal.returns-clause-blocks
returns-clause-blocks g c =
    let d : Block = record { items = [] } in
    let within : c.args.block + 1 < length c.args.self.now.blocks.items = omega (arith, c.requires.next, c.args.self.now.blocks.ok.0) in
    let few = c.requires.few d in
    let e = c.join.ensures.items d in
    let each = joined_each c.args.self.now.blocks.items c.args.block d within few c.requires.blocks.each in
    let w = joined_weight c.args.self.now.blocks.items c.args.block d within few c.requires.blocks.each in
    let l = rw e at (weight_low c.join.new.blocks.items) in
    let n = rw e at c.join.new.blocks.ok.0 in
    record {
      each = rw e each;
      fits = rw e (omega (arith, w, l, n, within, c.requires.blocks.fits, c.join.ensures.len, c.join.ensures.capacity, c.saturating_add-self.ensures, c.args.self.now.blocks.ok.0));
    }
