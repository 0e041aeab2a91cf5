use Rattle.std.proofs.Common.{◌<◌, length, arith, ap, ◌∙◌, insert as list_insert}
use Rattle.hv_ports.proofs.BlockLists.{flat_put}
use Rattle.hv_ports.specs.Blocks.{Block}
use Rattle.hv_ports.proofs.blocks.insert_in.Goals as goal

pub returns-clause-slots : goal.returns-clause-slots
returns-clause-slots g c =
    let was = c.index_mut.result.now in
    let within : c.args.place.block < length c.args.blocks.now.items = omega (arith, c.args.blocks.now.ok.0, c.requires.block) in
    let inserted = rw c.unwrap.ensures at c.insert.ensures.items in
    flat_put c.args.blocks.now.items c.args.place.block was within c.insert.new.self c.args.place.at c.args.slot (c.requires.at was)
    (inserted ∙ ap (λ (x : Block g.row.R.Denot g.row.A.Denot). list_insert x.items c.args.place.at c.args.slot) c.index_mut.ensures.value)
