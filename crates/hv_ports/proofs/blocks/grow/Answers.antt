use Rattle.std.proofs.Common.{◌<◌, length, arith}
use Rattle.hv_ports.proofs.blocks.grow.Goals as goal

pub split-place-requires-clause-at : goal.split-place-requires-clause-at
split-place-requires-clause-at g c =
    let within : c.args.place.block < length c.args.blocks.now.items = rw c.deref.ensures.value at (c.is_end.ensures.before c.if-is_end.false) in
    omega (arith, c.requires.place.1 within c.args.blank, c.requires.full c.args.blank (omega (arith, within, c.args.blocks.now.ok.0)))
