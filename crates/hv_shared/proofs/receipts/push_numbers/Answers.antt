use Rattle.std.proofs.Common.{◌∙◌, ◌+◌, arith, refl}
use Rattle.hv_shared.proofs.PackedReceipts.{number-push, no_numbers}
use Rattle.hv_shared.proofs.receipts.push_numbers.Goals as goal

pub loop-at-init : goal.loop-at-init
loop-at-init c = record {
  items = no_numbers c.args.numbers.now.items c.args.from;
  len = omega arith;
  room = refl;
}

pub loop-at-preserved : goal.loop-at-preserved
loop-at-preserved c =
    let l = c.loop-at in
    let is = l.invariant in
    let pushed = c.push_reserved.ensures in
    let more = pushed.len in
    let above = l.auto.at in
    record {
      items = pushed.items ∙ number-push c.args.numbers.now.items l.numbers.items c.args.from l.at (l.at + 1) above refl is.items;
      len = (let was = is.len in omega arith);
      room = pushed.capacity ∙ is.room;
    }
