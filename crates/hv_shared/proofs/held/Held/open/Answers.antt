use Rattle.std.proofs.Common.{◌<◌, arith, length}
use Rattle.std.proofs.lemmas.Grind.{common_steps}
use Rattle.hv_shared.proofs.NewPass.{opened_more}
use Rattle.hv_shared.proofs.held.Held.open.Goals as goal

pub loop-i-preserved : goal.loop-i-preserved
loop-i-preserved g c =
    let l = c.loop-i in
    let there : l.i < length c.args.callers.items = let t = c.loop-i-test.true in let n = c.len-i-end.ensures in let ok = c.args.callers.ok in omega arith in
    let made = c.in-Ok.ensures in
    let is = c.index.ensures in
    let split = c.split_off-share.ensures in
    let pushed = c.push_reserved.ensures in
    let i = l.invariant in
    let count = i.count in
    let left = i.left in
    record {
      opened = rw pushed.items (opened_more c.args.callers.items l.i c.index.result.now l.passes.items c.in-Ok.pass there is i.opened made.0 made.1 made.2);
      count = grind (arith, common_steps);
      room = grind (arith, common_steps);
      left = let parts = split.parts_left in omega arith;
      none = let amount = split.amount_left in let none = i.none in omega arith;
    }
