-- The first copies are those of the elements so far.
use Rattle.std.proofs.Common.{◌≡◌, take, vec_len}
use Rattle.hv_shared.specs.Copies.{AreAsking}
use Rattle.hv_shared.proofs.drive.prepare.Given as goal

abbrev pub invariant-loop-i : goal.invariant-loop-i
invariant-loop-i g l = record {
  asking : AreAsking l.fn.pass.caller l.frame (take l.i l.copies.items);
  count : vec_len l.copies ≡ l.count;
}
