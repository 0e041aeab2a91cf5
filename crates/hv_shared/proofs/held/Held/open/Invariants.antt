use Rattle.std.proofs.Common.{◌≡◌, ◌≤◌, ◌+◌, take, vec_len, vec_capacity}
use Rattle.hv_shared.specs.Shared.{AreOpened}
use Rattle.hv_shared.proofs.held.Held.open.Given as goal

abbrev pub invariant-loop-i : goal.invariant-loop-i
invariant-loop-i g l = record {
  opened : AreOpened (take l.i l.callers.items) l.passes.items;
  count : vec_len l.passes ≡ l.i;
  room : vec_len l.callers ≤ vec_capacity l.passes;
  left : l.rest.parts + l.i ≡ vec_len l.callers;
  none : l.rest.amount ≡ 0;
}
