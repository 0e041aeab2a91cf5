-- The list has room for this many, and nothing else of the pass changes.
use Rattle.std.proofs.Common.{◌≡◌, ◌≤◌, ◌-◌, vec_len, vec_capacity}
use Rattle.hv_shared.proofs.held.Pass.take_copies.Given as goal

abbrev pub invariant-loop-self : goal.invariant-loop-self
invariant-loop-self g l = record {
  few : vec_len l.copies ≤ l.count;
  room : l.count ≤ vec_capacity l.copies;
  caller : l.self-inside.caller ≡ l.initial.self-inside.caller;
  receipts : l.self-inside.receipts ≡ l.initial.self-inside.receipts;
  share : l.self-inside.share ≡ l.initial.self-inside.share;
}

abbrev pub decreases-loop-self : goal.decreases-loop-self
decreases-loop-self g l = l.count - vec_len l.copies
