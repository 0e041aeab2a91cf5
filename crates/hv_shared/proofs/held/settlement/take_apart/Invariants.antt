use Rattle.std.proofs.Common.{◌≡◌, ◌≤◌, ◌+◌, ◌++◌, vec_len, vec_capacity, sum, All, reverse}
use Rattle.hv_shared.specs.Due.{IsDueAfter, lefts_of}
use Rattle.hv_shared.specs.Merge.{receipts_of, shares_of}
use Rattle.hv_shared.proofs.held.settlement.take_apart.Given as goal

abbrev pub invariant-loop-pass : goal.invariant-loop-pass
invariant-loop-pass g l = record {
  lists : receipts_of l.passes.items ++ lefts_of (reverse l.rests.items) ≡ receipts_of l.fn.passes.items;
  due : All (IsDueAfter 0) l.rests.items;
  count : vec_len l.rests ≡ l.all.parts;
  parts : l.all.parts + vec_len l.passes ≡ vec_len l.fn.passes;
  amount : l.all.amount + sum (shares_of l.passes.items) ≡ sum (shares_of l.fn.passes.items);
  within : l.all.parts ≤ g.L.Ledger.parts;
  room : g.L.Ledger.parts ≤ vec_capacity l.rests;
}

abbrev pub decreases-loop-pass : goal.decreases-loop-pass
decreases-loop-pass g l = vec_len l.passes
