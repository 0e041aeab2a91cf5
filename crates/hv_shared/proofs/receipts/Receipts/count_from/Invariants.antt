use Rattle.std.proofs.Common.{◌≡◌, ℕ, ◌<◌, ◌≤◌, ◌+◌, ◌-◌, Some, slice_get}
use Rattle.hv_shared.proofs.receipts.Receipts.count_from.Given as goal

abbrev pub invariant-loop-i : goal.invariant-loop-i
invariant-loop-i l = record {
  number : l.number ≡ l.from + (l.i - l.at);
  below : l.at < l.i → l.number ≤ l.end;
  same : (k : ℕ) → k < l.i - l.at → slice_get l.self.numbers.items (l.at + k) ≡ Some (l.from + k);
}
