use Rattle.std.proofs.Common.{◌≡◌, ℕ, ◌<◌, ◌+◌, Some, slice_get}
use Rattle.hv_history.specs.History.{entries}
use Rattle.hv_history.specs.Row.{asking, head_at}
use Rattle.hv_history.proofs.row.History.common.Given as goal

abbrev pub invariant-loop-i : goal.invariant-loop-i
invariant-loop-i g l = record {
  same : (k : ℕ) → k < l.i → slice_get (entries l.self) (l.at + k) ≡ slice_get (entries l.other) (l.place + k);
  alike : (own theirs : ℕ) → l.alike ≡ Some (own, theirs) → asking (head_at l.self.heads.items own) 0 ≡ asking (head_at l.other.heads.items theirs) 0;
}
