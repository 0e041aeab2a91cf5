use Rattle.std.proofs.Common.{ℕ, ◌<◌, ◌≤◌, get_or}
use Rattle.hv_phases.specs.PassMap.{IsWithin}
use Rattle.hv_shared.specs.Receipts.{list_of}
use Rattle.hv_shared.specs.declared.receipts.Receipt.{Receipt}
use Rattle.hv_phases.proofs.barrier.highest_above.Given as goal

abbrev pub invariant-loop-at : goal.invariant-loop-at
invariant-loop-at l = record {
  rises : l.fn.highest ≤ l.highest;
  each : (k : ℕ) (d : Receipt) → l.fn.from ≤ k → k < l.at → IsWithin l.last l.highest (get_or (list_of l.receipts) k d);
}
