use Rattle.std.proofs.Common.{◌+◌, ◌-◌, ◌≤◌, Option, drop, length, All, reverse}
use Rattle.std.specs.BinaryHeap.{heap_items}
use Rattle.hv_history.specs.History.{entries}
use Rattle.hv_shared.specs.Due.{AreHeap, IsDueAfter, lefts_of}
use Rattle.hv_shared.specs.Merge.{SettlesAs}
use Rattle.hv_shared.specs.declared.fault.SettleFault.{SettleFault}
use Rattle.hv_shared.proofs.held.settlement.first_fault.Given as goal

-- what is left decides
abbrev pub invariant-loop-at : goal.invariant-loop-at
invariant-loop-at l = record {
  settles : (fault : Option SettleFault) → SettlesAs (l.at + 1) (drop l.at (entries l.history)) (lefts_of (heap_items l.heap)) fault
      → SettlesAs 1 (entries l.history) (lefts_of (reverse l.fn.rests.items)) fault;
  heap : AreHeap (heap_items l.heap);
  due : All (IsDueAfter l.at) (heap_items l.heap);
  within : l.at ≤ length (entries l.history);
}

abbrev pub decreases-loop-at : goal.decreases-loop-at
decreases-loop-at l = length (entries l.history) - l.at
