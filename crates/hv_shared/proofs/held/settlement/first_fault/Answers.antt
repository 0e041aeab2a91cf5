use Rattle.std.proofs.Common.{arith, reverse}
use Rattle.std.proofs.lemmas.List.Sorted.{All-permutation, IsPermutation-map, IsPermutation-reverse, IsPermutation-sym, IsPermutation-trans}
use Rattle.std.specs.BinaryHeap.{heap_items}
use Rattle.hv_history.specs.History.{entries}
use Rattle.hv_shared.specs.Due.{IsDueAfter, left_of}
use Rattle.hv_shared.proofs.ReorderedReceipts.{settles_permuted}
use Rattle.hv_shared.proofs.held.settlement.first_fault.Goals as goal

pub loop-at-init : goal.loop-at-init
loop-at-init c =
    let rests = c.args.rests.items in
    let heap = heap_items c.from-heap.result in
    let moved = c.from-heap.ensures.1 in
    let back = IsPermutation-trans heap rests (reverse rests) (IsPermutation-sym rests heap moved) (IsPermutation-reverse rests) in
    record {
      settles = λ fault s. settles_permuted 1 (entries c.args.history.now) _ _ fault (IsPermutation-map left_of heap (reverse rests) back) s;
      heap = c.from-heap.ensures.2;
      due = All-permutation (IsDueAfter 0) rests heap moved c.requires.due;
      within = omega arith;
    }
