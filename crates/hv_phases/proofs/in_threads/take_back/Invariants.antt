use Rattle.std.proofs.Common.{◌≡◌, ◌≤◌, ◌<◌, ◌++◌, ℕ, All, List, drop, get_or, length, map, true, vec_len}
use Rattle.hv_phases.specs.PassMap.{HasBack, IsWithin, back_of_done}
use Rattle.hv_threads.specs.declared.phase.Done.{Done}
use Rattle.hv_threads.specs.declared.phase.End.TheVariants.{Finished}
use Rattle.hv_phases.proofs.in_threads.take_back.Given as goal

-- the outcomes that were taken back come behind those that are left
abbrev pub invariant-loop-done : goal.invariant-loop-done
invariant-loop-done g l = record {
  back : (back : List (Done g.row.L.Denot)) × (l.left.items ++ back ≡ l.fn.dones.items) × HasBack (map back_of_done back) l.fn.runners l.runners ×
      (l.goes_on ≡ true → All
      (λ done. done.end ≡ Finished) back);
  room : vec_len l.left ≤ length l.counts;
  rises : l.last ≤ l.now;
  within : l.is_in_order ≡ true → (k : ℕ) (d : Done g.row.L.Denot) → length l.left.items ≤ k → k < length l.fn.dones.items
      → All (IsWithin l.last l.now) (drop (get_or l.counts k 0) (get_or l.fn.dones.items k d).pass.receipts);
}

abbrev pub decreases-loop-done : goal.decreases-loop-done
decreases-loop-done g l = length l.left.items
