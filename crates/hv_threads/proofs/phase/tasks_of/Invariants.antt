use Rattle.std.proofs.Common.{◌≡◌, ◌++◌, ◌+◌, ◌≤◌, vec_len, vec_capacity, map, reverse}
use Rattle.hv_threads.proofs.phase.tasks_of.Given as goal

abbrev pub invariant-loop-work : goal.invariant-loop-work
invariant-loop-work g l = record {
  so_far : l.works.items ++ map (λ s. s.work) (reverse l.tasks.items) ≡ l.fn.works.items;
  room : vec_len l.tasks + vec_len l.works ≤ vec_capacity l.tasks;
}

abbrev pub decreases-loop-work : goal.decreases-loop-work
decreases-loop-work g l = vec_len l.works
