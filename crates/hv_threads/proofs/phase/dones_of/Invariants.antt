use Rattle.std.proofs.Common.{◌≡◌, ◌++◌, ◌+◌, ◌≤◌, vec_len, vec_capacity, map, reverse}
use Rattle.hv_threads.specs.Phase.{done_of}
use Rattle.hv_threads.proofs.phase.dones_of.Given as goal

abbrev pub invariant-loop-task : goal.invariant-loop-task
invariant-loop-task g l = record {
  so_far : l.dones.items ++ map done_of (reverse l.tasks.items) ≡ map done_of (reverse l.fn.tasks.items);
  room : vec_len l.dones + vec_len l.tasks ≤ vec_capacity l.dones;
}

abbrev pub decreases-loop-task : goal.decreases-loop-task
decreases-loop-task g l = vec_len l.tasks
