use Rattle.std.proofs.Common.{◌≡◌, ◌<◌, ◌≤◌, ◌+◌, ◌*◌, ◌++◌, drop, vec_len, vec_capacity}
use Rattle.hv_history.specs.History.{entries}
use Rattle.hv_history.specs.Row.{asking, head_at}
use Rattle.hv_history.specs.declared.row.TheConstants.{MOST_OUTPUT}
use Rattle.hv_history.proofs.row.History.push_all.Given as goal

abbrev pub invariant-loop-at : goal.invariant-loop-at
invariant-loop-at g l = record {
  so_far : entries l.self ++ drop l.at (entries l.other) ≡ entries l.fn.self ++ drop l.from (entries l.other);
  there : l.head < vec_len l.self.heads;
  alike : asking (head_at l.self.heads.items l.head) 0 ≡ asking l.fn.event 0;
  rows : vec_capacity l.fn.self.rows + vec_len l.self.rows + l.from ≤ vec_capacity l.self.rows + vec_len l.fn.self.rows + l.at;
  heads : vec_capacity l.fn.self.heads + vec_len l.self.heads ≤ vec_capacity l.self.heads + vec_len l.fn.self.heads + 1;
  outputs : vec_capacity l.fn.self.outputs + vec_len l.self.outputs + l.from * MOST_OUTPUT
      ≤ vec_capacity l.self.outputs + vec_len l.fn.self.outputs + l.at * MOST_OUTPUT;
}
