-- The id that the next partition gets after a call.
use Rattle.std.specs.Prelude.{ℕ, ◌+◌}
use Rattle.hv_calls.specs.declared.call.Call.{Call}
use Rattle.hv_calls.specs.declared.call.Call.TheVariants.{CreatePartition}

abbrev pub next_after : Call → ℕ → ℕ
next_after (CreatePartition flags) next = next + 1
next_after call next = next
