use Rattle.std.proofs.Common.{◌≡◌, ◌+◌, ◌-◌, ◌++◌, vec_len, vec_capacity}
use Rattle.std.specs.List.{range_with_len}
use Rattle.hv_shared.proofs.receipts.push_numbers.Given as goal

abbrev pub invariant-loop-at : goal.invariant-loop-at
invariant-loop-at l = record {
  items : l.numbers.items ≡ l.fn.numbers.items ++ range_with_len (l.from + 1) (l.at - l.from);
  len : vec_len l.numbers ≡ vec_len l.fn.numbers + (l.at - l.from);
  room : vec_capacity l.numbers ≡ vec_capacity l.fn.numbers;
}
