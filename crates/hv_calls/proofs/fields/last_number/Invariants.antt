use Rattle.std.proofs.Common.{◌≡◌, ◌+◌, ◌-◌, ◌*◌, ◌^◌, ◌<◌, ◌≤◌, length}
use Rattle.hv_defs.specs.Field.{field}
use Rattle.hv_calls.proofs.fields.last_number.Given as goal

abbrev pub invariant-loop-end : goal.invariant-loop-end
invariant-loop-end l = record {
  low : l.at ≤ l.end;
  high : l.end ≤ l.at + l.size;
  within : l.end ≤ length l.input;
  number : l.number ≡ field l.input l.end (l.at + l.size - l.end);
  small : l.number < 2 ^ (8 * (l.at + l.size - l.end));
}

abbrev pub decreases-loop-end : goal.decreases-loop-end
decreases-loop-end l = l.end - l.at
