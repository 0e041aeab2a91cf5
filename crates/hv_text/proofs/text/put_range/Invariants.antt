-- The digits of the bytes so far are there, and those of the others are to come.
use Rattle.std.proofs.Common.{◌≡◌, ◌*◌, ◌++◌, take, drop}
use Rattle.hex.specs.Hex.{encode_lower}
use Rattle.hv_text.proofs.text.put_range.Given as goal

abbrev pub invariant-loop-at : goal.invariant-loop-at
invariant-loop-at l = take (2 * l.at) l.room ++ encode_lower (drop l.at l.bytes) ≡ encode_lower l.bytes
