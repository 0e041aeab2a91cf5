-- The digits of the blocks so far are there, and those of the other bytes are to come.
use Rattle.std.proofs.Common.{◌≡◌, ◌*◌, ◌++◌, take, drop, length}
use Rattle.hex.specs.Hex.{encode_lower}
use Rattle.hv_text.proofs.text.put_pairs.Given as goal

abbrev pub invariant-loop-block : goal.invariant-loop-block
invariant-loop-block l = record {
  so_far : take (2 * (8 * l.block)) l.room ++ encode_lower (drop (8 * l.block) l.bytes) ≡ encode_lower l.bytes;
  room : length l.room ≡ 2 * length l.bytes;
}
