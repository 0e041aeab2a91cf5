use Rattle.std.proofs.Common.{length, arith}
use Rattle.hex.proofs.Pairs.{encode_done}
use Rattle.hex.specs.Hex.{lower_digits}
use Rattle.hv_text.proofs.text.put_pairs.Goals as goal

pub returns : goal.returns
returns c = encode_done lower_digits _ _ (length c.args.bytes.now) (omega arith) (omega arith) c.put_range-2.ensures.so_far
