use Rattle.std.proofs.Common.{arith}
use Rattle.hex.proofs.HexLemmas.{length-encode_with}
use Rattle.hex.specs.Hex.{lower_digits}
use Rattle.hv_text.proofs.text.Text.push_bytes.Goals as goal

pub returns-clause-most : goal.returns-clause-most
returns-clause-most c = omega (arith, length-encode_with lower_digits c.args.bytes.now)
