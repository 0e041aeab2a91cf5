use Rattle.std.proofs.Common.{sym, arith}
use Rattle.std.specs.Int.{to_le_bytes, w64}
use Rattle.hv_calls.proofs.Numbers.{field-bytes}
use Rattle.hv_calls.proofs.fields.second_u16.Goals as goal

pub returns : goal.returns
returns g c = rw c.if-not-shape.false (sym (field-bytes c.args.frame.now.rdx (to_le_bytes w64 c.args.frame.now.r8) 4 2 (omega arith)))
