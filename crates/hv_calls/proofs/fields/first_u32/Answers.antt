use Rattle.std.proofs.Common.{◌≡◌, ◌/◌, ◌%◌, ap, sym, ◌∙◌, arith}
use Rattle.std.specs.Int.{to_le_bytes, w64}
use Rattle.hv_calls.proofs.Numbers.{field-bytes}
use Rattle.hv_calls.proofs.fields.first_u32.Goals as goal

pub returns : goal.returns
returns g c =
    let whole : c.args.frame.now.rdx / 1 ≡ c.args.frame.now.rdx = omega arith in
    let low = field-bytes c.args.frame.now.rdx (to_le_bytes w64 c.args.frame.now.r8) 0 4 (omega arith) in
    rw c.if-not-shape.false (ap (λ x. x % 4294967296) (sym whole) ∙ sym low)
