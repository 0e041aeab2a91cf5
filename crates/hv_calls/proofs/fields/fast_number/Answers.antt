use Rattle.std.proofs.Common.{sym, ◌∙◌, arith}
use Rattle.std.specs.Int.{to_le_bytes, w64}
use Rattle.hv_calls.proofs.Numbers.{field-bytes, field-bytes-second, low-fits}
use Rattle.hv_calls.proofs.fields.fast_number.Goals as goal

pub returns-then-at-size-le8 : goal.returns-then-at-size-le8
returns-then-at-size-le8 c = record {
  number = c.low_bytes.ensures ∙ sym (field-bytes c.args.rdx (to_le_bytes w64 c.args.r8) c.args.at c.args.size c.if-at-size-le8.true);
  fits = rw c.low_bytes.ensures (low-fits _ c.args.size);
}

pub returns-then-at-size-le16 : goal.returns-then-at-size-le16
returns-then-at-size-le16 c = record {
  number = c.low_bytes-then-at-size-le16.ensures ∙ sym (field-bytes-second c.args.rdx c.args.r8 c.args.at c.args.size (omega arith) (omega arith));
  fits = rw c.low_bytes-then-at-size-le16.ensures (low-fits _ c.args.size);
}
