use Rattle.std.proofs.Common.{◌≡◌, ◌+◌, ◌++◌, length, take-add, decimal, ap, arith}
use Rattle.std.proofs.Math.Seq.{take-append_seam}
use Rattle.hv_text.proofs.text.Text.push_decimal.Goals as goal

pub returns-clause-text : goal.returns-clause-text
returns-clause-text c =
    let start = c.write_digits-start.result in
    let text = decimal c.args.number in
    let at : c.self.inside.len + c.digits_of.result ≡ start + length text = omega (arith, c.write_digits-start.ensures.start, c.digits_of.ensures.is) in
    let same : start ≡ c.self.inside.len = omega (arith, c.write_digits-start.ensures.start, c.digits_of.ensures.is) in
    rw (at, take-add start (length text) c.write_digits-start.new.buf, c.write_digits-start.ensures.before, c.write_digits-start.ensures.written, take-append_seam text _, same)
    (ap (λ t. t ++ text) c.self.view_is)
