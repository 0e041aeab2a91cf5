use Rattle.std.proofs.Common.{◌≡◌, ◌+◌, ap, ◌∙◌, arith}
use Rattle.hv_abi.specs.Check.{input_of}
use Rattle.hv_calls.specs.Bytes.{bytes_at}
use Rattle.hv_calls.proofs.Copies.{bytes_at-drop}
use Rattle.hv_calls.proofs.payload.Payload.read.Goals as goal

pub returns : goal.returns
returns g c =
    let input = input_of c.args.frame.now c.args.shape.now.fast in
    let start : c.args.at + 0 ≡ c.args.at = omega arith in
    ap (λ block. bytes_at block 0 c.args.len) c.rest.ensures ∙ bytes_at-drop input c.args.at 0 c.args.len ∙ ap (λ at. bytes_at input at c.args.len) start
