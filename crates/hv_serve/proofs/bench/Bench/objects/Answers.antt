use Rattle.std.proofs.Common.{◌<◌, ◌∙◌, ap, arith, length}
use Rattle.hv_serve.proofs.Tracing.{objects_are}
use Rattle.hv_serve.proofs.bench.Bench.objects.Goals as goal

pub returns-then-before-len : goal.returns-then-before-len
returns-then-before-len c =
    let count = c.len.ensures ∙ ap length c.history.ensures.list in
    let less = c.if-before-len.true in
    let some : c.args.before < length c.args.self.now.kept.history = omega (arith, count, less) in
    objects_are (λ text. text.now) c.args.before c.args.self.now c.objects.result some c.objects.ensures
