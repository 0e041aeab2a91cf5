use Rattle.std.proofs.Common.{◌<◌, length, ap, ◌∙◌, arith}
use Rattle.hv_serve.proofs.ShownLines.{explained}
use Rattle.hv_serve.proofs.shown.explanation.Goals as goal

pub returns-in-Ok : goal.returns-in-Ok
returns-in-Ok c =
    let kept = c.args.kept.now in
    let count = c.len.ensures ∙ ap length c.history.ensures.list in
    let none = c.if-len-eq0.false in
    let some : 0 < length kept.history = omega arith in
    explained kept c.new-text.result.items c.explain_last.new.out.items c.drop_line_feed.new.line.items some c.new-text.ensures.items c.in-Ok.ensures c.drop_line_feed.ensures
