use Rattle.std.proofs.Common.{ℕ, List, subst}
use Rattle.std.specs.Io.KnownBytes.{Appends}
use Rattle.hv_run.specs.Written.{HasPart}
use Rattle.hv_serve.specs.Bench.{kept_in}
use Rattle.hv_serve.proofs.AnswerParts.{answered_out, answered_part, unanswered}
use Rattle.hv_serve.proofs.answer.put_answer.Goals as goal

pub returns-in-Ok-put_out-clause-told : goal.returns-in-Ok-put_out-clause-told
returns-in-Ok-put_out-clause-told g c =
    let a = g.W.Write.contents c.args.out.now in
    let b = g.W.Write.contents c.put_out.new.out in
    λ traced. answered_out c.args.form c.args.number c.args.before c.args.outcome c.in-Ok.told (kept_in c.args.bench.now) _ _ a b c.new-text.ensures.items (c.in-Ok.ensures traced)
    (subst (Appends a b) c.deref.ensures.value c.in-Ok-put_out.ensures.told)

pub returns-in-Ok-clause-part : goal.returns-in-Ok-clause-part
returns-in-Ok-clause-part g c =
    let a = g.W.Write.contents c.args.out.now in
    let b = g.W.Write.contents c.put_out.new.out in
    λ traced. answered_part c.args.form c.args.number c.args.before c.args.outcome c.in-Ok.told (kept_in c.args.bench.now) _ _ a b c.new-text.ensures.items (c.in-Ok.ensures traced)
    (subst (λ (t : List ℕ). HasPart t a b) c.deref.ensures.value c.put_out.ensures.part)

pub returns-clause-part : goal.returns-clause-part
returns-clause-part g c = λ traced. unanswered c.args.form c.args.number c.args.before c.args.outcome c.args.bench.now (g.W.Write.contents c.args.out.now) traced
