use Rattle.hv_serve.specs.Bench.{kept_in}
use Rattle.hv_serve.proofs.AnswerParts.{answered}
use Rattle.hv_serve.proofs.answer.put_in.Goals as goal

pub returns-in-Ok : goal.returns-in-Ok
returns-in-Ok g c =
    λ traced. answered c.args.form c.args.number c.args.before c.args.outcome c.take_shown-told.result.0 (kept_in c.args.bench.now) _ _ (g.W.Write.contents c.args.out.now)
    (g.W.Write.contents c.put_by_form.new.out) c.take_shown-told.ensures.told c.take_shown-told.ensures.shown (λ json. c.in-Some.ensures (traced json)) c.in-Ok.ensures
