use Rattle.hv_serve.proofs.Tracing.{taken_one}
use Rattle.hv_serve.proofs.traced.take_event.Goals as goal

pub returns-clause-taken : goal.returns-clause-taken
returns-clause-taken c =
    λ objects holds. taken_one c.args.by c.args.what.now c.in_ok-reply.reply c.in_ok-reply.effect objects c.args.kept.now c.happen.new.kept c.add.new.self c.in_ok-reply.ensures.happened
    (c.add.ensures objects holds)
