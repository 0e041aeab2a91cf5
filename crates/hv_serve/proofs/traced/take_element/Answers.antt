use Rattle.hv_serve.proofs.Tracing.{taken_element}
use Rattle.hv_serve.proofs.traced.take_element.Goals as goal

pub returns-in-Ok-take_event-clause-taken : goal.returns-in-Ok-take_event-clause-taken
returns-in-Ok-take_event-clause-taken c =
    λ objects holds. taken_element c.args.by c.args.frame.now c.in-Ok.own c.in-Ok-take_event.reply c.parts.result.0 c.parts.result.1.now c.next_of.result objects c.args.kept.now
    c.take_event.new.kept c.take_event.new.trace c.in-Ok.ensures c.parts.ensures.reply c.in-Ok-take_event.ensures.next c.next_of.ensures.some c.next_of.ensures.none
    (c.in-Ok-take_event.ensures.taken objects holds)
