use Rattle.hv_trace.proofs.PartsInOrder.{four}
use Rattle.hv_trace.specs.Trace.{event_text}
use Rattle.hv_trace.proofs.object.put_event.Goals as goal

pub returns : goal.returns
unfolding event_text
returns g c = four _ _ _ _ _ _ _ _ _ _ c.in_ok-put_asked.ensures c.in_ok-put_text.ensures c.in_ok-put_reply.ensures c.put_end.ensures
