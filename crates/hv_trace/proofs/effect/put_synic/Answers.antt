use Rattle.hv_trace.proofs.PartsInOrder.{three}
use Rattle.hv_trace.proofs.effect.put_synic.Goals as goal

pub returns : goal.returns
returns g c = three _ _ _ _ _ _ _ _ c.in_ok-put_processor.ensures c.in_ok-put_gained.ensures c.put_lost.ensures
