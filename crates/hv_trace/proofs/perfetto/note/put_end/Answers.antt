use Rattle.hv_trace.proofs.PartsInOrder.{four}
use Rattle.hv_trace.specs.Perfetto.{end_text}
use Rattle.hv_trace.proofs.perfetto.note.put_end.Goals as goal

pub returns : goal.returns
unfolding end_text
returns g c = four _ _ _ _ _ _ _ _ _ _ c.in_ok-put_id.ensures c.in_ok-put_time.ensures c.in_ok-put_lane.ensures c.write_all.ensures.bytes
