use Rattle.hv_draw.proofs.Charting.{chart_of}
use Rattle.hv_draw.proofs.sequence.whole.Goals as goal

pub returns : goal.returns
returns c = chart_of _ _ _ _ _ _ c.in_ok-text.ensures c.none.ensures c.in_ok-push.ensures c.in_ok-push-2.ensures c.in_ok-push-3.ensures
