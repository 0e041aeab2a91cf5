use Rattle.hv_explain.proofs.WrittenLines.{line_put}
use Rattle.hv_explain.proofs.explainer.put_event.Goals as goal

pub returns : goal.returns
returns g c = line_put _ _ _ _ _ _ c.put_line.ensures.plain c.put_line.ensures.line
