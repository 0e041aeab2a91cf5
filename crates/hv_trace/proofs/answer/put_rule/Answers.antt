use Rattle.hv_trace.proofs.PartsInOrder.{two}
use Rattle.hv_trace.specs.Trace.{rule_text}
use Rattle.hv_trace.proofs.answer.put_rule.Goals as goal

pub returns : goal.returns
unfolding rule_text
returns g c = two _ _ _ _ _ _ c.in_ok-put_rule_name.ensures c.put_text.ensures
