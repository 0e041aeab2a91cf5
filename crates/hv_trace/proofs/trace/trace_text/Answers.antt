use Rattle.hv_trace.proofs.Framing.{some_is}
use Rattle.hv_trace.proofs.trace.trace_text.Goals as goal

pub returns-clause-failed_audit : goal.returns-clause-failed_audit
returns-clause-failed_audit g c = some_is _ _ _ c.in-Some.is c.follow_with.ensures.failed
