use Rattle.std.proofs.Common.{inl, refl}
use Rattle.std.proofs.KnownBytes.{Keeps-refl}
use Rattle.hv_explain.specs.Part.{FollowsPartOf}
use Rattle.hv_trace.proofs.Framing.{framed_none}
use Rattle.hv_trace.proofs.report.report_audit.Goals as goal
use Rattle.hv_trace.specs.Report.{reports}
use Rattle.hv_trace.specs.declared.report.page.TheConstants.{HEAD, TAIL}

pub returns-in_default-clause-failed : goal.returns-in_default-clause-failed
returns-in_default-clause-failed g c failed legal =
    framed_none HEAD.now TAIL.now (FollowsPartOf reports c.args.script.now c.args.audit.now) _ _ (inl refl) (Keeps-refl (g.W.Write.contents c.args.out.now))
