use Rattle.std.proofs.Common.{inl, refl}
use Rattle.std.proofs.KnownBytes.{Keeps-refl}
use Rattle.hv_explain.specs.Part.{TellsPartOf}
use Rattle.hv_trace.proofs.Framing.{framed_none}
use Rattle.hv_trace.proofs.report.report_script.Goals as goal
use Rattle.hv_trace.specs.Report.{reports}
use Rattle.hv_trace.specs.declared.report.page.TheConstants.{HEAD, TAIL}

pub returns-in-Err-clause-failed : goal.returns-in-Err-clause-failed
returns-in-Err-clause-failed g c failed = framed_none HEAD.now TAIL.now (TellsPartOf reports c.args.script.now) _ _ (inl refl) (Keeps-refl (g.W.Write.contents c.args.out.now))
