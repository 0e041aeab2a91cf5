use Rattle.std.proofs.Common.{ℕ, ◌≢◌, inl, List, refl, true}
use Rattle.std.proofs.KnownBytes.{Keeps-refl}
use Rattle.hv_check.specs.Legal.{IsLegalOf}
use Rattle.hv_explain.specs.Part.{FollowsPartOf, HasPutPart, TellsPartOf}
use Rattle.hv_run.specs.declared.failure.Exit.TheVariants.{Done}
use Rattle.hv_trace.proofs.Framing.{framed_none, some_is, within_any, without}
use Rattle.hv_trace.proofs.report.report_text.Goals as goal
use Rattle.hv_trace.specs.Framed.{IsFramed}
use Rattle.hv_trace.specs.Report.{reports}
use Rattle.hv_trace.specs.declared.report.page.TheConstants.{HEAD, TAIL}

pub returns-in_default-clause-failed_script : goal.returns-in_default-clause-failed_script
returns-in_default-clause-failed_script g c =
    let none = framed_none HEAD.now TAIL.now (TellsPartOf reports c.args.script.now) _ _ (inl refl) (Keeps-refl (g.W.Write.contents c.args.out.now)) in
    without c.args.audit (λ failed. none)

pub returns-in_default-clause-failed_audit : goal.returns-in_default-clause-failed_audit
returns-in_default-clause-failed_audit g c =
    let out = g.W.Write.contents c.args.out.now in
    let Part : List ℕ → List ℕ → Type 0 = λ audit. IsFramed HEAD.now TAIL.now (FollowsPartOf reports c.args.script.now audit) in
    within_any c.args.audit (λ audit. c.tell.result ≢ Done → IsLegalOf true true c.args.script.now audit.now → HasPutPart (Part audit.now) out out)
    (λ audit failed legal. framed_none HEAD.now TAIL.now (FollowsPartOf reports c.args.script.now audit.now) out out (inl refl) (Keeps-refl out))

pub returns-in-Some-clause-failed_audit : goal.returns-in-Some-clause-failed_audit
returns-in-Some-clause-failed_audit g c = some_is _ _ _ c.in-Some.is c.report_audit.ensures.failed
