use Rattle.std.proofs.Common.{inl, refl}
use Rattle.std.proofs.lemmas.Result.{on_ok_weaker}
use Rattle.hv_explain.proofs.Following.{followed_text_until}
use Rattle.hv_explain.specs.Part.{FollowsPartOf}
use Rattle.hv_run.specs.declared.failure.Failure.TheVariants.{Memory}
use Rattle.hv_trace.proofs.Framing.{framed_by, framed_head}
use Rattle.hv_trace.proofs.WrittenParts.{at_ok}
use Rattle.hv_trace.proofs.report.write_audit.Goals as goal
use Rattle.hv_trace.specs.Report.{reports}
use Rattle.hv_trace.specs.declared.report.page.TheConstants.{HEAD, TAIL}

pub returns-in_default-clause-failed : goal.returns-in_default-clause-failed
returns-in_default-clause-failed g c failed = framed_head HEAD.now TAIL.now (FollowsPartOf reports c.args.script.now c.args.audit.now) _ _ (inl refl) c.open.ensures.part

pub returns-clause-page : goal.returns-clause-page
returns-clause-page g c done =
    record {
      opened = _;
      told = _;
      opens = c.in-Ok.ensures.told;
      rows = at_ok c.tell_audit-told.result _ c.tell_audit-told.ensures.told (c.close.ensures.done done);
      closes = c.close.ensures.closes done;
    }

pub returns-clause-failed : goal.returns-clause-failed
returns-clause-failed g c failed =
    framed_by HEAD.now TAIL.now (FollowsPartOf reports c.args.script.now c.args.audit.now) _ _ _ _ c.in-Ok.ensures.told c.close.ensures.part c.tell_audit-told.result
    (on_ok_weaker c.tell_audit-told.result (followed_text_until reports Memory c.args.script.now c.args.audit.now _ _) c.tell_audit-told.ensures.told) c.tell_audit-told.ensures.failed
    c.close.ensures.kept
