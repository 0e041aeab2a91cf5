use Rattle.std.proofs.Common.{inl, refl}
use Rattle.std.proofs.lemmas.Result.{on_ok_weaker}
use Rattle.hv_explain.proofs.BrokenOff.{explained_text_until}
use Rattle.hv_explain.specs.Part.{TellsPartOf}
use Rattle.hv_run.specs.declared.failure.Failure.TheVariants.{Memory}
use Rattle.hv_trace.proofs.Framing.{framed_by, framed_head}
use Rattle.hv_trace.proofs.WrittenParts.{at_ok}
use Rattle.hv_trace.proofs.report.write_script.Goals as goal
use Rattle.hv_trace.specs.Report.{reports}
use Rattle.hv_trace.specs.declared.report.page.TheConstants.{HEAD, TAIL}

pub returns-in_default-clause-failed : goal.returns-in_default-clause-failed
returns-in_default-clause-failed g c failed = framed_head HEAD.now TAIL.now (TellsPartOf reports c.args.script.now) _ _ (inl refl) c.open.ensures.part

pub returns-clause-page : goal.returns-clause-page
returns-clause-page g c done =
    record {
      opened = _;
      told = _;
      opens = c.in-Ok.ensures.told;
      rows = at_ok c.tell_script-told.result _ c.tell_script-told.ensures.told (c.close.ensures.done done);
      closes = c.close.ensures.closes done;
    }

pub returns-clause-failed : goal.returns-clause-failed
returns-clause-failed g c failed =
    framed_by HEAD.now TAIL.now (TellsPartOf reports c.args.script.now) _ _ _ _ c.in-Ok.ensures.told c.close.ensures.part c.tell_script-told.result
    (on_ok_weaker c.tell_script-told.result (explained_text_until reports Memory c.args.script.now _ _) c.tell_script-told.ensures.told) c.tell_script-told.ensures.failed c.close.ensures.kept
