use Rattle.std.proofs.Common.{inl, refl}
use Rattle.std.proofs.lemmas.Result.{on_ok_weaker}
use Rattle.hv_explain.proofs.BrokenOff.{explained_text_until}
use Rattle.hv_explain.specs.Part.{TellsPartOf}
use Rattle.hv_run.specs.declared.failure.Failure.TheVariants.{Memory}
use Rattle.hv_trace.proofs.Framing.{framed_by, framed_head, noted_by}
use Rattle.hv_trace.proofs.WrittenParts.{at_ok}
use Rattle.hv_trace.proofs.perfetto.write_array.Goals as goal
use Rattle.hv_trace.specs.Perfetto.{charts, closing_text, opening_text}

pub returns-in_default-clause-failed : goal.returns-in_default-clause-failed
returns-in_default-clause-failed g c failed = framed_head opening_text closing_text (TellsPartOf charts c.args.script.now) _ _ (inl refl) c.open.ensures.part

pub returns-clause-charted : goal.returns-clause-charted
returns-clause-charted g c done =
    record {
      opened = _;
      told = _;
      opens = c.in-Ok.ensures.told;
      events = at_ok c.tell_script-told.result _ c.tell_script-told.ensures.told (c.with_notes.ensures.ok (c.close.ensures.done done));
      closes = c.close.ensures.closes done;
    }

pub returns-clause-failed : goal.returns-clause-failed
returns-clause-failed g c failed =
    let noted = noted_by (TellsPartOf charts c.args.script.now) _ _ c.tell_script-told.result c.with_notes.result c.with_notes.ensures.ok c.with_notes.ensures.err
    (on_ok_weaker c.tell_script-told.result (explained_text_until charts Memory c.args.script.now _ _) c.tell_script-told.ensures.told) c.tell_script-told.ensures.failed in
    framed_by opening_text closing_text (TellsPartOf charts c.args.script.now) _ _ _ _ c.in-Ok.ensures.told c.close.ensures.part c.with_notes.result noted.0 noted.1 c.close.ensures.kept
