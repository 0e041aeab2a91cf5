use Rattle.std.proofs.Common.{None, subst, OnOk, IfErr}
use Rattle.hv_script.specs.Reading.{said}
use Rattle.hv_explain.specs.Part.{HasPutUntil, TellsFirst}
use Rattle.hv_explain.specs.Written.{HasWrittenLines}
use Rattle.hv_explain.proofs.BrokenOff.{explained_until, lines_until}
use Rattle.hv_explain.proofs.Lines.{explained}
use Rattle.hv_explain.proofs.script.tell_lines.Goals as goal

pub returns-in-Ok-Ok-clause-told : goal.returns-in-Ok-Ok-clause-told
returns-in-Ok-Ok-clause-told g c =
    let old = c.in_ok-kept.kept in
    let new = c.explain_lines-told.new.kept in
    let told = subst
    (λ r. OnOk r (HasWrittenLines g.T.Teller.tells None c.as_slice-lines.result.now old new (g.W.Write.contents c.args.out.now) (g.W.Write.contents c.explain_lines-told.new.out)))
    c.in-Ok-Ok.is-0
    c.explain_lines-told.ensures.told in
    explained g.T.Teller.tells (said c.args.script.now) c.as_slice-lines.result.now old new _ _ _ c.as_slice-lines.ensures.value c.in_ok-kept.ensures.history c.in_ok-kept.ensures.config
    c.in_ok-kept.ensures.limit c.explain_lines-told.ensures.run told c.flush.ensures.bytes

pub returns-in-Ok-Err-clause-failed : goal.returns-in-Ok-Err-clause-failed
returns-in-Ok-Err-clause-failed g c =
    let old = c.in_ok-kept.kept in
    let new = c.explain_lines-told.new.kept in
    let told = subst
    (λ r. OnOk r (HasWrittenLines g.T.Teller.tells None c.as_slice-lines.result.now old new (g.W.Write.contents c.args.out.now) (g.W.Write.contents c.explain_lines-told.new.out)))
    c.in-Ok-Err.is-0
    c.explain_lines-told.ensures.told in
    explained_until g.T.Teller.tells _ (said c.args.script.now) _ _
    (explained g.T.Teller.tells (said c.args.script.now) c.as_slice-lines.result.now old new _ _ _ c.as_slice-lines.ensures.value c.in_ok-kept.ensures.history c.in_ok-kept.ensures.config
    c.in_ok-kept.ensures.limit c.explain_lines-told.ensures.run told c.flush.ensures.bytes)

pub returns-clause-failed : goal.returns-clause-failed
returns-clause-failed g c =
    let old = c.in_ok-kept.kept in
    let lines = c.as_slice-lines.result.now in
    lines_until g.T.Teller.tells c.in-Err-default.failure (said c.args.script.now) old.config old.limit lines _ _ _ c.in_ok-kept.ensures.config c.in_ok-kept.ensures.limit
    c.as_slice-lines.ensures.value
    (subst
    (λ r. IfErr r (λ failure. HasPutUntil failure (TellsFirst g.T.Teller.tells old.config old.limit lines) (g.W.Write.contents c.args.out.now) (g.W.Write.contents c.explain_lines-told.new.out)))
    c.in-Err-default.is-0 c.explain_lines-told.ensures.failed)
    c.flush.ensures.bytes
