use Rattle.std.proofs.Common.{List, subst, Global}
use Rattle.hv_draw.proofs.Drawing.{both_ok, drawn_of, silent_host}
use Rattle.hv_draw.proofs.draw.draw_script.Goals as goal
use Rattle.hv_explain.specs.First.{HasRun}
use Rattle.hv_script.specs.Reading.{said}
use Rattle.hv_script.specs.declared.line.Line.{Line}

pub returns-clause-drawn : goal.returns-clause-drawn
returns-clause-drawn g c =
    both_ok _ _ _ _ _ _ c.ended.ensures.ran c.ended.ensures.drawn c.explain_lines-ran.ensures.told c.write_graph-drawn.ensures.graph
    (λ told drawn.
    drawn_of (said c.args.script) _ _ _ _ _ _ c.in_ok-kept.ensures.config c.in_ok-kept.ensures.limit
    (subst (λ (lines : List (Line Global)). HasRun c.args.at lines c.in_ok-kept.kept c.explain_lines-ran.new.kept) c.as_slice.ensures.value told.ran)
    c.write_graph-drawn.ensures.run drawn)

pub returns-clause-silent : goal.returns-clause-silent
returns-clause-silent g c = silent_host _ _ (c.ended.ensures.host c.explain_lines-ran.ensures.host c.write_graph-drawn.ensures.host)
