use Rattle.std.proofs.lemmas.Result.{on_ok_weaker}
use Rattle.hv_script.specs.Reading.{said}
use Rattle.hv_draw.proofs.Beginning.{state_of}
use Rattle.hv_draw.proofs.audit.draw_events.Goals as goal

pub returns-clause-drawn : goal.returns-clause-drawn
returns-clause-drawn g c =
    on_ok_weaker c.write_graph.result
    (λ drawn.
    state_of (said c.args.script) c.args.at c.args.audit.now c.args.only c.in_ok-kept.kept c.take.new.kept _ _ c.in_ok-kept.ensures.config c.in_ok-kept.ensures.limit c.take.ensures.config
    c.take.ensures.limit c.write_graph.ensures.run c.in_ok-compare.ensures.begins drawn) c.write_graph.ensures.graph
