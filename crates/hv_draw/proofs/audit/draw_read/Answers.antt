use Rattle.std.proofs.lemmas.Result.{on_ok_weaker}
use Rattle.hv_script.specs.Reading.{said}
use Rattle.hv_draw.proofs.Beginning.{first_of_legal}
use Rattle.hv_draw.proofs.audit.draw_read.Goals as goal

pub returns-in-Ok-clause-drawn : goal.returns-in-Ok-clause-drawn
returns-in-Ok-clause-drawn g c =
    on_ok_weaker c.draw_events.result
    (first_of_legal c.args.script.now c.args.audit.now (said c.in-Ok.script) c.args.at c.args.only _ _ c.in-Ok.ensures.script c.requires) c.draw_events.ensures.drawn
