use Rattle.hv_draw.proofs.Parts.{three}
use Rattle.hv_draw.specs.Shapes.{dot_text}
use Rattle.hv_draw.proofs.shapes.put_dot.Goals as goal

pub returns : goal.returns
unfolding dot_text
returns g c = three _ _ _ _ _ _ _ _ c.in_ok-put_number.ensures c.in_ok-put_number-2.ensures c.write_all.ensures.bytes
