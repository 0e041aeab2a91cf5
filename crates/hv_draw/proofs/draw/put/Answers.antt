use Rattle.std.proofs.KnownBytes.{Appends-kept}
use Rattle.hv_run.proofs.Parts.{part_cut, part_whole}
use Rattle.hv_draw.proofs.Drawing.{in_any}
use Rattle.hv_draw.proofs.draw.put.Goals as goal

pub returns-in-Ok-clause-told : goal.returns-in-Ok-clause-told
returns-in-Ok-clause-told g c = in_any c.flush.result _ (Appends-kept _ _ _ _ c.in-Ok.ensures.ok c.flush.ensures.bytes)

pub returns-in-Ok-clause-part : goal.returns-in-Ok-clause-part
returns-in-Ok-clause-part g c = part_whole _ _ _ (Appends-kept _ _ _ _ c.in-Ok.ensures.ok c.flush.ensures.bytes)

pub returns-in-Err-clause-part : goal.returns-in-Err-clause-part
returns-in-Err-clause-part g c = part_cut _ _ _ c.in-Err.field-0 c.in-Err.ensures.cut
