use Rattle.std.proofs.KnownBytes.{Appends-kept}
use Rattle.hv_asm.proofs.Lists.{in_any}
use Rattle.hv_asm.proofs.asm.put.Goals as goal
use Rattle.hv_run.proofs.Parts.{part_cut, part_whole}

pub returns-in-Ok-clause-told : goal.returns-in-Ok-clause-told
returns-in-Ok-clause-told g c =
    in_any c.flush.result _ (Appends-kept (g.W.Write.contents c.args.out.now) (g.W.Write.contents c.put_bytes.new.out) _ c.args.text.now c.in-Ok.ensures.ok c.flush.ensures.bytes)

pub returns-in-Ok-clause-part : goal.returns-in-Ok-clause-part
returns-in-Ok-clause-part g c = part_whole _ _ _ (Appends-kept _ _ _ _ c.in-Ok.ensures.ok c.flush.ensures.bytes)

pub returns-in-Err-clause-part : goal.returns-in-Err-clause-part
returns-in-Err-clause-part g c = part_cut _ _ _ c.in-Err.field-0 c.in-Err.ensures.cut
