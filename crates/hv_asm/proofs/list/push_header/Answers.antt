use Rattle.std.proofs.Common.{◌∙◌, List, ap, arith, sym}
use Rattle.std.proofs.lemmas.Result.{err_from_is_err_and}
use Rattle.hv_asm.specs.List.{all_bytes, part_bytes}
use Rattle.hv_asm.specs.declared.field.Part.{Part}
use Rattle.hv_asm.proofs.Lists.{next_added, next_fails, with_more}
use Rattle.hv_asm.proofs.Words.{seen}
use Rattle.hv_asm.proofs.list.push_header.Goals as goal

pub returns-in_err-push_part : goal.returns-in_err-push_part
returns-in_err-push_part c =
    let words = seen c.args.words.now in
    let p = err_from_is_err_and c.from_residual.result c.from_residual.ensures.1 in
    rw (p.1, p.2) (λ named. ap (λ (parts : List Part). with_more c.args.list.now.items (all_bytes (part_bytes words) parts)) (sym c.parts-parts.ensures)
    ∙ next_fails (part_bytes words) c.parts-parts.result.now c.loop-part.part-index _ _ c.loop-part.list.items _ (omega arith) c.loop-part.invariant (c.in_err-push_part.ensures named))

pub loop-part-preserved : goal.loop-part-preserved
loop-part-preserved c =
    next_added (part_bytes (seen c.args.words.now)) c.parts-parts.result.now c.loop-part.part-index _ _ c.loop-part.list.items c.push_part.new.list.items (omega arith) c.loop-part.invariant
    c.in_ok-push_part.ensures
