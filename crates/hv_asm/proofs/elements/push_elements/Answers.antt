use Rattle.std.proofs.Common.{ap, arith, length, sym}
use Rattle.std.proofs.lemmas.Result.{err_from_is_err_and}
use Rattle.hv_asm.specs.List.{element_bytes}
use Rattle.hv_asm.proofs.Words.{element_added, element_fails, element_next}
use Rattle.hv_asm.proofs.elements.push_elements.Goals as goal

pub returns-in_err-push_element-clause-bytes : goal.returns-in_err-push_element-clause-bytes
returns-in_err-push_element-clause-bytes c =
    let p = err_from_is_err_and c.from_residual.result c.from_residual.ensures.1 in
    rw (p.1, p.2) (λ named. element_fails c.args.call c.args.fast (element_bytes c.args.call) c.args.words.now c.loop-word.word-index _ _ c.loop-word.list.items _ (omega arith)
    (sym c.if-is_setting.ensures) c.loop-word.invariant.bytes (c.in_err-push_element.ensures named))

pub loop-word-preserved : goal.loop-word-preserved
loop-word-preserved c =
    let next = ap length (element_next c.args.call c.args.fast c.args.words.now c.loop-word.word-index _ (omega arith) (sym c.if-is_setting.ensures)) in
    let count = c.loop-word.invariant.count in
    let few = c.loop-word.invariant.few in record {
      bytes = element_added c.args.call c.args.fast (element_bytes c.args.call) c.args.words.now c.loop-word.word-index _ _ c.loop-word.list.items c.push_element.new.list.items (omega arith)
          (sym c.if-is_setting.ensures) c.loop-word.invariant.bytes c.in_ok-push_element.ensures;
      count = omega (arith, next, count);
      few = omega (arith, few);
    }
