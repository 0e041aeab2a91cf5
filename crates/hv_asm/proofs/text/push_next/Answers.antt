use Rattle.std.proofs.Common.{◌∙◌, ◌+◌, ℕ, List, ap, rules, sym, tests}
use Rattle.std.proofs.lemmas.Result.{err_from_is_err_and}
use Rattle.hv_asm.specs.Line.{line_of}
use Rattle.hv_asm.specs.Text.{line_end, with_lines}
use Rattle.hv_asm.proofs.Lists.{added, with_more}
use Rattle.hv_asm.proofs.Texts.{line_fails, next_line}
use Rattle.hv_asm.proofs.text.push_next.Goals as goal

pub returns-in_err-push_line-clause-fault : goal.returns-in_err-push_line-clause-fault
returns-in_err-push_line-clause-fault c =
    let before = c.args.script.now.items in
    let p = err_from_is_err_and c.from_residual.result c.from_residual.ensures.1 in
    rw (p.1, p.2) (λ named. line_fails c.args.text.now before _ (ap (λ (l : List ℕ). with_more before (line_of l)) (sym c.around.ensures.before) ∙ c.in_err-push_line.ensures named))

pub returns-clause-next : goal.returns-clause-next
returns-clause-next c = λ number.
    let before = c.args.script.now.items in
    let mid = c.push_line.new.script.items in
    let new = c.push_end.new.script.items in
    let line = ap (λ (l : List ℕ). with_more before (line_of l)) (sym c.around.ensures.before) ∙ c.in_ok-push_line.ensures in
    next_line c.args.text.now before mid new _ (search (rules, tests)) line (added mid (line_end _) new c.in_ok-push_end.ensures) number
    ∙ ap (with_lines new (number + 1)) (sym c.around.ensures.after)
