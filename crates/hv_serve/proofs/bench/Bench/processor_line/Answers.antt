use Rattle.std.proofs.Common.{◌∙◌, ◌<◌, ℕ, ap, arith, refl, sym, Err}
use Rattle.std.proofs.lemmas.Result.{err_from_is_err_and}
use Rattle.hv_defs.specs.declared.sizes.TheConstants.{REPS_END}
use Rattle.hv_script.specs.Line.{processor_of}
use Rattle.hv_serve.proofs.BenchSteps.{bad_action, bad_processor, no_room, performed, still}
use Rattle.hv_serve.proofs.bench.Bench.processor_line.Goals as goal

pub returns-in_err-by-clause-taken : goal.returns-in_err-by-clause-taken
returns-in_err-by-clause-taken c =
    let p = err_from_is_err_and c.from_residual.result c.from_residual.ensures.1 in
    let words = c.args.line.now in
    rw (p.1, p.2) (λ served is. (is, λ _. bad_processor served.read words _ (ap processor_of (sym c.word.ensures) ∙ sym c.in_err-by.ensures)))

pub returns-in_err-action-clause-taken : goal.returns-in_err-action-clause-taken
returns-in_err-action-clause-taken c =
    let p = err_from_is_err_and c.from_residual-in_err-action.result c.from_residual-in_err-action.ensures.1 in
    let words = c.args.line.now in
    rw (p.1, p.2) (λ served is. (is, λ apart. bad_action served.read words c.in_ok-by.by _ (ap processor_of (sym c.word.ensures) ∙ sym c.in_ok-by.ensures) (c.in_err-action.ensures apart)))

pub returns-in_err-admit-clause-taken : goal.returns-in_err-admit-clause-taken
returns-in_err-admit-clause-taken c =
    let p = err_from_is_err_and c.from_residual-in_err-admit.result c.from_residual-in_err-admit.ensures.1 in
    let words = c.args.line.now in
    let refused = c.in_err-admit.ensures in
    rw (p.1, p.2)
    (λ served is. (
      still c.args.self.now _ served is refl refused.same,
      λ apart. no_room c.args.self.now served words c.in_ok-by.by c.in_ok-action.action is (ap processor_of (sym c.word.ensures) ∙ sym c.in_ok-by.ensures) c.in_ok-action.ensures (refused.many apart).1
          ∙ ap Err (sym (refused.many apart).0),
    ))

pub returns-clause-taken : goal.returns-clause-taken
returns-clause-taken c =
    let words = c.args.line.now in
    let by = c.in_ok-by.by in
    let what = c.in_ok-action.action in
    let old = c.args.self.now in
    let new = c.perform.new.self in
    let admitted = c.in_ok-admit.ensures in
    let most : ℕ = 4294967295 in
    let enough : REPS_END < most = omega arith in
    λ served is. performed old new served words by what is (ap processor_of (sym c.word.ensures) ∙ sym c.in_ok-by.ensures) c.in_ok-action.ensures admitted.room
    (c.perform.ensures.callers ∙ admitted.counted) most enough c.perform.result
    c.perform.ensures.acted
