use Rattle.std.proofs.Common.{refl, sym, ◌∙◌}
use Rattle.std.proofs.lemmas.Result.{err_from_is_err_and}
use Rattle.hv_machine.proofs.dispatch.dispatch.Goals as goal

pub do_planned-requires-clause-granted : goal.do_planned-requires-clause-granted
do_planned-requires-clause-granted g c = (let t = c.requires.rows.0 in c.in_ok-found.ensures.grants t (sym (c.in_ok-plan.ensures.unmet t.flat t.tied)))

pub returns : goal.returns
returns g c f flat next served = (c.in_ok-found.ensures.further f flat ∙ sym (c.in_ok-plan.ensures.unmet f flat), c.in_ok-do_planned.ensures f flat next served)

pub returns-in_err-plan : goal.returns-in_err-plan
returns-in_err-plan g c f flat next served =
    let (_, is, gives) = err_from_is_err_and c.from_residual-in_err-plan.result c.from_residual-in_err-plan.ensures.1 in
    rw (is, gives) (c.in_ok-found.ensures.further f flat ∙ sym (c.in_err-plan.ensures.unmet f flat), refl)

pub returns-in_err-do_planned : goal.returns-in_err-do_planned
returns-in_err-do_planned g c f flat next served =
    let (_, is, gives) = err_from_is_err_and c.from_residual-in_err-do_planned.result c.from_residual-in_err-do_planned.ensures.1 in
    rw (is, gives) (c.in_ok-found.ensures.further f flat ∙ sym (c.in_ok-plan.ensures.unmet f flat), c.in_err-do_planned.ensures f flat next served)
