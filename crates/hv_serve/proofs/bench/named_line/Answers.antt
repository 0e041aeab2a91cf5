use Rattle.std.proofs.Common.{subst, sym, ◌≡◌, ℕ, List}
use Rattle.hv_serve.specs.Bench.{HasTaken}
use Rattle.hv_serve.specs.Meant.{meant}
use Rattle.hv_serve.specs.Session.{read_of}
use Rattle.hv_serve.proofs.LineOutcomes.{taken_becomes}
use Rattle.hv_serve.proofs.Lines.{IsOne}
use Rattle.hv_serve.proofs.Named.{did_nothing, did_plain}
use Rattle.hv_serve.proofs.bench.named_line.Goals as goal

pub returns-in-Ok-clause-comes : goal.returns-in-Ok-clause-comes
returns-in-Ok-clause-comes c =
    let plain = c.push_line.new.script.items in
    let bench = c.plain_line.new.bench in
    λ before stands one. did_plain bench before c.args.text.now c.new-plain.result.items plain c.outcome_of.result one c.new-plain.ensures.items c.in-Ok.ensures
    (λ own. taken_becomes before (meant (read_of before) plain) bench c.plain_line.result c.outcome_of.result
    (subst (λ (l : List ℕ). HasTaken before (meant (read_of before) l) bench c.plain_line.result) c.deref.ensures.value
    (c.plain_line.ensures.taken before stands (subst IsOne (sym c.deref.ensures.value) own)))
    c.outcome_of.ensures)

pub returns-clause-comes : goal.returns-clause-comes
returns-clause-comes c =
    λ before stands one. did_nothing c.args.bench.now before c.args.text.now c.new-plain.result.items c.in-Err.fault c.misnamed.result stands c.in-Err.ensures c.misnamed.ensures
