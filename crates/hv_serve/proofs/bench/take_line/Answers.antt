use Rattle.std.proofs.Common.{subst, sym, Err, Option, Bool}
use Rattle.hv_script.specs.declared.fault.FaultKind.{FaultKind}
use Rattle.hv_serve.specs.Bench.{HasBecome}
use Rattle.hv_serve.specs.Input.{AreKept}
use Rattle.hv_serve.specs.Meant.{meant, meant_by}
use Rattle.hv_serve.specs.Session.{read_of}
use Rattle.hv_serve.proofs.LineOutcomes.{taken_becomes}
use Rattle.hv_serve.proofs.Named.{kept_named, lost_named}
use Rattle.hv_serve.proofs.TakenLines.{kept_line}
use Rattle.hv_serve.proofs.bench.take_line.Goals as goal

pub returns-in-Some-clause-comes : goal.returns-in-Some-clause-comes
returns-in-Some-clause-comes c =
    λ before bytes stands one kept. taken_becomes before (meant_by c.args.at.names (read_of before) bytes) c.args.bench.now (Err c.in-Some.kind) c.outcome_of.result
    (lost_named c.args.at.names c.args.bench.now before bytes c.args.line.now c.in-Some.kind stands (subst (λ (lost : Option FaultKind). AreKept bytes c.args.line.now lost) c.in-Some.is kept))
    c.outcome_of.ensures

pub returns-in-None-clause-comes : goal.returns-in-None-clause-comes
returns-in-None-clause-comes c =
    λ before bytes stands one kept. subst (λ (names : Bool). HasBecome before (meant_by names (read_of before) bytes) c.named_line.result c.named_line.new.bench) (sym c.if-at.true)
    (kept_named c.named_line.new.bench before bytes c.args.line.now c.named_line.result one (subst (λ (lost : Option FaultKind). AreKept bytes c.args.line.now lost) c.in-None.is kept)
    (λ own. c.named_line.ensures.comes before stands own))

pub returns-in-None-2-clause-comes : goal.returns-in-None-2-clause-comes
returns-in-None-2-clause-comes c =
    λ before bytes stands one kept. subst (λ (names : Bool). HasBecome before (meant_by names (read_of before) bytes) c.outcome_of-in-None-2.result c.do_line.new.bench) (sym c.if-at.false)
    (taken_becomes before (meant (read_of before) bytes) c.do_line.new.bench c.do_line.result c.outcome_of-in-None-2.result
    (kept_line c.args.bench.now c.do_line.new.bench before bytes c.args.line.now c.do_line.result stands one (subst (λ (lost : Option FaultKind). AreKept bytes c.args.line.now lost)
    c.in-None.is kept)
    c.do_line.ensures.taken)
    c.outcome_of-in-None-2.ensures)
