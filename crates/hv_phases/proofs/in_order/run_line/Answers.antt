use Rattle.std.proofs.Common.{◌∙◌, ℕ, Bool, Some, ap, is_some, sym}
use Rattle.std.proofs.lemmas.Option.{IfSome_then}
use Rattle.hv_phases.proofs.LinesRan.{Both, if_then, line_taken_by}
use Rattle.hv_phases.proofs.ProcessorMaps.{found_at}
use Rattle.hv_phases.proofs.RunnerMaps.{stop_written}
use Rattle.hv_phases.proofs.in_order.run_line.Goals as goal
use Rattle.hv_phases.specs.PassMap.{HasTaken, IsAny, IsWithin}

pub returns-in-Some-clause-ran : goal.returns-in-Some-clause-ran
returns-in-Some-clause-ran g c =
    let line = c.args.line in
    let runner = c.in-Some.runner.now in
    let next = c.take_line.new.runner in
    let did = (c.get_mut.follows.holds next).3 (ap is_some (sym c.in-Some.ensures.value)) in
    let found = found_at line.by c.key_of.result c.key_of.ensures c.args.runners.now (Some runner) c.in-Some.ensures.value in
    IfSome_then c.take_line.result
    (if_then c.take_line.result (λ (a : Both runner.pass next.pass) (r : ℕ × Bool). HasTaken (IsWithin c.args.last r.0) line.action runner.stop next.stop a.0
    a.1)
    (λ a. c.take_line.ensures.took a.0 a.1 a.2 a.3))
    (λ r took. line_taken_by (IsWithin c.args.last r.0) line c.key_of.result c.key_of.ensures c.args.runners.now (c.get_mut.follows.lender next) runner next
    found did c.take_line.ensures.there
    (λ was pass at here. took (was, pass, at, here)))

pub returns-in-Some-clause-goes_on : goal.returns-in-Some-clause-goes_on
returns-in-Some-clause-goes_on g c =
    let line = c.args.line in
    let runner = c.in-Some.runner.now in
    let next = c.take_line.new.runner in
    let did = (c.get_mut.follows.holds next).3 (ap is_some (sym c.in-Some.ensures.value)) in
    IfSome_then c.take_line.result c.take_line.ensures.goes_on (λ r goes on. stop_written line.by c.key_of.result c.key_of.ensures c.args.runners.now
    (c.get_mut.follows.lender next) next did ∙ goes on)

pub returns-in-Some-clause-any : goal.returns-in-Some-clause-any
returns-in-Some-clause-any g c =
    let line = c.args.line in
    let runner = c.in-Some.runner.now in
    let next = c.take_line.new.runner in
    let did = (c.get_mut.follows.holds next).3 (ap is_some (sym c.in-Some.ensures.value)) in
    line_taken_by IsAny line c.key_of.result c.key_of.ensures c.args.runners.now (c.get_mut.follows.lender next) runner next
    (found_at line.by c.key_of.result c.key_of.ensures c.args.runners.now (Some runner) c.in-Some.ensures.value) did c.take_line.ensures.there
    c.take_line.ensures.any
