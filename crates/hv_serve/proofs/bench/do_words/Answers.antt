use Rattle.std.proofs.Common.{◌≡◌, ◌==◌, arith, false, length, sym, ◌∙◌}
use Rattle.std.proofs.lemmas.Bool.Decides.{nat_tests}
use Rattle.hv_serve.specs.Session.{read_of}
use Rattle.hv_serve.proofs.BenchSteps.{is_booted}
use Rattle.hv_serve.proofs.TakenLines.{took_request, took_script}
use Rattle.hv_serve.proofs.bench.do_words.Goals as goal

pub returns-in-Some-clause-taken : goal.returns-in-Some-clause-taken
returns-in-Some-clause-taken c =
    let words = c.args.line.now in
    let count = c.words.ensures in
    let none = c.if-words-eq0.false in
    let some : (length words == 0) ≡ false = grind (arith, nat_tests) in
    λ before stands. took_request c.args.bench.now before words c.in-Some.request c.read.result stands some (sym c.of.ensures ∙ c.in-Some.is)
    (c.read.ensures (read_of before) (c.is_some.ensures ∙ is_booted c.args.bench.now before stands))

pub returns-in-None-clause-taken : goal.returns-in-None-clause-taken
returns-in-None-clause-taken c =
    let words = c.args.line.now in
    let count = c.words.ensures in
    let none = c.if-words-eq0.false in
    let some : (length words == 0) ≡ false = grind (arith, nat_tests) in
    λ before stands. took_script c.args.bench.now c.script_line.new.bench before words c.script_line.result stands some (sym c.of.ensures ∙ c.in-None.is) c.script_line.ensures.taken
