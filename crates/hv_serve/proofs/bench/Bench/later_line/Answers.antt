use Rattle.std.proofs.Common.{◌≡◌, codes, false, rules, subst, sym, tests, true, Some}
use Rattle.hv_script.specs.Words.{begins_with}
use Rattle.hv_serve.specs.Bench.{HasTaken}
use Rattle.hv_serve.proofs.BenchSteps.{boots_twice, is_phase, is_processor}
use Rattle.hv_serve.proofs.bench.Bench.later_line.Goals as goal

pub returns-then-begins_with-clause-taken : goal.returns-then-begins_with-clause-taken
returns-then-begins_with-clause-taken c =
    let boot : begins_with c.args.line.now (codes "boot") ≡ true = search (rules, tests) in
    λ served is. (is, λ _. boots_twice served.read c.args.line.now boot)

pub returns-then-begins_with-2-clause-taken : goal.returns-then-begins_with-2-clause-taken
returns-then-begins_with-2-clause-taken c =
    let boot : begins_with c.args.line.now (codes "boot") ≡ false = search (rules, tests) in
    let phase : begins_with c.args.line.now (codes "phase") ≡ true = search (rules, tests) in
    λ served is. subst (λ says. HasTaken (Some served) says (Some c.phase_line.new.self) c.phase_line.result) (sym (is_phase served.read c.args.line.now boot phase))
    (c.phase_line.ensures.taken served is)

pub returns-clause-taken : goal.returns-clause-taken
returns-clause-taken c =
    let boot : begins_with c.args.line.now (codes "boot") ≡ false = search (rules, tests) in
    let phase : begins_with c.args.line.now (codes "phase") ≡ false = search (rules, tests) in
    λ served is. subst (λ says. HasTaken (Some served) says (Some c.processor_line.new.self) c.processor_line.result) (sym (is_processor served.read c.args.line.now boot phase))
    (c.processor_line.ensures.taken served is)
