use Rattle.std.proofs.Common.{◌≡◌, codes, rules, sym, tests, true}
use Rattle.hv_script.specs.Words.{begins_with}
use Rattle.hv_serve.specs.declared.bench.Bench.{Bench}
use Rattle.hv_serve.proofs.BenchSteps.{booted}
use Rattle.hv_serve.proofs.bench.boot_line.Goals as goal

pub returns-in-Ok-clause-taken : goal.returns-in-Ok-clause-taken
returns-in-Ok-clause-taken c =
    let bench : Bench = record { kept = c.in-Ok.kept; trace = c.new.result; callers = c.new-in-Ok.result } in
    let begins : begins_with c.args.line.now (codes "boot") ≡ true = search (rules, tests) in
    let booted_by = c.in-Ok.ensures in
    booted c.args.line.now c.in_ok-boot.boot bench begins (sym c.in_ok-boot.ensures) booted_by.config booted_by.limit booted_by.history booted_by.run c.new-in-Ok.ensures.items
