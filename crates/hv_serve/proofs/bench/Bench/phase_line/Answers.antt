use Rattle.std.proofs.Common.{◌∙◌, eq-eqb, length, refl, sym}
use Rattle.hv_serve.specs.declared.bench.Bench.{Bench}
use Rattle.hv_serve.proofs.BenchSteps.{phased}
use Rattle.hv_serve.proofs.bench.Bench.phase_line.Goals as goal

pub returns-clause-taken : goal.returns-clause-taken
returns-clause-taken c =
    let new : Bench = record { kept = c.args.self.now.kept; trace = c.args.self.now.trace; callers = c.clear.new.self } in
    λ served is. phased c.args.self.now new served c.args.line.now is (eq-eqb (length c.args.line.now) 1 (sym c.words.ensures ∙ c.if-words-ne1.false)) refl c.clear.ensures.items
