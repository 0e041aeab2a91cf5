use Rattle.hv_serve.specs.declared.bench.Bench.{Bench}
use Rattle.hv_serve.proofs.Tracing.{line_traced}
use Rattle.hv_serve.proofs.bench.Bench.perform.Goals as goal

pub returns-in-Text-clause-acted : goal.returns-in-Text-clause-acted
returns-in-Text-clause-acted c = c.outcome_of_act.ensures c.args.by c.args.action 4294967295 c.args.self.now.kept c.act.new.kept c.act.ensures

pub returns-in-Json-clause-acted : goal.returns-in-Json-clause-acted
returns-in-Json-clause-acted c = c.outcome_of_act-in-Json.ensures c.args.by c.args.action 4294967295 c.args.self.now.kept c.act_traced.new.kept c.act_traced.ensures.acted

pub returns-in-Json-clause-traced : goal.returns-in-Json-clause-traced
returns-in-Json-clause-traced c = λ json. line_traced c.args.self.now.kept _ c.act_traced.ensures.traced
