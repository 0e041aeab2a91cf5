use Rattle.std.proofs.Common.{◌≡◌, ◌↔◌, ◌<◌, ℕ, [], arith, length, refl, subst, sym, Global}
use Rattle.hv_history.specs.Kept.{Kept}
use Rattle.hv_history.specs.declared.kept.HostRefused.TheVariants.{HistoryFull}
use Rattle.hv_threads.proofs.ActOutcomes.{access_stopped, accessed, err_is}
use Rattle.hv_serve.proofs.Tracing.{gained_one, traced_none, traced_one}
use Rattle.hv_serve.proofs.traced.act_traced.Goals as goal

pub returns-in-Ok-clause-acted : goal.returns-in-Ok-clause-acted
returns-in-Ok-clause-acted c =
    accessed c.args.by c.args.action c.in-Ok.field-0 4294967295 c.args.kept.now c.take_event.new.kept (omega arith) c.in-ReadMsr.is
    (gained_one c.args.by c.args.action c.in-Ok.field-0 c.args.kept.now c.take_event.new.kept c.clear.new.self c.take_event.new.trace c.clear.ensures c.in-Ok.ensures.taken) c.in-Ok.ensures.run

pub returns-in-Ok-clause-traced : goal.returns-in-Ok-clause-traced
returns-in-Ok-clause-traced c =
    traced_one c.args.by c.args.action c.in-Ok.field-0 c.args.kept.now c.take_event.new.kept c.clear.new.self c.take_event.new.trace c.clear.ensures c.in-Ok.ensures.taken

pub returns-clause-acted : goal.returns-clause-acted
returns-clause-acted c =
    access_stopped c.args.by c.args.action c.in-Err.why 4294967295 c.args.kept.now c.take_event.new.kept (omega arith) c.in-Err.ensures.refused
    (subst (λ (k : Kept Global). (c.in-Err.why ≡ HistoryFull) ↔ (length k.history ≡ k.limit)) (sym c.in-Err.ensures.refused)
    (err_is c.in-Err.why (length c.args.kept.now.history ≡ c.args.kept.now.limit) c.in-Err.ensures.full))
    c.in-Err.ensures.run

pub returns-clause-traced : goal.returns-clause-traced
returns-clause-traced c =
    traced_none c.args.kept.now c.take_event.new.kept c.clear.new.self c.take_event.new.trace c.in-Err.ensures.refused c.in-Err.ensures.still c.clear.ensures
