use Rattle.std.proofs.Common.{◌≡◌, ◌↔◌, ℕ, List, Option, length, refl, subst, sym, Global}
use Rattle.hv_history.specs.Kept.{Kept}
use Rattle.hv_history.specs.declared.kept.HostRefused.TheVariants.{HistoryFull}
use Rattle.hv_threads.proofs.ActOutcomes.{err_is}
use Rattle.hv_serve.proofs.Tracing.{call_ended, stopped, traced_so_far, tracing_more, tracing_none}
use Rattle.hv_serve.specs.Traced.{HasTakenElement}
use Rattle.hv_serve.proofs.traced.run_call.Goals as goal

pub loop-next-init : goal.loop-next-init
loop-next-init c = (tracing_none c.args.by c.args.kept.now c.args.frame c.args.frame c.args.trace.now refl c.requires, c.history-history.ensures.run)

pub loop-next-preserved : goal.loop-next-preserved
loop-next-preserved c =
    let was = c.loop-next.invariant in (
      tracing_more c.args.by c.args.kept.now c.loop-next.kept c.take_element.new.kept c.args.frame c.loop-next.now c.with_start-now.result c.in-Ok-Some.next c.loop-next.trace
          c.take_element.new.trace was.0
          (λ objects holds. subst (λ (o : Option ℕ). HasTakenElement c.args.by c.loop-next.now o objects c.loop-next.kept c.take_element.new.kept c.take_element.new.trace)
          c.in-Ok-Some.field-0-is (c.in-Ok-Some.ensures.taken objects holds))
          c.with_start-now.ensures.frame,
      c.in-Ok-Some.ensures.run,
    )

pub returns-in-Ok-None-clause-acted : goal.returns-in-Ok-None-clause-acted
returns-in-Ok-None-clause-acted c =
    let was = c.loop-next.invariant in
    let ended = call_ended c.args.by c.args.kept.now c.loop-next.kept c.take_element.new.kept c.args.frame c.loop-next.now c.loop-next.trace c.take_element.new.trace was.0
    (λ objects holds. subst (λ (o : Option ℕ). HasTakenElement c.args.by c.loop-next.now o objects c.loop-next.kept c.take_element.new.kept c.take_element.new.trace)
    c.in-Ok-None.field-0-is (c.in-Ok-None.ensures.taken objects holds))
    c.in-Ok-None.ensures.run in
    ended.0

pub returns-in-Ok-None-clause-traced : goal.returns-in-Ok-None-clause-traced
returns-in-Ok-None-clause-traced c =
    let was = c.loop-next.invariant in
    let ended = call_ended c.args.by c.args.kept.now c.loop-next.kept c.take_element.new.kept c.args.frame c.loop-next.now c.loop-next.trace c.take_element.new.trace was.0
    (λ objects holds. subst (λ (o : Option ℕ). HasTakenElement c.args.by c.loop-next.now o objects c.loop-next.kept c.take_element.new.kept c.take_element.new.trace)
    c.in-Ok-None.field-0-is (c.in-Ok-None.ensures.taken objects holds))
    c.in-Ok-None.ensures.run in
    ended.1

pub returns-in-Err-clause-acted : goal.returns-in-Err-clause-acted
returns-in-Err-clause-acted c =
    let was = c.loop-next.invariant in
    stopped c.args.by c.args.kept.now c.loop-next.kept c.take_element.new.kept c.args.frame c.loop-next.now c.loop-next.trace c.in-Err.why was.0 c.in-Err.ensures.refused
    (subst (λ (k : Kept Global). (c.in-Err.why ≡ HistoryFull) ↔ (length k.history ≡ k.limit)) (sym c.in-Err.ensures.refused)
    (err_is c.in-Err.why (length c.loop-next.kept.history ≡ c.loop-next.kept.limit) c.in-Err.ensures.full))
    c.in-Err.ensures.run

pub returns-in-Err-clause-traced : goal.returns-in-Err-clause-traced
returns-in-Err-clause-traced c =
    let was = c.loop-next.invariant in
    traced_so_far c.args.by c.args.kept.now c.loop-next.kept c.take_element.new.kept c.args.frame c.loop-next.now c.loop-next.trace c.take_element.new.trace was.0 c.in-Err.ensures.refused
    c.in-Err.ensures.still
