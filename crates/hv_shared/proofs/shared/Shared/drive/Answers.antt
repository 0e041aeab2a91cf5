use Rattle.std.proofs.Common.{◌≡◌, ◌≤◌, ◌+◌, ◌-◌, ◌∙◌, ap, sym, subst, refl, arith, IfNone, IfSome, Option, Global}
use Rattle.std.proofs.lemmas.Result.{IfErr-at_err, IfOk-at_ok}
use Rattle.hv_abi.specs.declared.frame.Frame.{Frame}
use Rattle.hv_history.specs.Run.{IsMore, restart}
use Rattle.hv_policy.specs.Result.{result_of}
use Rattle.hv_shared.specs.Copies.{elements_in}
use Rattle.hv_shared.proofs.Driving.{driven, fits, goes_far, goes_on, nearer, stopped}
use Rattle.hv_shared.proofs.shared.Shared.drive.Goals as goal

pub returns-in-Err-clause-refused : goal.returns-in-Err-clause-refused
returns-in-Err-clause-refused g c =
    let run = IfErr-at_err _ c.in-Err.is c.hold_run-events.ensures.stopped in
    stopped c.loop-copies.invariant c.prepare.ensures.same c.read-start.ensures c.hold_run-events.ensures.held run

pub restarted-last-requires : goal.restarted-last-requires
restarted-last-requires g c =
    let run = IfOk-at_ok _ c.in-Ok-last.is c.hold_run-events.ensures.ran in
    fits c.loop-copies.invariant c.prepare.ensures.same c.read-start.ensures c.hold_run-events.ensures.held run

pub returns-in_default-next_of-clause-driven : goal.returns-in_default-next_of-clause-driven
returns-in_default-next_of-clause-driven g c =
    let run = IfOk-at_ok _ c.in-Ok-last.is c.hold_run-events.ensures.ran in
    let parts = c.parts-answer in
    let output = parts.result.1.now in
    let last = restart c.loop-copies.frame (c.read-start.result.start + c.hold_run-events.result.events - 1) in
    driven c.loop-copies.invariant c.prepare.ensures.same c.read-start.ensures c.hold_run-events.ensures.held run {last = last} refl
    (λ more. c.in_default-next_of.ensures.none output (subst IsMore (sym parts.ensures.reply) more))
    (c.result_value.ensures last output (sym c.restarted-last.ensures) ∙ ap (result_of last) parts.ensures.reply)

pub unreachable-requires : goal.unreachable-requires
unreachable-requires g c =
    let run = IfOk-at_ok _ c.in-Ok-last.is c.hold_run-events.ensures.ran in
    let parts = c.parts-answer in
    let few = subst (λ (o : Option (Frame Global)). IfNone o (elements_in c.loop-copies.frame.rcx 4095 ≤ 16)) c.in_default-left.is c.in-Ok.ensures.last in
    goes_far c.loop-copies.invariant c.prepare.ensures.same c.read-start.ensures c.hold_run-events.ensures.held run
    (sym parts.ensures.reply ∙ c.in-Some.ensures.some parts.result.1.now) 4095 c.hold_run-events.ensures.run (omega arith) few

pub loop-copies-smaller : goal.loop-copies-smaller
loop-copies-smaller g c =
    let run = IfOk-at_ok _ c.in-Ok-last.is c.hold_run-events.ensures.ran in
    let parts = c.parts-answer in
    let left = subst (λ (o : Option (Frame Global)). IfSome o (λ f. f ≡ c.loop-copies.frame)) c.in-Some-left.is c.in-Ok.ensures.left in
    let further =
    nearer c.loop-copies.invariant c.prepare.ensures.same c.read-start.ensures c.hold_run-events.ensures.held run
    (sym parts.ensures.reply ∙ c.in-Some.ensures.some parts.result.1.now)
    (c.with_start-frame.ensures.frame ∙ ap (λ (f : Frame Global). restart f c.in-Some.next) left) in
    omega (arith, further)

pub loop-copies-preserved : goal.loop-copies-preserved
loop-copies-preserved g c =
    let run = IfOk-at_ok _ c.in-Ok-last.is c.hold_run-events.ensures.ran in
    let parts = c.parts-answer in
    let left = subst (λ (o : Option (Frame Global)). IfSome o (λ f. f ≡ c.loop-copies.frame)) c.in-Some-left.is c.in-Ok.ensures.left in
    goes_on c.loop-copies.invariant c.prepare.ensures.same c.read-start.ensures c.hold_run-events.ensures.held run
    (sym parts.ensures.reply ∙ c.in-Some.ensures.some parts.result.1.now)
    (c.with_start-frame.ensures.frame ∙ ap (λ (f : Frame Global). restart f c.in-Some.next) left)
