use Rattle.std.proofs.Common.{◌≡◌, ◌∙◌, Bool, List, Option, Some, None, IfNone, IsNone, ap, arith, length, subst, sym}
use Rattle.std.proofs.lemmas.List.{length-map, map-id}
use Rattle.std.proofs.lemmas.Option.{IfSome_then}
use Rattle.std.proofs.lemmas.Slice.Zip.{AllZip-map}
use Rattle.std.specs.List.{AllZip}
use Rattle.hv_policy.specs.declared.event.Caller.{Caller}
use Rattle.hv_phases.proofs.PassesLeft.{none_run, unsettled_of}
use Rattle.hv_phases.proofs.PhasedHistories.{IsGrouped, all_in_order, all_phased, all_run}
use Rattle.hv_phases.proofs.SettledRun.{settled, settled_part}
use Rattle.hv_phases.proofs.run.run_under.Goals as goal
use Rattle.hv_phases.specs.PassMap.{AreCallersOf}
use Rattle.hv_shared.specs.PassValue.{PassValue}
use Rattle.hv_shared.specs.Shared.{AreOpened}

-- what follows where there is no fault
two : {X : Type 0} (o : Option X) (P Q R : Type 0) → (P → Q → R) → IfNone o P → IfNone o Q → IfNone o R
two None P Q R f p q = f p q
two (Some x) P Q R f p q = tt

one : {X : Type 0} (o : Option X) (P Q : Type 0) → (P → Q) → IfNone o P → IfNone o Q
one None P Q f p = f p
one (Some x) P Q f p = tt

-- a copy has the same processors
order_is : (callers order : List Caller) → AllZip (λ by other. other ≡ by) callers order → order ≡ callers
order_is callers order same = AllZip-map (λ (by : Caller). by) callers order same ∙ map-id callers

pub returns-in_default-clause-part : goal.returns-in_default-clause-part
returns-in_default-clause-part g c =
    rw (c.not_begun.ensures.fault, c.not_begun.ensures.kept) (none_run c.args.serial c.args.lines.items c.args.kept.history c.requires.empty)

pub returns-in-Err-clause-part : goal.returns-in-Err-clause-part
returns-in-Err-clause-part g c =
    rw (c.not_begun-in-Err.ensures.fault, c.not_begun-in-Err.ensures.kept, c.in-Err.ensures.back)
    (none_run c.args.serial c.args.lines.items c.args.kept.history c.requires.empty)

pub run_on-progress-requires-clause-callers : goal.run_on-progress-requires-clause-callers
run_on-progress-requires-clause-callers g c κs within =
    let order = c.deref.ensures.value ∙ order_is c.args.callers.items c.in-Ok.order.items c.in-Ok.ensures.cases.0 in
    subst (AreCallersOf c.args.lines.items) (sym order) c.requires.callers

pub run_on-progress-requires-clause-opened : goal.run_on-progress-requires-clause-opened
run_on-progress-requires-clause-opened g c κs within =
    let order = c.deref.ensures.value ∙ order_is c.args.callers.items c.in-Ok.order.items c.in-Ok.ensures.cases.0 in
    subst (λ (callers : List Caller). AreOpened callers c.in-Ok-new.passes.items) (sym order) c.in-Ok-new.ensures.passes

pub returns-in-Ok-new-clause-config : goal.returns-in-Ok-new-clause-config
returns-in-Ok-new-clause-config g c = one c.settle_run.result.fault _ _ (λ made. made.same_config ∙ c.in-Ok-new.ensures.config) c.settle_run.ensures.made

pub returns-in-Ok-new-clause-limit : goal.returns-in-Ok-new-clause-limit
returns-in-Ok-new-clause-limit g c = one c.settle_run.result.fault _ _ (λ made. made.same_limit ∙ c.in-Ok-new.ensures.limit) c.settle_run.ensures.made

pub returns-in-Ok-new-clause-lines : goal.returns-in-Ok-new-clause-lines
returns-in-Ok-new-clause-lines g c = λ none.
    let progress = c.run_on-progress in
    let lines = c.args.lines.items in
    let passes = progress.new.passes.items in
    let order = c.deref.ensures.value ∙ order_is c.args.callers.items c.in-Ok.order.items c.in-Ok.ensures.cases.0 in
    let of = subst (AreCallersOf lines) (sym (progress.ensures.callers ∙ order)) c.requires.callers in
    two c.settle_run.result.fault _ _ _
    (λ is made. all_run c.args.serial lines _ (settled c.args.serial lines passes _ (progress.ensures.whole (subst IsNone c.settle_run.ensures.stop none) is)
    progress.ensures.begun of made.merge))
    c.settle_run.ensures.order c.settle_run.ensures.made

pub returns-in-Ok-new-clause-phases : goal.returns-in-Ok-new-clause-phases
returns-in-Ok-new-clause-phases g c = λ none.
    let progress = c.run_on-progress in
    let lines = c.args.lines.items in
    let passes = progress.new.passes.items in
    let order = c.deref.ensures.value ∙ order_is c.args.callers.items c.in-Ok.order.items c.in-Ok.ensures.cases.0 in
    let of = subst (AreCallersOf lines) (sym (progress.ensures.callers ∙ order)) c.requires.callers in
    two c.settle_run.result.fault _ _ _
    (λ is made. all_phased c.args.serial lines _ (settled c.args.serial lines passes _ (progress.ensures.whole (subst IsNone c.settle_run.ensures.stop none)
    is) progress.ensures.begun of made.merge))
    c.settle_run.ensures.order c.settle_run.ensures.made

pub returns-in-Ok-new-clause-order : goal.returns-in-Ok-new-clause-order
returns-in-Ok-new-clause-order g c = λ serial none.
    let progress = c.run_on-progress in
    let lines = c.args.lines.items in
    let passes = progress.new.passes.items in
    let order = c.deref.ensures.value ∙ order_is c.args.callers.items c.in-Ok.order.items c.in-Ok.ensures.cases.0 in
    let of = subst (AreCallersOf lines) (sym (progress.ensures.callers ∙ order)) c.requires.callers in
    two c.settle_run.result.fault _ _ _
    (λ is made. all_in_order lines _ (subst (λ (s : Bool). IsGrouped s lines c.settle_run.result.kept.history) serial
    (settled c.args.serial lines passes _ (progress.ensures.whole (subst IsNone c.settle_run.ensures.stop none) is) progress.ensures.begun of made.merge)))
    c.settle_run.ensures.order c.settle_run.ensures.made

pub returns-in-Ok-new-clause-part : goal.returns-in-Ok-new-clause-part
returns-in-Ok-new-clause-part g c =
    let progress = c.run_on-progress in
    let lines = c.args.lines.items in
    let order = c.deref.ensures.value ∙ order_is c.args.callers.items c.in-Ok.order.items c.in-Ok.ensures.cases.0 in
    let of = subst (AreCallersOf lines) (sym (progress.ensures.callers ∙ order)) c.requires.callers in
    two c.settle_run.result.fault _ _ _ (λ is made. settled_part c.args.serial lines progress.new.passes.items _ (progress.ensures.part is)
    progress.ensures.begun of made.merge)
    c.settle_run.ensures.order c.settle_run.ensures.made

pub returns-in-Ok-new-clause-unsettled : goal.returns-in-Ok-new-clause-unsettled
returns-in-Ok-new-clause-unsettled g c =
    let progress = c.run_on-progress in
    let lines = c.args.lines.items in
    let passes = progress.new.passes.items in
    let order = c.deref.ensures.value ∙ order_is c.args.callers.items c.in-Ok.order.items c.in-Ok.ensures.cases.0 in
    let callers = progress.ensures.callers ∙ order in
    let many = ap length callers in
    let named = length-map passes (λ (p : PassValue). p.caller) in
    let parts = c.in-Ok-new.ensures.count in
    rw (sym c.in-Ok-new.ensures.config, sym c.in-Ok-new.ensures.limit)
    (IfSome_then c.settle_run.result.fault c.settle_run.ensures.found (λ fault found.
    unsettled_of _ _ lines passes c.settle_run.result.kept fault (callers ∙ c.requires.first) progress.ensures.begun progress.ensures.counted
    (c.settle_run.ensures.count (omega (arith, many, named, parts))) found))
