use Rattle.std.proofs.Common.{◌≡◌, length, subst, sym, ◌↔◌, Global}
use Rattle.std.proofs.lemmas.Result.{IfErr-at_err, IfOk-at_ok}
use Rattle.hv_history.specs.Kept.{Kept}
use Rattle.hv_history.specs.Run.{HasRun, HasStopped}
use Rattle.hv_history.specs.declared.kept.HostRefused.TheVariants.{HistoryFull}
use Rattle.hv_threads.proofs.ActOutcomes.{access_stopped, accessed, call_stopped, driven, err_is}
use Rattle.hv_threads.proofs.action.act.Goals as goal

pub returns-in-Ok : goal.returns-in-Ok
returns-in-Ok c =
    let ran = c.apply_run.result in
    driven c.args.by c.in-Hypercall.frame c.in-Ok.field-0 ran.events c.args.most c.args.kept.now c.apply_run.new.kept
    (IfOk-at_ok (λ reply. HasRun c.args.by c.in-Hypercall.frame reply ran.events c.args.most c.args.kept.now c.apply_run.new.kept) c.in-Ok.is c.apply_run.ensures.ran)
    c.apply_run.ensures.run c.args.action c.in-Hypercall.is

pub returns-in-Err : goal.returns-in-Err
returns-in-Err c =
    let ran = c.apply_run.result in
    call_stopped c.args.by c.in-Hypercall.frame c.args.action c.in-Err.why ran.events c.args.most c.args.kept.now c.apply_run.new.kept c.in-Hypercall.is
    (IfErr-at_err (λ _. HasStopped c.args.by c.in-Hypercall.frame ran.events c.args.most c.args.kept.now c.apply_run.new.kept) c.in-Err.is c.apply_run.ensures.stopped)
    (IfErr-at_err (λ why. (why ≡ HistoryFull) ↔ (length c.apply_run.new.kept.history ≡ c.apply_run.new.kept.limit)) c.in-Err.is c.apply_run.ensures.full)
    c.apply_run.ensures.run

pub returns-in-Ok-apply : goal.returns-in-Ok-apply
returns-in-Ok-apply c =
    accessed c.args.by c.args.action c.in-Ok-apply.field-0.1 c.args.most c.args.kept.now c.apply.new.kept c.requires c.in-ReadMsr.is c.in-Ok-apply.ensures.applied c.in-Ok-apply.ensures.run

pub returns-in-Err-apply : goal.returns-in-Err-apply
returns-in-Err-apply c =
    access_stopped c.args.by c.args.action c.in-Err-apply.why c.args.most c.args.kept.now c.apply.new.kept c.requires c.in-Err-apply.ensures.refused
    (subst (λ (k : Kept Global). (c.in-Err-apply.why ≡ HistoryFull) ↔ (length k.history ≡ k.limit)) (sym c.in-Err-apply.ensures.refused)
    (err_is c.in-Err-apply.why (length c.args.kept.now.history ≡ c.args.kept.now.limit) c.in-Err-apply.ensures.full))
    c.in-Err-apply.ensures.run
