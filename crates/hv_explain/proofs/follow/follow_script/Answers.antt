use Rattle.std.proofs.Common.{◌≡◌, ℕ, length, true, ap, ◌∙◌, inl, refl, subst}
use Rattle.std.proofs.KnownBytes.{Keeps-refl}
use Rattle.std.proofs.lemmas.Result.{err_from_is_err_and}
use Rattle.hv_check.specs.Legal.{IsEnd}
use Rattle.hv_explain.proofs.BrokenOff.{until_none}
use Rattle.hv_explain.proofs.Following.{followed, followed_cut, followed_so_far, so_far_more, so_far_none}
use Rattle.hv_explain.proofs.follow.follow_script.Goals as goal
use Rattle.hv_script.specs.Reading.{said}

pub loop-by-init : goal.loop-by-init
loop-by-init g c =
    so_far_none g.T.Teller.tells (said c.args.script) c.args.audit.now c.in-Ok.kept _ c.in-Ok.ensures.history c.new-schedule.result c.in-Ok.ensures.run (c.new-schedule.ensures c.requires)

pub loop-by-preserved : goal.loop-by-preserved
loop-by-preserved g c =
    so_far_more g.T.Teller.tells (said c.args.script) c.args.audit.now c.in-Ok.kept _ c.in-Ok.ensures.history c.loop-by.kept _ c.loop-by.schedule _ _ _ _ _ c.loop-by.invariant
    c.in_ok-left.ensures.followed

pub returns-in-Ok-flush-clause-told : goal.returns-in-Ok-flush-clause-told
returns-in-Ok-flush-clause-told g c =
    let count : c.len.result ≡ length c.loop-by.kept.history = c.len.ensures ∙ ap length c.history.ensures.list in
    followed g.T.Teller.tells (said c.args.script) c.args.audit.now c.in-Ok.kept _ c.in-Ok.ensures.history c.loop-by.kept c.loop-by.schedule _ _ _ c.in-Ok.ensures.config c.in-Ok.ensures.limit
    c.loop-by.invariant
    (subst (λ (n : ℕ). IsEnd true n c.loop-by.left.now) count (c.is_end.ensures c.if-not-is_end.false)) c.in-Ok-flush.ensures.bytes

pub returns-in-Err-clause-failed : goal.returns-in-Err-clause-failed
returns-in-Err-clause-failed g c = until_none _ _ _ _ (inl refl) (Keeps-refl _)

pub returns-in_err-left-clause-failed : goal.returns-in_err-left-clause-failed
returns-in_err-left-clause-failed g c =
    let p = err_from_is_err_and c.from_residual.result c.from_residual.ensures.1 in
    rw (p.1, p.2)
    (followed_cut g.T.Teller.tells (said c.args.script) c.args.audit.now c.in-Ok.kept _ c.in-Ok.ensures.history _ c.loop-by.kept _ c.loop-by.schedule _ _ _ _ c.in-Ok.ensures.config
    c.in-Ok.ensures.limit c.loop-by.invariant c.in_err-left.ensures.cut)

pub returns-then-not-is_end-clause-failed : goal.returns-then-not-is_end-clause-failed
returns-then-not-is_end-clause-failed g c =
    followed_so_far g.T.Teller.tells (said c.args.script) c.args.audit.now c.in-Ok.kept _ c.in-Ok.ensures.history _ c.loop-by.kept c.loop-by.schedule _ _ _ c.in-Ok.ensures.config c.in-Ok.ensures.limit
    c.loop-by.invariant (Keeps-refl _)

pub returns-clause-failed : goal.returns-clause-failed
returns-clause-failed g c =
    followed_so_far g.T.Teller.tells (said c.args.script) c.args.audit.now c.in-Ok.kept _ c.in-Ok.ensures.history _ c.loop-by.kept c.loop-by.schedule _ _ _ c.in-Ok.ensures.config c.in-Ok.ensures.limit
    c.loop-by.invariant c.flush.ensures.bytes
