use Rattle.std.proofs.Common.{Bool, Err, IfErr, Ok, Result, subst}
use Rattle.std.proofs.KnownBytes.{Keeps-refl}
use Rattle.std.proofs.lemmas.Result.{err_from_is_err_and, on_ok_weaker}
use Rattle.hv_run.specs.Failure.{exit_of}
use Rattle.hv_serve.specs.Turned.{HasTurned}
use Rattle.hv_serve.proofs.SessionSteps.{served_all, served_end, served_failed, served_none, served_so_far, serving_next, serving_none}
use Rattle.hv_serve.proofs.session.serve_lines.Goals as goal

pub loop-number-init : goal.loop-number-init
loop-number-init g c = serving_none c.args.form c.args.names _ _

pub loop-number-preserved : goal.loop-number-preserved
loop-number-preserved g c =
    let is = c.loop-number.invariant in
    let number = c.loop-number.number in
    let bench = c.serve_line.new.bench in
    let mid = g.R.Read.remaining c.loop-number.reader in
    let rest = g.R.Read.remaining c.serve_line.new.reader in
    let between = g.W.Write.contents c.loop-number.out in
    let new = g.W.Write.contents c.serve_line.new.out in
    serving_next c.args.form c.args.names number c.loop-number.bench (g.R.Read.remaining c.args.reader.now) mid (g.W.Write.contents c.put_greeting.new.out) between is rest new bench
    (subst (λ (last : Bool). HasTurned c.args.form c.args.names number is.now last bench mid rest between new) c.if-branch.false (c.in_ok-serve_line.ensures.turned is.now is.stands))

pub returns-then-branch-clause-served : goal.returns-then-branch-clause-served
returns-then-branch-clause-served g c =
    let is = c.loop-number.invariant in
    let number = c.loop-number.number in
    let bench = c.serve_line.new.bench in
    let mid = g.R.Read.remaining c.loop-number.reader in
    let rest = g.R.Read.remaining c.serve_line.new.reader in
    let between = g.W.Write.contents c.loop-number.out in
    let new = g.W.Write.contents c.serve_line.new.out in
    on_ok_weaker c.put_end.result
    (served_all c.args.form c.args.names number c.loop-number.bench (g.R.Read.remaining c.args.reader.now) mid (g.W.Write.contents c.put_greeting.new.out) between is rest new bench
    (g.W.Write.contents c.args.out.now) (g.W.Write.contents c.put_end.new.out) c.in_ok-put_greeting.ensures.told
    (subst (λ (last : Bool). HasTurned c.args.form c.args.names number is.now last bench mid rest between new) c.if-branch.true (c.in_ok-serve_line.ensures.turned is.now is.stands)))
    c.put_end.ensures.told

-- what follows for an error
err_then : {T E : Type 0} (r : Result T E) (P Q : E → Type 0) → IfErr r P → ((e : E) → P e → Q e) → IfErr r Q
err_then (Ok value) P Q is then = tt
err_then (Err error) P Q is then = then error is

pub returns-in_err-put_greeting-clause-failed : goal.returns-in_err-put_greeting-clause-failed
returns-in_err-put_greeting-clause-failed g c =
    let p = err_from_is_err_and c.from_residual.result c.from_residual.ensures.1 in
    rw (p.1, p.2) (served_none c.args.form c.args.names _ (g.R.Read.remaining c.args.reader.now) _ _ c.put_greeting.ensures.part)

pub returns-in_err-serve_line-clause-failed : goal.returns-in_err-serve_line-clause-failed
returns-in_err-serve_line-clause-failed g c =
    let p = err_from_is_err_and c.from_residual-in_err-serve_line.result c.from_residual-in_err-serve_line.ensures.1 in
    let is = c.loop-number.invariant in
    rw (p.1, p.2)
    (served_failed c.args.form c.args.names c.loop-number.number c.loop-number.bench (g.R.Read.remaining c.args.reader.now) (g.R.Read.remaining c.loop-number.reader)
    (g.W.Write.contents c.put_greeting.new.out) (g.W.Write.contents c.loop-number.out) is _ (g.W.Write.contents c.args.out.now) (g.W.Write.contents c.serve_line.new.out)
    c.in_ok-put_greeting.ensures.told (c.in_err-serve_line.ensures.failed is.now is.stands))

pub returns-then-branch-clause-failed : goal.returns-then-branch-clause-failed
returns-then-branch-clause-failed g c =
    let is = c.loop-number.invariant in
    let number = c.loop-number.number in
    let bench = c.serve_line.new.bench in
    let mid = g.R.Read.remaining c.loop-number.reader in
    let rest = g.R.Read.remaining c.serve_line.new.reader in
    let between = g.W.Write.contents c.loop-number.out in
    let new = g.W.Write.contents c.serve_line.new.out in
    let turned = subst (λ (last : Bool). HasTurned c.args.form c.args.names number is.now last bench mid rest between new) c.if-branch.true (c.in_ok-serve_line.ensures.turned is.now is.stands) in
    err_then c.put_end.result _ _ c.put_end.ensures.host (λ failure host.
    served_end c.args.form c.args.names number c.loop-number.bench (g.R.Read.remaining c.args.reader.now) mid (g.W.Write.contents c.put_greeting.new.out) between is rest new bench (exit_of failure)
    (g.W.Write.contents c.args.out.now) (g.W.Write.contents c.put_end.new.out) host c.in_ok-put_greeting.ensures.told turned c.put_end.ensures.part)

pub returns-clause-failed : goal.returns-clause-failed
returns-clause-failed g c =
    let is = c.loop-number.invariant in
    served_so_far c.args.form c.args.names c.loop-number.number c.loop-number.bench (g.R.Read.remaining c.args.reader.now) (g.R.Read.remaining c.loop-number.reader)
    (g.W.Write.contents c.put_greeting.new.out) (g.W.Write.contents c.loop-number.out) is _ (g.W.Write.contents c.args.out.now) (g.W.Write.contents c.loop-number.out)
    c.in_ok-put_greeting.ensures.told (Keeps-refl (g.W.Write.contents c.loop-number.out))
