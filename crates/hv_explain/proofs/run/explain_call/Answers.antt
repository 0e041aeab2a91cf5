use Rattle.std.proofs.KnownBytes.{Keeps-refl}
use Rattle.std.proofs.Common.{◌≡◌, ◌+◌, ◌<◌, ℕ, arith, length, subst, Option}
use Rattle.hv_explain.specs.Written.{HasWrittenElement}
use Rattle.hv_explain.proofs.AskedActions.{begun_ends, begun_more, begun_none, begun_stops, more_count}
use Rattle.hv_explain.proofs.BrokenOff.{cut_element, none_cut}
use Rattle.hv_explain.proofs.run.explain_call.Goals as goal

pub loop-next-init : goal.loop-next-init
loop-next-init g c =
    (begun_none g.T.Teller.tells c.args.by c.args.kept.now (g.W.Write.contents c.args.out.now) c.args.frame.now c.in-Ok.now c.in-Ok.ensures, omega arith, c.requires, c.history-history.ensures.run)

pub returns-in-Ok-None-clause-told : goal.returns-in-Ok-None-clause-told
returns-in-Ok-None-clause-told g c =
    let was = c.loop-next.invariant in
    begun_ends g.T.Teller.tells c.args.by c.args.kept.now _ c.args.frame.now c.loop-next.now c.args.most c.loop-next.kept c.explain_element.new.kept _ _ was.0
    (subst (λ (o : Option ℕ). HasWrittenElement g.T.Teller.tells c.args.by c.loop-next.now o c.loop-next.kept c.explain_element.new.kept (g.W.Write.contents c.loop-next.out)
    (g.W.Write.contents c.explain_element.new.out))
    c.in-Ok-None.field-0-is c.in-Ok-None.ensures.told)
    (let count = was.1 in let some = was.2 in omega (arith, count, some)) c.in-Ok-None.ensures.run

pub returns-then-left-eq0-clause-told : goal.returns-then-left-eq0-clause-told
returns-then-left-eq0-clause-told g c =
    let was = c.loop-next.invariant in
    let next = c.in-Ok-Some.next in
    let told = subst (λ (o : Option ℕ). HasWrittenElement g.T.Teller.tells c.args.by c.loop-next.now o c.loop-next.kept c.explain_element.new.kept (g.W.Write.contents c.loop-next.out)
    (g.W.Write.contents c.explain_element.new.out))
    c.in-Ok-Some.field-0-is c.in-Ok-Some.ensures.told in
    let begun = begun_more g.T.Teller.tells c.args.by c.args.kept.now (g.W.Write.contents c.args.out.now) c.args.frame.now c.loop-next.now c.with_start-now.result next c.loop-next.kept
    c.explain_element.new.kept _ _ was.0 told c.with_start-now.ensures.frame in
    let count = more_count g.T.Teller.tells c.args.by c.args.kept.now (g.W.Write.contents c.args.out.now) c.args.frame.now c.loop-next.now c.with_start-now.result next c.loop-next.kept
    c.explain_element.new.kept _ _ was.0 told c.with_start-now.ensures.frame in
    begun_stops g.T.Teller.tells c.args.by c.args.kept.now (g.W.Write.contents c.args.out.now) c.args.frame.now c.with_start-now.result c.args.most c.explain_element.new.kept _ begun
    (let all = was.1 in let some = was.2 in omega (arith, count, all, some, c.if-left-eq0.true)) c.in-Ok-Some.ensures.run

pub loop-next-preserved : goal.loop-next-preserved
loop-next-preserved g c =
    let was = c.loop-next.invariant in
    let next = c.in-Ok-Some.next in
    let told = subst (λ (o : Option ℕ). HasWrittenElement g.T.Teller.tells c.args.by c.loop-next.now o c.loop-next.kept c.explain_element.new.kept (g.W.Write.contents c.loop-next.out)
    (g.W.Write.contents c.explain_element.new.out))
    c.in-Ok-Some.field-0-is c.in-Ok-Some.ensures.told in
    let count = more_count g.T.Teller.tells c.args.by c.args.kept.now (g.W.Write.contents c.args.out.now) c.args.frame.now c.loop-next.now c.with_start-now.result next c.loop-next.kept
    c.explain_element.new.kept _ _ was.0 told c.with_start-now.ensures.frame in (
      begun_more g.T.Teller.tells c.args.by c.args.kept.now (g.W.Write.contents c.args.out.now) c.args.frame.now c.loop-next.now c.with_start-now.result next c.loop-next.kept
          c.explain_element.new.kept _ _ was.0 told c.with_start-now.ensures.frame,
      (let all = was.1 in let some = was.2 in omega (arith, count, all, some, c.if-left-eq0.false)),
      (let some = was.2 in omega (arith, some, c.if-left-eq0.false)),
      c.in-Ok-Some.ensures.run,
    )

pub returns-in_default-clause-cut : goal.returns-in_default-clause-cut
returns-in_default-clause-cut g c = none_cut g.T.Teller.tells c.args.by _ _ c.args.kept.now _ _ c.history-history.ensures.run (Keeps-refl _)

pub returns-in-Err-clause-cut : goal.returns-in-Err-clause-cut
returns-in-Err-clause-cut g c =
    let was = c.loop-next.invariant in
    cut_element g.T.Teller.tells c.args.by c.args.frame.now c.loop-next.now c.in-Err.failure c.args.kept.now c.loop-next.kept c.explain_element.new.kept _ _ _ was.0 was.3 c.explain_element.ensures.run
    c.in-Err.ensures.cut
