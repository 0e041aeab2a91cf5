use Rattle.std.proofs.Common.{ℕ, ◌+◌, ◌++◌, refl, sym, ap, ◌∙◌, codes, Global}
use Rattle.hv_check.proofs.AfterLine.{one_more, taken}
use Rattle.hv_explain.proofs.BrokenOff.{cut_next}
use Rattle.hv_explain.proofs.WrittenLines.{told_one}
use Rattle.hv_explain.proofs.follow.follow_event.Goals as goal
use Rattle.hv_explain.specs.Written.{entry_of}
use Rattle.hv_history.specs.declared.entry.Entry.{Entry}
use Rattle.hv_text.specs.Audit.{entry_text}

pub returns-in-Ok-told-clause-followed : goal.returns-in-Ok-told-clause-followed
returns-in-Ok-told-clause-followed g c =
    let e : Entry Global = entry_of c.args.by c.in-Some.action.now c.in_ok-reply.reply in
    let old = c.args.kept.now in
    let new = c.take_event.new.kept in
    let happened = c.in_ok-reply.ensures.happened in
    record {
      entry = e;
      run = c.in_ok-reply.ensures.run;
      told = told_one g.T.Teller.tells c.args.by c.in-Some.action.now c.in_ok-reply.reply c.in_ok-reply.effect old new _ _ _ happened refl c.in-Ok-told.ensures.told;
      next = λ lines stands.
          taken c.begin.new.self c.go_on.new.self e
          (record { asked = sym c.in-Some.ensures; goes = c.in_ok-reply.ensures.next; own = c.go_on.ensures.own; others = c.go_on.ensures.others; later = c.go_on.ensures.later }) lines
          (c.in-Ok.ensures.lines lines stands);
      line =
          c.in-Some-behind_last.ensures old.history e happened.gained.history
          ∙ ap (λ (n : ℕ). entry_text n e ++ (codes "\n" ++ c.in-Some-behind_last.rest.now)) (one_more old new e happened.gained.history);
    }

pub returns-in-Err-clause-cut : goal.returns-in-Err-clause-cut
returns-in-Err-clause-cut g c =
    let e : Entry Global = entry_of c.args.by c.in-Some.action.now c.in_ok-reply.reply in
    let old = c.args.kept.now in
    let new = c.take_event.new.kept in
    let happened = c.in_ok-reply.ensures.happened in
    cut_next g.T.Teller.tells c.args.by c.in-Some.action.now c.in-Err.failure c.in_ok-reply.reply c.in_ok-reply.effect old new c.args.schedule.now c.go_on.new.self c.args.text.now
    c.in-Some-behind_last.rest.now _ _ happened c.in_ok-reply.ensures.run c.in-Err.ensures.cut
    (λ lines stands.
    taken c.begin.new.self c.go_on.new.self e
    (record { asked = sym c.in-Some.ensures; goes = c.in_ok-reply.ensures.next; own = c.go_on.ensures.own; others = c.go_on.ensures.others; later = c.go_on.ensures.later }) lines
    (c.in-Ok.ensures.lines lines stands))
    (c.in-Some-behind_last.ensures old.history e happened.gained.history
    ∙ ap (λ (n : ℕ). entry_text n e ++ (codes "\n" ++ c.in-Some-behind_last.rest.now)) (one_more old new e happened.gained.history))
