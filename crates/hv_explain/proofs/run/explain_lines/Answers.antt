use Rattle.std.proofs.Common.{◌≡◌, ◌∙◌, ◌+◌, ◌<◌, ℕ, List, [], ◌∷◌, Option, add-one, ap, arith, drop, get_or, length, subst, sym, Global}
use Rattle.std.proofs.Math.Seq.{drop-cons}
use Rattle.std.proofs.lemmas.List.{drop_all}
use Rattle.std.proofs.lemmas.Result.{err_from_is_err_and}
use Rattle.hv_explain.proofs.BrokenOff.{lines_cut}
use Rattle.hv_explain.proofs.Lines.{told_ends, told_first, told_more, told_stops}
use Rattle.hv_explain.proofs.RunLines.{AreMost}
use Rattle.hv_explain.proofs.run.explain_lines.Goals as goal
use Rattle.hv_script.specs.declared.line.Line.{Line}

-- the lines from a place on begin with the line there
front : (lines : List (Line Global)) (place : ℕ) (line : Line Global) → place < length lines → line ≡ get_or lines place line → drop place lines ≡ line ∷ drop (place + 1) lines
front lines place line less is = drop-cons lines place line less ∙ (λ j. sym is j ∷ drop (sym (add-one place) j) lines)

room_of : (at : Option ℕ) {before now most : ℕ} → before ≡ now → AreMost at before most → AreMost at now most
room_of at {before} {now} {most} same room = subst (λ (n : ℕ). AreMost at n most) same room

pub loop-place-init : goal.loop-place-init
loop-place-init g c = record {
  so_far = told_first g.T.Teller.tells c.args.at c.args.lines.now c.args.kept.now (g.W.Write.contents c.args.out.now) c.requires;
  run = c.history-history.ensures.run;
}

pub loop-place-preserved : goal.loop-place-preserved
loop-place-preserved g c =
    let lines : List (Line Global) = c.args.lines.now in
    let line : Line Global = c.index-lines-place.result in
    let place = c.loop-place.place in
    let is : drop place lines ≡ line ∷ drop (place + 1) lines = front lines place line c.loop-place-test.true c.index-lines-place.is in
    let room = room_of c.args.at (c.len.ensures ∙ ap length c.history.ensures.list) (record { none = c.events_to-most.ensures.none; some = c.events_to-most.ensures.some }) in
    record {
      so_far = told_more g.T.Teller.tells c.args.at lines c.args.kept.now (g.W.Write.contents c.args.out.now) (drop place lines) (drop (place + 1) lines) line c.events_to-most.result c.loop-place.kept
          c.explain_line.new.kept _ _ is room (omega (arith, c.if-most-eq0.false)) c.loop-place.invariant.so_far c.in_ok-explain_line.ensures.told;
      run = c.in_ok-explain_line.ensures.run;
    }

pub returns-then-most-eq0-clause-told : goal.returns-then-most-eq0-clause-told
returns-then-most-eq0-clause-told g c =
    let room = room_of c.args.at (c.len.ensures ∙ ap length c.history.ensures.list) (record { none = c.events_to-most.ensures.none; some = c.events_to-most.ensures.some }) in
    told_stops g.T.Teller.tells c.args.at c.args.lines.now c.args.kept.now (g.W.Write.contents c.args.out.now) (drop c.loop-place.place c.args.lines.now) c.events_to-most.result
    c.loop-place.kept _ room c.if-most-eq0.true c.loop-place.invariant.so_far

pub returns-clause-told : goal.returns-clause-told
returns-clause-told g c =
    told_ends g.T.Teller.tells c.args.at c.args.lines.now c.args.kept.now (g.W.Write.contents c.args.out.now) (drop c.loop-place.place c.args.lines.now) c.loop-place.kept _
    (drop_all c.loop-place.place c.args.lines.now (omega (arith, c.loop-place-test.false))) c.loop-place.invariant.so_far

pub returns-in_err-explain_line-clause-failed : goal.returns-in_err-explain_line-clause-failed
returns-in_err-explain_line-clause-failed g c =
    let lines : List (Line Global) = c.args.lines.now in
    let line : Line Global = c.index-lines-place.result in
    let place = c.loop-place.place in
    let is : drop place lines ≡ line ∷ drop (place + 1) lines = front lines place line c.loop-place-test.true c.index-lines-place.is in
    let room = room_of c.args.at (c.len.ensures ∙ ap length c.history.ensures.list) (record { none = c.events_to-most.ensures.none; some = c.events_to-most.ensures.some }) in
    let p = err_from_is_err_and c.from_residual.result c.from_residual.ensures.1 in
    rw (p.1, p.2)
    (lines_cut g.T.Teller.tells c.args.at lines (drop place lines) (drop (place + 1) lines) line _ c.args.kept.now c.loop-place.kept c.events_to-most.result _ _ _ c.requires is room
    (omega (arith, c.if-most-eq0.false)) c.loop-place.invariant.so_far c.in_err-explain_line.ensures.cut)
