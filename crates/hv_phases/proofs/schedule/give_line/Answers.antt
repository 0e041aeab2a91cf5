use Rattle.std.proofs.Common.{◌≡◌, List, [], ◌∷◌, ◌++◌, sym, ap, ◌∙◌, subst}
use Rattle.hv_phases.specs.declared.turn.Turn.{Turn}
use Rattle.hv_phases.specs.Turns.{AreNew, IsLast, todo, todo_of}
use Rattle.std.proofs.lemmas.Result.{on_ok_weaker}
use Rattle.std.proofs.lemmas.List.Elements.{All-head, All-push, All-set}
use Rattle.hv_phases.proofs.LinesByPhase.{All-right}
use Rattle.hv_phases.proofs.TurnsLeft.{last_more, last_turn, turn_more}
use Rattle.hv_phases.proofs.schedule.give_line.Goals as goal

pub returns-in-Some-clause-asked : goal.returns-in-Some-clause-asked
returns-in-Some-clause-asked c =
    let items = c.args.turns.now.items in
    let at : IsLast c.args.line.by items c.in-Some.at = subst (λ (l : List Turn). IsLast c.args.line.by l c.in-Some.at) c.deref.ensures.value c.in-Some.ensures in
    let is : c.index_mut.result.now ≡ at.turn = c.index_mut.ensures.value ∙ last_turn c.args.line.by items c.in-Some.at at c.index_mut.result.now in
    on_ok_weaker c.add_action.result
    (λ more by.
    last_more c.args.line items c.in-Some.at at c.add_action.new.turn (c.add_action.ensures.by ∙ ap (λ (t : Turn). t.by) is)
    (more ∙ ap (λ (t : Turn). todo t ++ c.args.line.action ∷ []) is) by)
    c.add_action.ensures.todo

pub returns-in_ok-push-in-None-clause-asked : goal.returns-in_ok-push-in-None-clause-asked
returns-in_ok-push-in-None-clause-asked c by =
    let turn = c.in_ok-turn-in-None.turn in
    ap (todo_of by) c.in_ok-push-in-None.ensures.items ∙ turn_more c.args.line c.args.turns.now.items turn c.in_ok-turn-in-None.ensures.by c.in_ok-turn-in-None.ensures.todo by

pub returns-in-Some-clause-new : goal.returns-in-Some-clause-new
returns-in-Some-clause-new c are_new =
    let items = c.args.turns.now.items in
    let at : IsLast c.args.line.by items c.in-Some.at = subst (λ (l : List Turn). IsLast c.args.line.by l c.in-Some.at) c.deref.ensures.value c.in-Some.ensures in
    let is : c.index_mut.result.now ≡ at.turn = c.index_mut.ensures.value ∙ last_turn c.args.line.by items c.in-Some.at at c.index_mut.result.now in
    let old : at.turn.done ≡ 0 = All-head (λ (t : Turn). t.done ≡ 0) at.turn at.after
    (All-right (λ (t : Turn). t.done ≡ 0) at.before (at.turn ∷ at.after) (subst AreNew at.all are_new)) in
    on_ok_weaker c.add_action.result
    (λ more. All-set (λ (t : Turn). t.done ≡ 0) items c.in-Some.at c.add_action.new.turn (c.add_action.ensures.done ∙ ap (λ (t : Turn). t.done) is ∙ old) are_new)
    c.add_action.ensures.todo

pub returns-in_ok-push-in-None-clause-new : goal.returns-in_ok-push-in-None-clause-new
returns-in_ok-push-in-None-clause-new c are_new =
    subst AreNew (sym c.in_ok-push-in-None.ensures.items)
    (All-push (λ (t : Turn). t.done ≡ 0) c.args.turns.now.items c.in_ok-turn-in-None.turn are_new c.in_ok-turn-in-None.ensures.done)
