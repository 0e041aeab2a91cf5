use Rattle.std.proofs.Common.{◌≡◌, List, ap, ◌∙◌, subst}
use Rattle.hv_phases.specs.declared.turn.Turn.{Turn}
use Rattle.hv_phases.specs.Schedule.{after_reply}
use Rattle.hv_phases.specs.Turns.{todo}
use Rattle.hv_phases.specs.Turns.{IsAt}
use Rattle.hv_phases.proofs.TurnsLeft.{at_others, at_reply, at_turn}
use Rattle.hv_phases.proofs.schedule.Schedule.go_on.Goals as goal

pub returns-in-Some-clause-own : goal.returns-in-Some-clause-own
returns-in-Some-clause-own c =
    let items = c.args.self.now.turns.items in
    let at : IsAt c.args.by items c.in-Some.at = subst (λ (l : List Turn). IsAt c.args.by l c.in-Some.at) c.deref.ensures.value c.in-Some.ensures.some in
    let is : c.index_mut.result.now ≡ at.turn = c.index_mut.ensures.value ∙ at_turn c.args.by items c.in-Some.at at c.index_mut.result.now in
    at_reply c.args.by items c.in-Some.at at c.go_on.new.self (c.go_on.ensures.by ∙ ap (λ (t : Turn). t.by) is) c.args.reply.now
    (c.go_on.ensures.todo ∙ ap (λ (t : Turn). after_reply (todo t) c.args.reply.now) is)

pub returns-in-Some-clause-others : goal.returns-in-Some-clause-others
returns-in-Some-clause-others c other apart =
    let items = c.args.self.now.turns.items in
    let at : IsAt c.args.by items c.in-Some.at = subst (λ (l : List Turn). IsAt c.args.by l c.in-Some.at) c.deref.ensures.value c.in-Some.ensures.some in
    let is : c.index_mut.result.now ≡ at.turn = c.index_mut.ensures.value ∙ at_turn c.args.by items c.in-Some.at at c.index_mut.result.now in
    at_others c.args.by items c.in-Some.at at c.go_on.new.self (c.go_on.ensures.by ∙ ap (λ (t : Turn). t.by) is) other apart
