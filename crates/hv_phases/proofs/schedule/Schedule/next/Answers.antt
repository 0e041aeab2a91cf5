use Rattle.std.proofs.Common.{List, sym, ap, ◌∙◌, subst}
use Rattle.hv_phases.specs.declared.turn.Turn.{Turn}
use Rattle.hv_phases.specs.Schedule.{first_of}
use Rattle.hv_phases.specs.Turns.{todo}
use Rattle.hv_phases.specs.Turns.{IsAt}
use Rattle.hv_phases.proofs.TurnsLeft.{at_first, at_turn}
use Rattle.hv_phases.proofs.schedule.Schedule.next.Goals as goal

pub returns-in-Some : goal.returns-in-Some
returns-in-Some c =
    let items = c.args.self.now.turns.items in
    let at : IsAt c.args.by items c.in-Some.at = subst (λ (l : List Turn). IsAt c.args.by l c.in-Some.at) c.deref.ensures.value c.in-Some.ensures.some in
    c.next.ensures ∙ ap (λ (t : Turn). first_of (todo t)) (c.index.ensures ∙ at_turn c.args.by items c.in-Some.at at c.index.result.now) ∙ sym (at_first c.args.by items c.in-Some.at at)
