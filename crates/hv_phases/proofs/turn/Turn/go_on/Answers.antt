use Rattle.std.proofs.Common.{◌<◌, length, sym, ◌∙◌}
use Rattle.std.proofs.lemmas.Bool.{false≢true}
use Rattle.hv_phases.proofs.TurnsLeft.{not_over, todo_done}
use Rattle.hv_phases.proofs.turn.Turn.go_on.Goals as goal

pub returns-in-Served-clause-todo : goal.returns-in-Served-clause-todo
returns-in-Served-clause-todo c =
    let items = c.args.self.now.actions.items in
    let less : c.args.self.now.done < length items = not_over items c.args.self.now.done (λ none. false≢true (sym c.if-is_over.false ∙ c.is_over.ensures.1 none)) in
    todo_done items c.args.self.now.done c.args.reply.now less (λ next output more. let is = c.in-Served.is in cc)

pub returns-in-Denied-clause-todo : goal.returns-in-Denied-clause-todo
returns-in-Denied-clause-todo c =
    let items = c.args.self.now.actions.items in
    let less : c.args.self.now.done < length items = not_over items c.args.self.now.done (λ none. false≢true (sym c.if-is_over.false ∙ c.is_over.ensures.1 none)) in
    todo_done items c.args.self.now.done c.args.reply.now less (λ next output more. let is = c.in-Denied.is in cc)

pub returns-in-Fault-clause-todo : goal.returns-in-Fault-clause-todo
returns-in-Fault-clause-todo c =
    let items = c.args.self.now.actions.items in
    let less : c.args.self.now.done < length items = not_over items c.args.self.now.done (λ none. false≢true (sym c.if-is_over.false ∙ c.is_over.ensures.1 none)) in
    todo_done items c.args.self.now.done c.args.reply.now less (λ next output more. let is = c.in-Fault.is in cc)
