use Rattle.std.proofs.Common.{refl, ap, rules, Ok, Err}
use Rattle.hv_policy.specs.Call.{call_event}
use Rattle.hv_policy.specs.Parts.{reply_of}
use Rattle.hv_admit.proofs.RoomIsNoState.{tied_roomless}
use Rattle.hv_machine.proofs.Steps.{call_told, denied, denied_call, denied_told, frame_unmet, invariant, nothing_told, served_call, state_of, unserved_call}
use Rattle.hv_machine.specs.IsFlat.{IsFlat}
use Rattle.hv_machine.proofs.machine.Machine.take.Goals as goal

pub returns-in-Err-clause-step : goal.returns-in-Err-clause-step
returns-in-Err-clause-step g c =
    let s = c.self.inside in
    rw (← c.self.view_is)
    (denied (call_event c.args.by c.args.frame.now) s.tree s.tree s.pages s.next s.served c.self.invariant c.first_rule-first.result
    (reply_of c.refused_answer.result c.args.output.now)
    (λ f flat. (frame_unmet c.args.by c.args.frame.now s.tree c.in-Err.rule c.first_rule-first.result c.in-Err.ensures.first c.first_rule-first.ensures f (tied_roomless s.tree f flat.tied), refl))
    (c.refused_answer.ensures c.args.output.now))

pub returns-in-Err-clause-effect : goal.returns-in-Err-clause-effect
returns-in-Err-clause-effect g c f flat =
    let s = c.self.inside in
    let stands : IsFlat (state_of s.tree s.pages s.next s.served) f = rw c.self.view_is flat in
    nothing_told (call_event c.args.by c.args.frame.now) f c.first_rule-first.result
    (frame_unmet c.args.by c.args.frame.now s.tree c.in-Err.rule c.first_rule-first.result c.in-Err.ensures.first c.first_rule-first.ensures f (tied_roomless s.tree f stands.tied))

pub dispatch-requires-clause-rows : goal.dispatch-requires-clause-rows
dispatch-requires-clause-rows g c = (let s = c.self.inside in invariant s.tree s.pages s.next s.served c.self.invariant)

pub returns-in-Ok-dispatch-clause-step : goal.returns-in-Ok-dispatch-clause-step
returns-in-Ok-dispatch-clause-step g c =
    let s = c.self.inside in
    let asked = c.in-Ok.asked in
    let is = c.in-Ok.ensures in
    let bytes = c.dispatch.new.output in
    let effect = c.in-Ok-dispatch.effect in
    rw (← c.self.view_is, c.next_after-self-inside.ensures)
    (served_call c.args.by c.args.frame.now asked.0 asked.1 is.call is.met s.tree c.dispatch.new.tree s.pages s.next s.served c.self.invariant
    (Ok (bytes, effect)) c.in-Ok-dispatch.ensures bytes effect refl (reply_of c.served_answer.result bytes) (c.served_answer.ensures bytes))

pub returns-in-Ok-dispatch-clause-effect : goal.returns-in-Ok-dispatch-clause-effect
returns-in-Ok-dispatch-clause-effect g c f flat =
    let s = c.self.inside in
    let asked = c.in-Ok.asked in
    let is = c.in-Ok.ensures in
    let bytes = c.dispatch.new.output in
    let effect = c.in-Ok-dispatch.effect in
    call_told c.args.by c.args.frame.now asked.0 asked.1 is.call is.met s.tree c.dispatch.new.tree s.pages s.next s.served c.self.invariant
    (Ok (bytes, effect)) c.in-Ok-dispatch.ensures bytes effect refl f (rw c.self.view_is flat)

pub returns-in-Err-Unmet-clause-step : goal.returns-in-Err-Unmet-clause-step
returns-in-Err-Unmet-clause-step g c =
    let s = c.self.inside in
    let asked = c.in-Ok.asked in
    let is = c.in-Ok.ensures in
    rw (← c.self.view_is)
    (denied_call c.args.by c.args.frame.now asked.0 asked.1 is.call is.met s.tree c.dispatch.new.tree s.pages s.next s.served c.self.invariant
    (Err c.in-Err-Unmet.field-0) c.in-Err-Unmet.ensures c.in-Err-Unmet.rule (ap Err c.in-Err-Unmet.field-0-is)
    (reply_of c.refused_answer-in-Err-Unmet.result c.dispatch.new.output) (search rules))

pub returns-in-Err-Unmet-clause-effect : goal.returns-in-Err-Unmet-clause-effect
returns-in-Err-Unmet-clause-effect g c f flat =
    let s = c.self.inside in
    let asked = c.in-Ok.asked in
    let is = c.in-Ok.ensures in
    denied_told c.args.by c.args.frame.now asked.0 asked.1 is.call is.met s.tree c.dispatch.new.tree s.pages s.next s.served c.self.invariant
    (Err c.in-Err-Unmet.field-0) c.in-Err-Unmet.ensures c.in-Err-Unmet.rule (ap Err c.in-Err-Unmet.field-0-is) f (rw c.self.view_is flat)

pub returns-in-Err-Memory-clause-step : goal.returns-in-Err-Memory-clause-step
returns-in-Err-Memory-clause-step g c =
    let s = c.self.inside in
    let asked = c.in-Ok.asked in
    let is = c.in-Ok.ensures in
    rw (← c.self.view_is)
    (unserved_call c.args.by c.args.frame.now asked.0 asked.1 is.call is.met s.tree c.dispatch.new.tree s.pages s.next s.served c.self.invariant
    (Err c.in-Err-Memory.field-0) c.in-Err-Memory.ensures (ap Err c.in-Err-Memory.field-0-is))

pub invariant_of-self : goal.invariant_of-self
invariant_of-self g c = (returns-in-Ok-dispatch-clause-step g c).lasting

pub invariant_of-self-in-Err-Unmet : goal.invariant_of-self-in-Err-Unmet
invariant_of-self-in-Err-Unmet g c = (returns-in-Err-Unmet-clause-step g c).lasting

pub invariant_of-self-in-Err-Memory : goal.invariant_of-self-in-Err-Memory
invariant_of-self-in-Err-Memory g c = (returns-in-Err-Memory-clause-step g c).lasting
