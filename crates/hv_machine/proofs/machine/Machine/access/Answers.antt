use Rattle.hv_machine.proofs.AccessSteps.{access_refused, access_served, access_told, refused_told}
use Rattle.hv_machine.proofs.machine.Machine.access.Goals as goal

pub returns-in-Ok-clause-step : goal.returns-in-Ok-clause-step
returns-in-Ok-clause-step g c =
    let s = c.self.inside in
    rw (← c.self.view_is)
    (access_served g.row.A.Denot s.tree c.dispatch_access.new.tree s.pages s.next s.served c.args.by c.args.access c.self.invariant c.dispatch_access.new.output c.in-Ok.effect c.in-Ok.ensures)

pub returns-in-Ok-clause-effect : goal.returns-in-Ok-clause-effect
returns-in-Ok-clause-effect g c f flat =
    let s = c.self.inside in
    access_told g.row.A.Denot s.tree c.dispatch_access.new.tree s.pages s.next s.served c.args.by c.args.access c.self.invariant c.dispatch_access.new.output c.in-Ok.effect c.in-Ok.ensures f
    (rw c.self.view_is flat)

pub returns-in-Err-clause-step : goal.returns-in-Err-clause-step
returns-in-Err-clause-step g c =
    let s = c.self.inside in
    rw (← c.self.view_is) (access_refused g.row.A.Denot s.tree c.dispatch_access.new.tree s.pages s.next s.served c.args.by c.args.access c.self.invariant c.in-Err.rule c.in-Err.ensures)

pub returns-in-Err-clause-effect : goal.returns-in-Err-clause-effect
returns-in-Err-clause-effect g c f flat =
    let s = c.self.inside in
    refused_told g.row.A.Denot s.tree c.dispatch_access.new.tree s.pages s.next s.served c.args.by c.args.access c.self.invariant c.in-Err.rule c.in-Err.ensures f (rw c.self.view_is flat)

pub invariant_of-self : goal.invariant_of-self
invariant_of-self g c = (returns-in-Ok-clause-step g c).lasting

pub invariant_of-self-in-Err : goal.invariant_of-self-in-Err
invariant_of-self-in-Err g c = (returns-in-Err-clause-step g c).lasting
