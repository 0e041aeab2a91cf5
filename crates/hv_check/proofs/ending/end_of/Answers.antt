use Rattle.std.proofs.Common.{◌-◌, sym, subst, Bool}
use Rattle.hv_check.specs.From.{IsEnding, IsOver}
use Rattle.hv_check.proofs.AuditEnd.{last_whole}
use Rattle.hv_check.proofs.AfterLine.{not_over}
use Rattle.hv_check.proofs.ending.end_of.Goals as goal

pub returns-in-Some : goal.returns-in-Some
returns-in-Some c lines stands over end =
    not_over c.args.schedule.now lines c.in-Some.by stands c.in-Some.ensures.some (subst (λ (p : Bool). IsOver p lines) c.if-prefix.false over)

pub returns-in-None : goal.returns-in-None
returns-in-None c =
    subst (λ (p : Bool). IsEnding p c.args.schedule.now c.args.events c.args.text.now c.last_line-in-None.result) (sym c.if-prefix.false)
    (last_whole c.args.schedule.now c.args.events c.args.text.now c.last_line-in-None.result c.requires c.in-None.ensures.none c.last_line-in-None.ensures)
