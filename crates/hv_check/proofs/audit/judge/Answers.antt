use Rattle.std.proofs.Common.{◌-◌}
use Rattle.hv_check.proofs.AuditEnd.{ends_badly, ends_well, ends_with}
use Rattle.hv_check.proofs.audit.judge.Goals as goal

pub returns-in-Good-clause-verdict : goal.returns-in-Good-clause-verdict
returns-in-Good-clause-verdict c rules lines stands = ends_well c.args.kept.now c.args.schedule.now c.args.text.now c.args.prefix c.events_of-events.result c.events_of-events.ensures.events
    c.events_of-events.ensures.few c.events_of-events.ensures.run rules lines stands c.in-Good.ensures

pub returns-in-Good-clause-count : goal.returns-in-Good-clause-count
returns-in-Good-clause-count c rules lines stands = ends_with c.args.kept.now c.args.schedule.now c.args.text.now c.args.prefix c.events_of-events.result c.events_of-events.ensures.events
    c.events_of-events.ensures.few c.events_of-events.ensures.run rules lines stands c.in-Good.ensures

pub returns-in-Bad-clause-verdict : goal.returns-in-Bad-clause-verdict
returns-in-Bad-clause-verdict c rules lines stands = ends_badly c.args.kept.now c.args.schedule.now c.args.text.now c.args.prefix c.events_of-events.result c.events_of-events.ensures.events
    c.events_of-events.ensures.few c.events_of-events.ensures.run rules lines stands c.in-Bad.ensures c.requires.no_line
