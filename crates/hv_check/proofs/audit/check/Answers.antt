use Rattle.std.proofs.Common.{◌-◌}
use Rattle.hv_script.specs.Reading.{said}
use Rattle.hv_check.specs.From.{IsLegalFrom, IsLegalFromWith}
use Rattle.hv_check.specs.Legal.{IsLegal, IsLegalWith}
use Rattle.hv_check.proofs.ScriptTexts.{counts_map, says_map}
use Rattle.hv_check.proofs.WholeAudit.{legal_from, legal_of, legal_with}
use Rattle.hv_check.proofs.audit.check.Goals as goal

pub returns-in-Ok-follow-clause-verdict : goal.returns-in-Ok-follow-clause-verdict
returns-in-Ok-follow-clause-verdict c =
    says_map c.in-Ok-follow.verdict (IsLegalFrom c.args.ask.prefix c.args.ask.rules c.in-Ok.kept c.args.script.lines.items c.args.audit.now)
    (IsLegal c.args.ask.prefix c.args.ask.rules (said c.args.script) c.args.audit.now)
    (legal_of c.args.ask.prefix c.args.ask.rules c.in-Ok.kept (said c.args.script) c.args.audit.now c.in-Ok.ensures.history c.in-Ok.ensures.config c.in-Ok.ensures.limit)
    (legal_from c.args.ask.prefix c.args.ask.rules c.in-Ok.kept (said c.args.script) c.args.audit.now c.in-Ok.ensures.history c.in-Ok.ensures.config c.in-Ok.ensures.limit c.requires)
    (c.in-Ok-follow.ensures.verdict c.args.script.lines.items (c.new-schedule.ensures c.requires))

pub returns-in-Ok-follow-clause-count : goal.returns-in-Ok-follow-clause-count
returns-in-Ok-follow-clause-count c =
    counts_map c.in-Ok-follow.verdict (IsLegalFromWith c.args.ask.prefix c.args.ask.rules c.in-Ok.kept c.args.script.lines.items c.args.audit.now)
    (IsLegalWith c.args.ask.prefix c.args.ask.rules (said c.args.script) c.args.audit.now)
    (legal_with c.args.ask.prefix c.args.ask.rules c.in-Ok.kept (said c.args.script) c.args.audit.now c.in-Ok.ensures.history c.in-Ok.ensures.config c.in-Ok.ensures.limit)
    (c.in-Ok-follow.ensures.count c.args.script.lines.items (c.new-schedule.ensures c.requires))
