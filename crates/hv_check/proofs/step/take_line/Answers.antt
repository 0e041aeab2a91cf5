use Rattle.std.proofs.Common.{◌-◌, sym, ◌∙◌}
use Rattle.hv_check.proofs.Steps.{step_idle, step_unread}
use Rattle.hv_check.proofs.step.take_line.Goals as goal

pub returns-in_default-clause-step : goal.returns-in_default-clause-step
returns-in_default-clause-step c = step_unread c.args.rules c.args.kept.now c.args.schedule.now c.args.text.now c.number_of-line.ensures c.requires.line c.in_default.ensures

pub take_event-requires-clause-by : goal.take_event-requires-clause-by
take_event-requires-clause-by c by named = let same = c.processor.ensures by named in let is = c.in-Some.is in cc

pub returns-in-None-clause-step : goal.returns-in-None-clause-step
returns-in-None-clause-step c =
    step_idle c.args.rules c.args.kept.now c.args.schedule.now c.args.text.now c.in-Some.by c.number_of-line.ensures c.requires.line
    (λ by named. let same = c.processor.ensures by named in let is = c.in-Some.is in cc) c.requires.begun (sym c.in_ok-what.ensures ∙ c.in-None.is)
