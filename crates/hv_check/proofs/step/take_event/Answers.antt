use Rattle.std.proofs.Common.{◌-◌, length, sym, ◌∙◌}
use Rattle.hv_check.proofs.Steps.{line_shorter, step_not, step_on}
use Rattle.hv_check.proofs.step.take_event.Goals as goal

pub returns-in-Some-clause-step : goal.returns-in-Some-clause-step
returns-in-Some-clause-step c =
    step_on c.args.rules c.args.kept.now c.apply.new.kept c.args.schedule.now c.go_on.new.self c.args.text.now (record { event = c.args.event; reply = c.in-Ok.reply }) c.requires.few c.requires.line
    c.requires.by
    (record { asked = c.requires.next; goes = c.in-Ok.ensures.next; own = c.go_on.ensures.own; others = c.go_on.ensures.others; later = c.go_on.ensures.later }) c.in-Ok.ensures.applied
    c.in-Ok.ensures.run c.in-Some.rest.now
    (c.in-Some.ensures.some (length c.apply.new.kept.history) (record { event = c.args.event; reply = c.in-Ok.reply }) c.parts.result.1.now
    (c.as_slice.ensures ∙ c.put_last.ensures c.args.kept.now.history (record { event = c.args.event; reply = c.in-Ok.reply }) c.in-Ok.ensures.applied.history) (sym c.parts.ensures.reply))

pub returns-in-Some-clause-shorter : goal.returns-in-Some-clause-shorter
returns-in-Some-clause-shorter c =
    line_shorter c.args.rules (length c.apply.new.kept.history) (record { event = c.args.event; reply = c.in-Ok.reply }) c.args.text.now c.in-Some.rest.now
    (c.in-Some.ensures.some (length c.apply.new.kept.history) (record { event = c.args.event; reply = c.in-Ok.reply }) c.parts.result.1.now
    (c.as_slice.ensures ∙ c.put_last.ensures c.args.kept.now.history (record { event = c.args.event; reply = c.in-Ok.reply }) c.in-Ok.ensures.applied.history) (sym c.parts.ensures.reply))

pub returns-in-None-clause-step : goal.returns-in-None-clause-step
returns-in-None-clause-step c =
    step_not c.args.rules c.args.kept.now c.apply.new.kept c.args.schedule.now c.go_on.new.self c.args.text.now (record { event = c.args.event; reply = c.in-Ok.reply }) c.requires.few c.requires.line
    c.requires.by
    (record { asked = c.requires.next; goes = c.in-Ok.ensures.next; own = c.go_on.ensures.own; others = c.go_on.ensures.others; later = c.go_on.ensures.later }) c.in-Ok.ensures.applied
    c.in-Ok.ensures.run
    (c.in-None.ensures.none (length c.apply.new.kept.history) (record { event = c.args.event; reply = c.in-Ok.reply }) c.parts.result.1.now
    (c.as_slice.ensures ∙ c.put_last.ensures c.args.kept.now.history (record { event = c.args.event; reply = c.in-Ok.reply }) c.in-Ok.ensures.applied.history) (sym c.parts.ensures.reply))
