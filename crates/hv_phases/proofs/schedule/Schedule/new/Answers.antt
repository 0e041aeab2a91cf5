use Rattle.std.proofs.Common.{ap, ◌∙◌, reverse}
use Rattle.std.proofs.lemmas.List.{reverse-reverse}
use Rattle.hv_phases.proofs.PhaseStart.{stands_new}
use Rattle.hv_phases.proofs.schedule.Schedule.new.Goals as goal

pub returns : goal.returns
returns c read = stands_new (record { turns = c.new.result; later = c.reverse.new.self }) c.args.lines.items c.new.ensures.items
    (ap reverse c.reverse.ensures.items ∙ reverse-reverse c.args.lines.items) read
