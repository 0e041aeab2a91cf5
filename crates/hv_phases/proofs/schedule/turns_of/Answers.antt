use Rattle.std.proofs.Common.{reverse}
use Rattle.hv_phases.proofs.GivenLines.{handed_more}
use Rattle.hv_phases.proofs.schedule.turns_of.Goals as goal

pub loop-line-preserved : goal.loop-line-preserved
loop-line-preserved c =
    handed_more c.args.first c.in-Some.line (reverse c.args.later.now.items) c.loop-line.turns.items c.give_line-in-Some.new.turns.items c.loop-line.later.items c.next_of.new.later.items
    c.loop-line.invariant
    c.in-Some.ensures.some.0 c.in-Some.ensures.some.1 c.in_ok-give_line-2.ensures.asked c.in_ok-give_line-2.ensures.new
