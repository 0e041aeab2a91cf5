use Rattle.std.proofs.Common.{reverse, vec_len}
use Rattle.hv_phases.proofs.GivenLines.{IsHanded}
use Rattle.hv_phases.proofs.schedule.turns_of.Given as goal

abbrev pub invariant-loop-line : goal.invariant-loop-line
invariant-loop-line l = IsHanded l.fn.first (reverse l.initial.later.items) l.turns.items (reverse l.later.items)

abbrev pub decreases-loop-line : goal.decreases-loop-line
decreases-loop-line l = vec_len l.later
