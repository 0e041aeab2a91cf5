use Rattle.std.proofs.Common.{sym, ◌∙◌}
use Rattle.hv_admit.proofs.SlotAndVectorEffects.{interrupt_taken, no_interrupt}
use Rattle.hv_admit.specs.Tie.{vp_row_of}
use Rattle.hv_messages.proofs.effects.taken.Goals as goal

pub returns-in_default : goal.returns-in_default
returns-in_default c f v is vector = no_interrupt c.args.part c.args.index f (vp_row_of v) is.row (sym vector ∙ c.in_default.is)

pub returns : goal.returns
returns c f v is vector = rw c.quiet.ensures (interrupt_taken c.args.part c.args.index f (vp_row_of v) is.row c.in-Some.vector (sym vector ∙ c.in-Some.is))
