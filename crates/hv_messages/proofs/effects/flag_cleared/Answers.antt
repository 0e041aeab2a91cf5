use Rattle.std.proofs.Common.{sym, ◌∙◌}
use Rattle.hv_admit.proofs.FlagEffects.{clear_again, clear_turns}
use Rattle.hv_admit.specs.Tie.{vp_row_of}
use Rattle.hv_messages.proofs.effects.flag_cleared.Goals as goal

pub returns-then-not-was_set : goal.returns-then-not-was_set
returns-then-not-was_set c f v is was = clear_again c.args.part c.args.index c.args.sint c.args.flag f (vp_row_of v) is.row (sym was ∙ c.if-not-was_set.true)

pub returns : goal.returns
returns c f v is was = rw c.quiet.ensures (clear_turns c.args.part c.args.index c.args.sint c.args.flag f (vp_row_of v) is.row (sym was ∙ c.if-not-was_set.false))
