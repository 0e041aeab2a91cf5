use Rattle.std.proofs.Common.{sym, ◌∙◌}
use Rattle.hv_admit.proofs.FlagEffects.{signal_again, signal_turns}
use Rattle.hv_admit.specs.Tie.{vp_row_of}
use Rattle.hv_messages.proofs.effects.signalled.Goals as goal

pub returns-then-was_set : goal.returns-then-was_set
returns-then-was_set g c f v is registers was = signal_again c.args.part c.args.index c.args.sint c.args.flag f (vp_row_of v) is.row (sym was ∙ c.if-was_set.true)

pub returns : goal.returns
returns g c f v is registers was =
    rw c.quiet.ensures (rw c.add_vector.ensures (rw c.new-raised.ensures (rw registers
    (signal_turns c.args.part c.args.index c.args.sint c.args.flag f (vp_row_of v) is.row c.requires (sym was ∙ c.if-was_set.false)))))
