use Rattle.hv_mail.proofs.FlagMembers.{flags_of-remove}
use Rattle.hv_mail.proofs.flags.Flags.clear.Goals as goal

pub returns : goal.returns
returns c =
    rw (← c.self.view_is) (flags_of-remove c.self.inside.words c.clear_bit.new.words c.args.sint c.args.flag c.requires.flag (rw c.place-at.ensures at c.clear_bit.ensures.bits))
