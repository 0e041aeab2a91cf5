use Rattle.std.proofs.Common.{not, sym, ap, ◌∙◌}
use Rattle.hv_mail.proofs.FlagMembers.{flags_of-insert, has_flag}
use Rattle.hv_mail.proofs.flags.Flags.set.Goals as goal

pub returns-clause-was_clear : goal.returns-clause-was_clear
returns-clause-was_clear c =
    rw (← c.self.view_is) (rw c.place-at.ensures at c.set_bit.ensures.was_clear ∙ ap not (sym (has_flag c.self.inside.words c.args.sint c.args.flag c.requires.flag)))

pub returns-clause-flags : goal.returns-clause-flags
returns-clause-flags c =
    rw (← c.self.view_is) (flags_of-insert c.self.inside.words c.set_bit.new.words c.args.sint c.args.flag c.requires.flag (rw c.place-at.ensures at c.set_bit.ensures.bits))
