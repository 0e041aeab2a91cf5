use Rattle.std.proofs.Common.{sym, ◌∙◌}
use Rattle.hv_mail.proofs.FlagMembers as members
use Rattle.hv_mail.proofs.flags.Flags.has_flag.Goals as goal

pub returns : goal.returns
returns c = rw (← c.self.view_is) (rw c.place-at.ensures at c.is_bit_set.ensures ∙ sym (members.has_flag c.self.inside.words c.args.sint c.args.flag c.requires.flag))
