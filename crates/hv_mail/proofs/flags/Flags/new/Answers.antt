use Rattle.hv_mail.proofs.FlagMembers.{flags_of-none}
use Rattle.hv_mail.proofs.Members.{zero_words}
use Rattle.hv_mail.proofs.flags.Flags.new.Goals as goal

pub returns : goal.returns
returns c = flags_of-none _ (zero_words 512)
