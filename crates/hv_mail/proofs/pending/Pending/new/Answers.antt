use Rattle.hv_mail.proofs.Members.{numbers_of-none, zero_words}
use Rattle.hv_mail.proofs.pending.Pending.new.Goals as goal

pub returns : goal.returns
returns c = numbers_of-none _ (zero_words 4)
