use Rattle.hv_mail.proofs.Members.{numbers_of-insert}
use Rattle.hv_mail.proofs.pending.Pending.raise.Goals as goal

pub returns : goal.returns
returns c = rw (← c.self.view_is, ← c.from.ensures) (numbers_of-insert _ _ _ c.set_bit.ensures.bits)
