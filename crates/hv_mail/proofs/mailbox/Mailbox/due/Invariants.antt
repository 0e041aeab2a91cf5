use Rattle.std.proofs.Common.{◌≡◌, ℕ, ◌<◌, ◌==◌, ◌&&◌, nat_lt}
use Rattle.std.specs.Int.{bit_at}
use Rattle.hv_mail.specs.Mail.{at, has_next}
use Rattle.hv_mail.proofs.mailbox.Mailbox.due.Given as goal

abbrev pub invariant-loop-sint : goal.invariant-loop-sint
invariant-loop-sint g l = (k : ℕ) → k < 16 → (bit_at l.due k == 1) ≡ (nat_lt k l.sint && has_next (at l.fn.self.mail k))
