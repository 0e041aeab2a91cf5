use Rattle.std.proofs.Common.{◌≡◌}
use Rattle.hv_mail.specs.Mail.{all_next}
use Rattle.hv_vp.specs.Vp.{shown_each}
use Rattle.hv_vp.proofs.vp.Vp.end_message.Given as goal

abbrev pub invariant-loop-sint : goal.invariant-loop-sint
invariant-loop-sint g l = l.self ≡ record (shown_each l.sint l.fn.self) { mail = all_next 16 l.fn.self.mail }
