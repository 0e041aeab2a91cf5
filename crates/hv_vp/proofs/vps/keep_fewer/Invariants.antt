use Rattle.std.proofs.Common.{◌≡◌, ◌+◌, take, sum_by}
use Rattle.hv_mail.specs.Mail.{count_of}
use Rattle.hv_vp.specs.declared.vps.Slot.{Slot}
use Rattle.hv_vp.proofs.vps.keep_fewer.Given as goal

abbrev pub invariant-loop-slot : goal.invariant-loop-slot
invariant-loop-slot g l = sum_by {X = Slot g.row.A.Denot} (λ slot. count_of l.port l.born slot.vp.mail) (take l.slot-index l.slots) + l.left ≡ l.most
