use Rattle.std.proofs.Common.{◌∙◌, sym, ap, arith, option_map}
use Rattle.hv_mail.proofs.EmptyMailbox.{absent_at}
use Rattle.hv_mail.proofs.Queues.{read_queue}
use Rattle.hv_mail.specs.Mail.{SintMail, mail_or_none}
use Rattle.hv_mail.specs.declared.message.Message.{Message}
use Rattle.hv_mail.proofs.mailbox.Mailbox.shown.Goals as goal

pub returns-then-at-len : goal.returns-then-at-len
returns-then-at-len g c =
    rw (← c.self.view_is, ← c.from-at.ensures)
    (c.shown.ensures ∙ ap {A = SintMail} (λ m. option_map (λ (message : Message). message.port) m.slot)
    (sym (read_queue c.self.inside.queues.items c.from-at.result c.index.result.now (omega arith) c.index.ensures)))

pub returns-else-at-len : goal.returns-else-at-len
returns-else-at-len g c =
    rw (← c.self.view_is)
    (sym (ap (λ o. option_map (λ (message : Message). message.port) (mail_or_none o).slot)
    (absent_at c.self.inside.queues.items c.args.sint c.self.invariant.whole c.requires (omega arith))))
