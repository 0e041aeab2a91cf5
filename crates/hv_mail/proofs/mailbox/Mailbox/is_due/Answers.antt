use Rattle.std.proofs.Common.{◌∙◌, sym, ap, arith, le-ltb}
use Rattle.std.proofs.lemmas.Nat.Bits.{shr_and_one}
use Rattle.hv_mail.proofs.EmptyMailbox.{absent_at}
use Rattle.hv_mail.proofs.Queues.{read_queue}
use Rattle.hv_mail.specs.Mail.{has_next, mail_or_none}
use Rattle.hv_mail.proofs.mailbox.Mailbox.is_due.Goals as goal

pub returns-then-self-sint-eq0 : goal.returns-then-self-sint-eq0
returns-then-self-sint-eq0 g c =
    let clear = sym (shr_and_one c.self.inside.busy c.args.sint) ∙ c.if-self-sint-eq0.true in
    rw (← c.self.view_is) (sym (ap has_next (c.self.invariant.quiet c.args.sint c.requires clear)))

pub returns-then-at-len : goal.returns-then-at-len
returns-then-at-len g c =
    rw (← c.self.view_is, ← c.from-at.ensures) (c.is_due.ensures
    ∙ ap has_next (sym (read_queue c.self.inside.queues.items c.from-at.result c.index.result.now (omega arith) c.index.ensures)))

pub returns-else-at-len : goal.returns-else-at-len
returns-else-at-len g c =
    rw (← c.self.view_is)
    (le-ltb c.from-at.result c.len.result (omega arith)
    ∙ sym (ap (λ o. has_next (mail_or_none o)) (absent_at c.self.inside.queues.items c.args.sint c.self.invariant.whole c.requires (omega arith))))
