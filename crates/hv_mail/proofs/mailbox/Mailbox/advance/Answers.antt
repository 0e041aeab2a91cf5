use Rattle.std.proofs.Common.{◌∙◌, set, refl, sym, ap, arith}
use Rattle.std.proofs.lemmas.Nat.Bits.{shr_and_one}
use Rattle.hv_mail.proofs.Counts.{next_counted}
use Rattle.hv_mail.proofs.EmptyMailbox.{absent_at, room_from, room_parts, still_roomy, still_whole}
use Rattle.hv_mail.proofs.Queues.{write_queue, read_queue, same_absent}
use Rattle.hv_mail.proofs.EmptySint.{quiet_next}
use Rattle.hv_mail.proofs.EmptySints.{quiet_kept}
use Rattle.hv_mail.specs.Mail.{MailboxState, with_next, has_next, mail_or_none}
use Rattle.hv_mail.specs.Queue.{mail_from}
use Rattle.hv_mail.specs.Tally.{kept_in}
use Rattle.hv_mail.proofs.mailbox.Mailbox.advance.Goals as goal

pub returns-then-self-sint-eq0-clause-mail : goal.returns-then-self-sint-eq0-clause-mail
returns-then-self-sint-eq0-clause-mail g c =
    let clear = sym (shr_and_one c.self.inside.busy c.args.sint) ∙ c.if-self-sint-eq0.true in
    rw (← c.self.view_is) (quiet_next c.self.inside.queues.items c.args.sint (c.self.invariant.quiet c.args.sint c.requires clear))

pub returns-then-self-sint-eq0-clause-shown : goal.returns-then-self-sint-eq0-clause-shown
returns-then-self-sint-eq0-clause-shown g c =
    let clear = sym (shr_and_one c.self.inside.busy c.args.sint) ∙ c.if-self-sint-eq0.true in
    rw (← c.self.view_is) (sym (ap has_next (c.self.invariant.quiet c.args.sint c.requires clear)))

pub returns-then-at-len-clause-mail : goal.returns-then-at-len-clause-mail
returns-then-at-len-clause-mail g c =
    rw (← c.self.view_is, ← c.from-at.ensures) (write_queue c.self.inside.queues.items c.from-at.result c.index_mut-queue.result.now
    c.advance.new.self with_next (omega arith)
    c.index_mut-queue.ensures.value c.advance.ensures.mail)

pub returns-then-at-len-clause-shown : goal.returns-then-at-len-clause-shown
returns-then-at-len-clause-shown g c =
    rw (← c.self.view_is, ← c.from-at.ensures) (c.advance.ensures.shown
    ∙ ap has_next (sym (read_queue c.self.inside.queues.items c.from-at.result c.index_mut-queue.result.now (omega arith)
    c.index_mut-queue.ensures.value)))

pub returns-else-at-len-clause-mail : goal.returns-else-at-len-clause-mail
returns-else-at-len-clause-mail g c =
    rw (← c.self.view_is) (same_absent _ c.args.sint with_next refl (absent_at c.self.inside.queues.items c.args.sint c.self.invariant.whole
    c.requires (omega arith)))

pub returns-else-at-len-clause-shown : goal.returns-else-at-len-clause-shown
returns-else-at-len-clause-shown g c =
    rw (← c.self.view_is) (sym (ap (λ o. has_next (mail_or_none o)) (absent_at c.self.inside.queues.items c.args.sint c.self.invariant.whole
    c.requires (omega arith))))

pub returns-then-at-len-clause-kept : goal.returns-then-at-len-clause-kept
returns-then-at-len-clause-kept g c roomy =
    let parts = room_parts c.self.inside.queues.items c.self.inside.spare c.self.inside.tally.spare c.self.inside.tally.kept
    (ap {A = MailboxState} (λ m. m.room) c.self.view_is ∙ roomy) in
    room_from (set c.self.inside.queues.items c.from-at.result c.advance.new.self) c.self.inside.spare c.self.inside.tally.spare
    c.self.inside.tally.kept
    (still_roomy c.self.inside.queues.items c.from-at.result c.index_mut-queue.result.now c.advance.new.self
    (omega arith) c.index_mut-queue.ensures.value c.advance.ensures.kept parts.0) parts.1

pub invariant_of-self : goal.invariant_of-self
invariant_of-self g c = record {
  whole = still_whole c.self.inside.queues.items c.from-at.result c.advance.new.self c.self.invariant.whole;
  counted = next_counted (kept_in c.self.inside.tally.tree) c.self.inside.queues.items c.from-at.result c.index_mut-queue.result.now
      c.advance.new.self (omega arith) c.index_mut-queue.ensures.value
      c.self.invariant.counted c.advance.ensures.mail;
  room = λ noted. still_roomy c.self.inside.queues.items c.from-at.result c.index_mut-queue.result.now c.advance.new.self
      (omega arith) c.index_mut-queue.ensures.value
      c.advance.ensures.kept (c.self.invariant.room noted);
  quiet = rw (write_queue c.self.inside.queues.items c.from-at.result c.index_mut-queue.result.now c.advance.new.self with_next
      (omega arith) c.index_mut-queue.ensures.value c.advance.ensures.mail)
      (quiet_kept c.self.inside.busy (mail_from 0 c.self.inside.queues.items) c.from-at.result c.self.invariant.quiet with_next refl);
}
