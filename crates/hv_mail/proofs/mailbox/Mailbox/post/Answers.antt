use Rattle.std.proofs.Common.{◌∙◌, sym, ap, arith}
use Rattle.hv_mail.proofs.Counts.{posted_counted}
use Rattle.hv_mail.proofs.EmptyMailbox.{room_parts, whole, still_roomy, still_whole}
use Rattle.hv_mail.proofs.Queues.{write_queue, read_queue}
use Rattle.hv_mail.proofs.EmptySints.{quiet_set}
use Rattle.hv_mail.specs.Mail.{MailboxState, posted, with_last, has_next}
use Rattle.hv_mail.specs.Queue.{mail_from}
use Rattle.hv_mail.specs.Tally.{kept_in}
use Rattle.hv_mail.proofs.mailbox.Mailbox.post.Goals as goal

pub returns-clause-mail : goal.returns-clause-mail
returns-clause-mail g c =
    let room = room_parts c.self.inside.queues.items c.self.inside.spare c.self.inside.tally.spare c.self.inside.tally.kept
    (ap {A = MailboxState} (λ m. m.room) c.self.view_is ∙ c.requires.room) in
    let sixteen = whole c.self.inside.queues.items c.self.invariant.whole room.0 in
    rw (← c.self.view_is, ← c.from.ensures) (write_queue c.self.inside.queues.items c.from.result c.index_mut-queue.result.now c.post-shown.new.self
    (λ m. posted m c.args.message) (omega arith)
    c.index_mut-queue.ensures.value c.post-shown.ensures.mail)

pub returns-clause-shown : goal.returns-clause-shown
returns-clause-shown g c =
    let room = room_parts c.self.inside.queues.items c.self.inside.spare c.self.inside.tally.spare c.self.inside.tally.kept
    (ap {A = MailboxState} (λ m. m.room) c.self.view_is ∙ c.requires.room) in
    let sixteen = whole c.self.inside.queues.items c.self.invariant.whole room.0 in
    rw (← c.self.view_is, ← c.from.ensures) (c.post-shown.ensures.shown ∙ ap (λ m. has_next (with_last m c.args.message))
    (sym (read_queue c.self.inside.queues.items c.from.result c.index_mut-queue.result.now (omega arith) c.index_mut-queue.ensures.value)))

pub invariant_of-self : goal.invariant_of-self
invariant_of-self g c =
    let room = room_parts c.self.inside.queues.items c.self.inside.spare c.self.inside.tally.spare c.self.inside.tally.kept
    (ap {A = MailboxState} (λ m. m.room) c.self.view_is ∙ c.requires.room) in
    let sixteen = whole c.self.inside.queues.items c.self.invariant.whole room.0 in
    record {
      whole = still_whole c.self.inside.queues.items c.from.result c.post-shown.new.self c.self.invariant.whole;
      counted = posted_counted (kept_in c.self.inside.tally.tree) c.self.inside.queues.items c.from.result c.index_mut-queue.result.now
          c.post-shown.new.self
          (omega arith) c.index_mut-queue.ensures.value
          c.self.invariant.counted (kept_in c.add.new.self.tree) c.args.message c.post-shown.ensures.mail c.add.ensures;
      room = λ noted. still_roomy c.self.inside.queues.items c.from.result c.index_mut-queue.result.now c.post-shown.new.self
          (omega arith) c.index_mut-queue.ensures.value
          (λ _. sym c.has_room-self-inside.ensures ∙ noted) room.0;
      quiet =
          rw (
            write_queue c.self.inside.queues.items c.from.result c.index_mut-queue.result.now c.post-shown.new.self (λ m. posted m c.args.message)
                (omega arith) c.index_mut-queue.ensures.value
                c.post-shown.ensures.mail,
            c.from.ensures,
          )
          (quiet_set c.self.inside.busy (mail_from 0 c.self.inside.queues.items) c.args.sint c.self.invariant.quiet _ c.requires.sint);
    }
