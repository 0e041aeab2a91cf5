use Rattle.std.proofs.Common.{◌≡◌, true, false, ◌∙◌, set, refl, sym, ap, arith}
use Rattle.hv_mail.proofs.Counts.{cleared_counted, is_counted}
use Rattle.hv_mail.proofs.EmptyMailbox.{absent_at, room_from, room_parts, still_roomy, still_whole}
use Rattle.hv_mail.proofs.Queues.{write_queue, read_queue, same_absent}
use Rattle.hv_mail.proofs.EmptySints.{none_left, quiet_kept, quiet_cleared}
use Rattle.hv_mail.specs.Mail.{MailboxState, SintMail, at, with_at, cleared}
use Rattle.hv_mail.specs.Queue.{AreCounted, are_ready, mail_from}
use Rattle.hv_mail.specs.Slot.{is_some_of}
use Rattle.hv_mail.specs.Tally.{kept_in}
use Rattle.hv_mail.proofs.mailbox.Mailbox.clear.Given.{Over}
use Rattle.hv_mail.proofs.mailbox.Mailbox.clear.Goals.{After-forget}
use Rattle.hv_mail.proofs.mailbox.Mailbox.clear.Goals as goal

-- the mail once the queue was cleared
written : (g : Over) (c : After-forget g)
    → mail_from 0 (set c.self.inside.queues.items c.from-at.result c.clear.new.self) ≡ with_at (mail_from 0 c.self.inside.queues.items)
    c.from-at.result
    (cleared (at (mail_from 0 c.self.inside.queues.items) c.from-at.result))
written g c = write_queue c.self.inside.queues.items c.from-at.result c.index_mut-queue.result.now c.clear.new.self cleared
    (omega arith) c.index_mut-queue.ensures.value c.clear.ensures.mail

-- that its queues have room still
ready : (g : Over) (c : After-forget g) → are_ready c.self.inside.queues.items ≡ true
    → are_ready (set c.self.inside.queues.items c.from-at.result c.clear.new.self) ≡ true
ready g c = still_roomy c.self.inside.queues.items c.from-at.result c.index_mut-queue.result.now c.clear.new.self
    (omega arith) c.index_mut-queue.ensures.value
    c.clear.ensures.kept

-- and that its messages are counted
counted : (g : Over) (c : After-forget g)
    → AreCounted c.forget.new.tally.tree (mail_from 0 (set c.self.inside.queues.items c.from-at.result c.clear.new.self))
counted g c =
    cleared_counted (kept_in c.self.inside.tally.tree) c.self.inside.queues.items c.from-at.result c.index_mut-queue.result.now c.clear.new.self
    (omega arith) c.index_mut-queue.ensures.value
    c.self.invariant.counted c.clear.result c.clear.ensures.removed (kept_in c.forget.new.tally.tree) c.clear.ensures.mail c.forget.ensures.counts

-- the shown message is one that was counted
pub forget-requires : goal.forget-requires
forget-requires g c =
    is_counted (kept_in c.self.inside.tally.tree) c.self.inside.queues.items c.from-at.result c.index_mut-queue.result.now c.clear.new.self
    (omega arith) c.index_mut-queue.ensures.value
    c.self.invariant.counted c.clear.result c.clear.ensures.removed

pub returns-then-not-is_pending-clause-mail : goal.returns-then-not-is_pending-clause-mail
returns-then-not-is_pending-clause-mail g c = rw (← c.self.view_is, ← c.from-at.ensures)
    (written g (goal.at.returns-then-not-is_pending-clause-mail g c).After-forget)

pub returns-else-not-is_pending-clause-mail : goal.returns-else-not-is_pending-clause-mail
returns-else-not-is_pending-clause-mail g c = rw (← c.self.view_is, ← c.from-at.ensures)
    (written g (goal.at.returns-else-not-is_pending-clause-mail g c).After-forget)

pub returns-else-at-len-clause-mail : goal.returns-else-at-len-clause-mail
returns-else-at-len-clause-mail g c =
    rw (← c.self.view_is) (same_absent _ c.args.sint cleared refl (absent_at c.self.inside.queues.items c.args.sint c.self.invariant.whole c.requires
    (omega arith)))

pub returns-then-not-is_pending-clause-kept : goal.returns-then-not-is_pending-clause-kept
returns-then-not-is_pending-clause-kept g c room =
    let there = (goal.at.returns-then-not-is_pending-clause-kept g c).After-forget in
    let parts = room_parts c.self.inside.queues.items c.self.inside.spare c.self.inside.tally.spare c.self.inside.tally.kept
    (ap {A = MailboxState} (λ m. m.room) c.self.view_is ∙ room) in
    room_from (set c.self.inside.queues.items c.from-at.result c.clear.new.self) c.forget.new.spare c.forget.new.tally.spare c.forget.new.tally.kept
    (ready g there parts.0) (c.forget.ensures.kept parts.1.0, c.forget.ensures.room parts.1.1)

pub returns-else-not-is_pending-clause-kept : goal.returns-else-not-is_pending-clause-kept
returns-else-not-is_pending-clause-kept g c room =
    let there = (goal.at.returns-else-not-is_pending-clause-kept g c).After-forget in
    let parts = room_parts c.self.inside.queues.items c.self.inside.spare c.self.inside.tally.spare c.self.inside.tally.kept
    (ap {A = MailboxState} (λ m. m.room) c.self.view_is ∙ room) in
    room_from (set c.self.inside.queues.items c.from-at.result c.clear.new.self) c.forget.new.spare c.forget.new.tally.spare c.forget.new.tally.kept
    (ready g there parts.0) (c.forget.ensures.kept parts.1.0, c.forget.ensures.room parts.1.1)

pub invariant_of-self : goal.invariant_of-self
invariant_of-self g c =
    let there = (goal.at.invariant_of-self g c).After-forget in
    let mail = mail_from 0 c.self.inside.queues.items in
    let stood = read_queue c.self.inside.queues.items c.from-at.result c.index_mut-queue.result.now (omega arith) c.index_mut-queue.ensures.value in
    let none : is_some_of (at mail c.from-at.result).waiting ≡ false = ap {A = SintMail} (λ m. is_some_of m.waiting) (ap cleared stood
    ∙ sym c.clear.ensures.mail) ∙ sym c.if-not-is_pending.ensures in
    record {
      whole = still_whole c.self.inside.queues.items c.from-at.result c.clear.new.self c.self.invariant.whole;
      counted = counted g there;
      room = λ noted. ready g there (c.self.invariant.room noted);
      quiet =
          rw (written g there, ← c.from-at.ensures)
          (quiet_cleared c.self.inside.busy mail c.from-at.result c.self.invariant.quiet (cleared (at mail c.from-at.result))
          (none_left (at mail c.from-at.result) none) (omega arith));
    }

pub invariant_of-self-else-not-is_pending : goal.invariant_of-self-else-not-is_pending
invariant_of-self-else-not-is_pending g c =
    let there = (goal.at.invariant_of-self-else-not-is_pending g c).After-forget in
    record {
      whole = still_whole c.self.inside.queues.items c.from-at.result c.clear.new.self c.self.invariant.whole;
      counted = counted g there;
      room = λ noted. ready g there (c.self.invariant.room noted);
      quiet = rw (written g there) (quiet_kept c.self.inside.busy (mail_from 0 c.self.inside.queues.items) c.from-at.result c.self.invariant.quiet
          cleared
          refl);
    }
