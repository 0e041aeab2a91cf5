use Rattle.std.proofs.Common.{sym, ap}
use Rattle.hv_mail.specs.Mail.{has_next}
use Rattle.hv_mail.proofs.EmptySint.{quiet_next}
use Rattle.hv_mail.proofs.PartitionRelation.{is_none, no_bits_from}
use Rattle.hv_mail.proofs.mailbox.Mailbox.is_busy_from.Goals as goal

pub returns-clause-none : goal.returns-clause-none
returns-clause-none g c idle k from low =
    let clear = no_bits_from c.self.inside.busy c.args.sint k (is_none _ idle) from in
    rw (← c.self.view_is) (ap has_next (c.self.invariant.quiet k low clear))

pub returns-clause-stays : goal.returns-clause-stays
returns-clause-stays g c idle k from low =
    let clear = no_bits_from c.self.inside.busy c.args.sint k (is_none _ idle) from in
    rw (← c.self.view_is) (sym (quiet_next c.self.inside.queues.items k (c.self.invariant.quiet k low clear)))
