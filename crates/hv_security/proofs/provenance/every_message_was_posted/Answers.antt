use Rattle.std.proofs.Common.{arith}
use Rattle.hv_policy.specs.Mail.{stands_at}
use Rattle.hv_security.proofs.ProvenanceOfRuns.{known}
use Rattle.hv_security.proofs.RowsOneEntryLater.{mail_of}
use Rattle.hv_security.proofs.provenance.every_message_was_posted.Goals as goal

pub returns-clause-all : goal.returns-clause-all
returns-clause-all g c config events = (known config events).mail

pub returns-clause-places : goal.returns-clause-places
returns-clause-places g c config events place = mail_of _ _ (stands_at place) _ 0 0 (omega arith) (known config events).mail
