use Rattle.hv_shared.specs.Receipts.{list_of}
use Rattle.hv_shared.proofs.NextDue.{due_later, due_past}
use Rattle.hv_shared.proofs.held.settlement.due_after.Goals as goal

pub returns-then-number-next : goal.returns-then-number-next
returns-then-number-next c = due_later c.args.number c.number-next.result c.args.at (list_of c.args.receipts.now) c.if-number-next.true c.number-next.ensures

pub returns-else-number-next : goal.returns-else-number-next
returns-else-number-next c = due_past c.args.number c.number-next.result c.args.at (list_of c.args.receipts.now) c.requires c.if-number-next.false c.number-next.ensures
