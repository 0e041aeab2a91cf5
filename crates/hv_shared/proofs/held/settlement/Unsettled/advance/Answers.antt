use Rattle.std.proofs.Common.{drop-drop, sym}
use Rattle.hv_shared.specs.Receipts.{list_of}
use Rattle.hv_shared.proofs.held.settlement.Unsettled.advance.Goals as goal

pub returns-clause-left : goal.returns-clause-left
returns-clause-left c = sym (drop-drop c.run_of-count.result c.args.self.now.found (list_of c.args.self.now.receipts.value))
