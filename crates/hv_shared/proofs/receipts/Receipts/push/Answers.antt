use Rattle.std.proofs.Common.{sym, ◌∙◌}
use Rattle.hv_history.specs.History.{entries}
use Rattle.hv_shared.proofs.PackedReceipts.{more}
use Rattle.hv_shared.proofs.receipts.Receipts.push.Goals as goal

pub returns-clause-pushed : goal.returns-clause-pushed
returns-clause-pushed c =
    let r = c.args.self.now in
    rw (c.push_reserved.ensures.items, c.push.ensures.pushed) (more r.numbers.items (entries r.packed) _ _ (sym r.numbers.ok.0 ∙ r.each))
