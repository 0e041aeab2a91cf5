use Rattle.std.proofs.Common.{sym, ◌∙◌}
use Rattle.hv_history.specs.History.{entries}
use Rattle.hv_shared.proofs.PackedReceipts.{count}
use Rattle.hv_shared.proofs.receipts.Receipts.len.Goals as goal

pub returns : goal.returns
returns c =
    let r = c.args.self.now in
    c.len.ensures ∙ r.numbers.ok.0 ∙ sym (count r.numbers.items (entries r.packed) (sym r.numbers.ok.0 ∙ r.each))
