use Rattle.std.proofs.Common.{arith, ◌≡◌, ◌-◌, ◌+◌, drop, length, sym, ◌∙◌, length-drop}
use Rattle.hv_history.specs.History.{entries}
use Rattle.hv_shared.proofs.PackedReceipts.{all_more}
use Rattle.hv_shared.proofs.receipts.Receipts.push_all.Goals as goal

pub returns : goal.returns
returns c =
    let r = c.args.self.now in
    let es = entries c.args.history.now in
    let rest = drop c.args.from es in
    let many : c.len.result - c.args.from ≡ length rest = let n = c.len.ensures in omega (arith, length-drop c.args.from es) in
    rw (c.push_numbers.ensures.items, c.push_all.ensures.pushed, many) (all_more r.numbers.items (entries r.packed) rest (c.args.from + 1) (sym r.numbers.ok.0 ∙ r.each))
