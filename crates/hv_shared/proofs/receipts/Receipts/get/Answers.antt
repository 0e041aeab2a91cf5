use Rattle.std.proofs.Common.{arith, sym, ◌∙◌}
use Rattle.std.proofs.lemmas.Option.{slice_get_read}
use Rattle.hv_history.specs.History.{entries}
use Rattle.hv_shared.proofs.PackedReceipts.{count, place}
use Rattle.hv_shared.proofs.receipts.Receipts.get.Goals as goal

pub index-requires : goal.index-requires
index-requires c =
    let r = c.args.self.now in
    let all = count r.numbers.items (entries r.packed) (sym r.numbers.ok.0 ∙ r.each) in
    let ok = r.numbers.ok.0 in
    let within = c.requires in
    omega (arith, all)

pub entry-requires : goal.entry-requires
entry-requires c =
    let r = c.args.self.now in
    let all = count r.numbers.items (entries r.packed) (sym r.numbers.ok.0 ∙ r.each) in
    let ok = r.numbers.ok.0 in
    let each = r.each in
    let within = c.requires in
    omega (arith, all)

pub returns-clause-receipt : goal.returns-clause-receipt
returns-clause-receipt c =
    let r = c.args.self.now in
    let all = count r.numbers.items (entries r.packed) (sym r.numbers.ok.0 ∙ r.each) in
    let within = c.requires in
    let number = slice_get_read r.numbers.items _ c.args.at _ r.numbers.ok.0 (let ok = r.numbers.ok.0 in omega (arith, all)) c.index.ensures in
    rw c.from.ensures (place r.numbers.items (entries r.packed) c.args.at _ _ number c.entry.ensures.entry)
