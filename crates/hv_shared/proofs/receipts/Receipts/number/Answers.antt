use Rattle.std.proofs.Common.{Some, ap, arith, sym, ◌∙◌}
use Rattle.std.proofs.lemmas.Option.{slice_get_read}
use Rattle.hv_history.specs.History.{entries}
use Rattle.hv_shared.proofs.PackedReceipts.{count, numbers}
use Rattle.hv_shared.proofs.receipts.Receipts.number.Goals as goal

pub index-requires : goal.index-requires
index-requires c =
    let r = c.args.self.now in
    let all = count r.numbers.items (entries r.packed) (sym r.numbers.ok.0 ∙ r.each) in
    let ok = r.numbers.ok.0 in
    let within = c.requires in
    omega (arith, all)

pub returns : goal.returns
returns c =
    let r = c.args.self.now in
    let same = sym r.numbers.ok.0 ∙ r.each in
    let all = count r.numbers.items (entries r.packed) same in
    let within = c.requires in
    numbers r.numbers.items (entries r.packed) c.args.at same ∙ slice_get_read r.numbers.items _ c.args.at _ r.numbers.ok.0 (let ok = r.numbers.ok.0 in omega (arith, all)) c.index.ensures
    ∙ ap Some (sym c.from.ensures)
