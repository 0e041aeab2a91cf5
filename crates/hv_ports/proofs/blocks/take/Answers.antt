use Rattle.std.proofs.Common.{◌≡◌, ℕ, ◌∙◌, length, get_or, arith, ap, remove as list_remove}
use Rattle.hv_ports.specs.Blocks.{Block}
use Rattle.hv_ports.proofs.BlockLists.{each_without, flat_cut, flat_without, row_at}
use Rattle.hv_ports.proofs.blocks.take.Goals as goal

pub returns-then-len-eq1-clause-row : goal.returns-then-len-eq1-clause-row
returns-then-len-eq1-clause-row g c =
    λ s.
    ap (λ (x : ℕ × g.row.R.Denot). x.1)
    (row_at c.args.blocks.now.items c.args.place.block c.args.place.at c.index.result.now c.index-2.result.now s
    c.requires.place.0 c.index.ensures (c.requires.place.1 c.index.result.now) c.index-2.ensures)

pub returns-else-len-eq1-clause-row : goal.returns-else-len-eq1-clause-row
returns-else-len-eq1-clause-row g c =
    λ s.
    ap (λ (x : ℕ × g.row.R.Denot). x.1)
    (row_at c.args.blocks.now.items c.args.place.block c.args.place.at c.index.result.now c.index-2.result.now s
    c.requires.place.0 c.index.ensures (c.requires.place.1 c.index.result.now) c.index-2.ensures)

pub returns-then-len-eq1-clause-slots : goal.returns-then-len-eq1-clause-slots
returns-then-len-eq1-clause-slots g c =
    let was : Block g.row.R.Denot g.row.A.Denot = c.index-3.result.now in
    let same : length was.items ≡ length (get_or c.args.blocks.now.items c.args.place.block was).items = ap (λ (x : Block g.row.R.Denot g.row.A.Denot). length x.items) c.index-3.ensures in
    let one : length (get_or c.args.blocks.now.items c.args.place.block was).items ≡ 1 = omega (arith, same, c.if-len-eq1.true, c.len.ensures, was.ok.0) in
    rw c.remove.ensures.items (flat_without c.args.blocks.now.items c.args.place.block was c.requires.place.0 c.args.place.at (c.requires.place.1 was) one)

pub returns-then-len-eq1-clause-each : goal.returns-then-len-eq1-clause-each
returns-then-len-eq1-clause-each g c =
    rw c.remove.ensures.items (each_without c.args.blocks.now.items c.args.place.block c.index-3.result.now c.requires.place.0 c.requires.each)

pub returns-else-len-eq1-clause-slots : goal.returns-else-len-eq1-clause-slots
returns-else-len-eq1-clause-slots g c =
    let was : Block g.row.R.Denot g.row.A.Denot = c.index_mut.result.now in
    flat_cut c.args.blocks.now.items c.args.place.block was c.requires.place.0 c.remove-else-len-eq1.new.self c.args.place.at (c.requires.place.1 was)
    (c.remove-else-len-eq1.ensures.items ∙ ap (λ (x : Block g.row.R.Denot g.row.A.Denot). list_remove x.items c.args.place.at) c.index_mut.ensures.value)
