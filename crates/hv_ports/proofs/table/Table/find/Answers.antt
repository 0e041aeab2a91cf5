use Rattle.std.proofs.Common.{ℕ, ◌<◌, Some, arith, ap, length, sym, ◌∙◌}
use Rattle.hv_ports.specs.Blocks.{before, flat}
use Rattle.hv_ports.proofs.BlockLists.{inside, row_at}
use Rattle.hv_ports.proofs.Tables.{none_of, some_of}
use Rattle.hv_ports.proofs.table.Table.find.Goals as goal

pub returns-in-Ok : goal.returns-in-Ok
returns-in-Ok g c =
    let bs = c.self.inside.blocks.items in
    let place = rw c.as_slice.ensures.value at c.in-Ok.ensures.place in
    let found = rw c.as_slice.ensures.value at (c.in-Ok.ensures.found c.index-in-Ok.result.now) in
    let at_lt = place.1 c.index.result.now in
    let slot = row_at bs c.in-Ok.place.block c.in-Ok.place.at c.index.result.now c.index-in-Ok.result.now c.index-in-Ok.result.now place.0 c.index.ensures at_lt c.index-in-Ok.ensures in
    let most = inside bs c.in-Ok.place.block c.index.result.now place.0 in
    let within : before bs c.in-Ok.place < length (flat bs) = omega (arith, most, at_lt) in
    rw (← c.self.view_is) (ap (λ (s : ℕ × g.row.R.Denot). Some s.1) slot ∙ sym (some_of (flat bs) c.args.id (before bs c.in-Ok.place) c.index-in-Ok.result.now c.self.invariant.rising within found))

pub returns-in-Err : goal.returns-in-Err
returns-in-Err g c =
    let bs = c.self.inside.blocks.items in
    let gap = rw c.as_slice.ensures.value at c.in-Err.ensures.between in
    rw (← c.self.view_is) (sym (none_of (flat bs) c.args.id (before bs c.in-Err.field-0) gap))
