use Rattle.std.proofs.Common.{◌≡◌, arith, insert as list_insert}
use Rattle.std.proofs.lemmas.List.Edits.{length-insert}
use Rattle.hv_ports.specs.Blocks.{before, flat}
use Rattle.hv_ports.proofs.Places.{place_inside, place_within}
use Rattle.hv_ports.proofs.Rising.{rising-insert}
use Rattle.hv_ports.proofs.Tables.{added_of, not_free}
use Rattle.hv_ports.proofs.table.Table.insert.Goals as goal

pub unreachable-requires : goal.unreachable-requires
unreachable-requires g c =
    let bs = c.self.inside.blocks.items in
    let free = rw (← c.self.view_is) at c.requires.free in
    let place = rw c.as_slice.ensures.value at c.in_default.ensures.place in
    let found = rw c.as_slice.ensures.value at c.in_default.ensures.found in
    not_free (flat bs) c.args.id (before bs c.in_default.field-0) (c.args.id, c.args.row) c.self.invariant.rising free (place_inside bs c.in_default.field-0 place) (found (c.args.id, c.args.row))

pub invariant_of-self : goal.invariant_of-self
invariant_of-self g c =
    let bs = c.self.inside.blocks.items in
    let at = before bs c.in-Err.place in
    let room = rw (← c.self.view_is) at c.requires.room in
    let place = rw c.as_slice.ensures.value at c.in-Err.ensures.free in
    let gap = rw c.as_slice.ensures.value at c.in-Err.ensures.between in
    let le = place_within bs c.in-Err.place place in
    let more = length-insert (flat bs) at (c.args.id, c.args.row) le in
    let slots : flat c.put.new.blocks.items ≡ list_insert (flat bs) at (c.args.id, c.args.row) = c.put.ensures.slots in
    record {
      each = c.put.ensures.each;
      rising = rw slots (rising-insert (flat bs) c.args.id at c.args.row c.self.invariant.rising le gap);
      counted = rw slots (omega (arith, more, c.self.invariant.counted));
      few = omega (arith, room, c.self.invariant.counted);
      blank = c.put.ensures.blank;
      fits = c.put.ensures.fits;
    }

pub returns-clause-rows : goal.returns-clause-rows
returns-clause-rows g c =
    let bs = c.self.inside.blocks.items in
    let gap = rw c.as_slice.ensures.value at c.in-Err.ensures.between in
    rw (← c.self.view_is, c.put.ensures.slots) (added_of (flat bs) c.args.id (before bs c.in-Err.place) c.args.row gap)
