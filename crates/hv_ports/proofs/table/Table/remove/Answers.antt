use Rattle.std.proofs.Common.{◌≡◌, ◌<◌, Some, arith, ap, sym, ◌∙◌, remove as list_remove}
use Rattle.std.proofs.lemmas.List.Edits.{length-remove}
use Rattle.std.proofs.lemmas.List.Quantifiers.{all_pairs_remove}
use Rattle.hv_ports.specs.Blocks.{before, flat}
use Rattle.hv_ports.proofs.Places.{place_inside}
use Rattle.hv_ports.proofs.Tables.{none_of, removed_of, some_of, still_fits, unchanged}
use Rattle.hv_ports.proofs.table.Table.remove.Goals as goal

pub overflow_sub-self : goal.overflow_sub-self
overflow_sub-self g c =
    let place = rw c.as_slice.ensures.value at c.in-Ok.ensures.place in
    let within = place_inside c.self.inside.blocks.items c.in-Ok.place place in
    omega (arith, within, c.self.invariant.counted)

pub invariant_of-self : goal.invariant_of-self
invariant_of-self g c =
    let bs = c.self.inside.blocks.items in
    let at = before bs c.in-Ok.place in
    let place = rw c.as_slice.ensures.value at c.in-Ok.ensures.place in
    let within = place_inside bs c.in-Ok.place place in
    let less = length-remove (flat bs) at within in
    let slots : flat c.take.new.blocks.items ≡ list_remove (flat bs) at = c.take.ensures.slots in
    record {
      each = c.take.ensures.each;
      rising = rw slots (all_pairs_remove (λ slot later. slot.0 < later.0) (flat bs) at within c.self.invariant.rising);
      counted = rw slots (omega (arith, less, c.self.invariant.counted));
      few = omega (arith, c.self.invariant.few);
      blank = c.self.invariant.blank;
      fits = still_fits c.self.inside.spare c.self.inside.blocks.len
          c.take.new.blocks.len c.self.inside.blocks.cap c.take.new.blocks.cap c.take.ensures.len c.take.ensures.capacity c.self.invariant.fits;
    }

pub returns-in-Ok-clause-row : goal.returns-in-Ok-clause-row
returns-in-Ok-clause-row g c =
    let bs = c.self.inside.blocks.items in
    let place = rw c.as_slice.ensures.value at c.in-Ok.ensures.place in
    let found = rw c.as_slice.ensures.value at (c.in-Ok.ensures.found (c.args.id, c.take.result)) in
    rw (← c.self.view_is) (ap Some (c.take.ensures.row (c.args.id, c.take.result))
    ∙ sym (some_of (flat bs) c.args.id (before bs c.in-Ok.place) (c.args.id, c.take.result) c.self.invariant.rising (place_inside bs c.in-Ok.place place) found))

pub returns-in-Ok-clause-rows : goal.returns-in-Ok-clause-rows
returns-in-Ok-clause-rows g c =
    let bs = c.self.inside.blocks.items in
    let place = rw c.as_slice.ensures.value at c.in-Ok.ensures.place in
    let found = rw c.as_slice.ensures.value at (c.in-Ok.ensures.found (c.args.id, c.take.result)) in
    rw (← c.self.view_is, c.take.ensures.slots)
    (removed_of (flat bs) c.args.id (before bs c.in-Ok.place) (c.args.id, c.take.result) c.self.invariant.rising (place_inside bs c.in-Ok.place place) found)

pub returns-in-Err-clause-row : goal.returns-in-Err-clause-row
returns-in-Err-clause-row g c =
    let bs = c.self.inside.blocks.items in
    let gap = rw c.as_slice.ensures.value at c.in-Err.ensures.between in
    rw (← c.self.view_is) (sym (none_of (flat bs) c.args.id (before bs c.in-Err.field-0) gap))

pub returns-in-Err-clause-rows : goal.returns-in-Err-clause-rows
returns-in-Err-clause-rows g c =
    let bs = c.self.inside.blocks.items in
    let gap = rw c.as_slice.ensures.value at c.in-Err.ensures.between in
    rw (← c.self.view_is) (unchanged _ c.args.id (none_of (flat bs) c.args.id (before bs c.in-Err.field-0) gap))
