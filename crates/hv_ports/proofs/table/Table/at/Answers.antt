use Rattle.std.proofs.Common.{ap, sym, slice_get, ◌∙◌}
use Rattle.hv_ports.specs.Blocks.{flat}
use Rattle.hv_ports.proofs.Tables.{entries-rows_of}
use Rattle.hv_ports.proofs.table.Table.at.Goals as goal

pub returns : goal.returns
returns g c =
    let nth = rw c.as_slice.ensures.value at c.nth.ensures in
    rw (← c.self.view_is) (nth ∙ sym (ap (λ rows. slice_get rows c.args.place) (entries-rows_of (flat c.self.inside.blocks.items) c.self.invariant.rising)))
