use Rattle.std.proofs.Common.{◌≤◌, ◌∙◌, arith, ap, length}
use Rattle.hv_vp.specs.Vps.{cleared}
use Rattle.hv_vp.proofs.VpsLemmas.{cleared_seen, no_slots}
use Rattle.hv_vp.proofs.vps.Vps.clear.Goals as goal

pub invariant_of-self : goal.invariant_of-self
invariant_of-self g c = rw c.clear.ensures.items (no_slots g.row.A.Denot)

pub returns : goal.returns
returns g c =
    let slots = c.self.inside.slots in
    let within : length slots.items ≤ slots.cap = omega (arith, slots.ok.0, slots.ok.1) in
    rw c.clear.ensures.capacity (cleared_seen slots.items c.clear.new.self.items slots.cap c.self.invariant c.clear.ensures.items within)
    ∙ ap cleared c.self.view_is
