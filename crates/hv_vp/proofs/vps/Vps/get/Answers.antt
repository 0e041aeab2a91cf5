use Rattle.std.proofs.Common.{◌∙◌, sym}
use Rattle.hv_vp.proofs.VpsLemmas.{none_of, seen_in}
use Rattle.hv_vp.proofs.vps.Vps.get.Goals as goal

pub returns-in-Some : goal.returns-in-Some
returns-in-Some g c =
    let scan = rw c.as_slice.ensures.value at (sym c.place_of.ensures.place ∙ c.in-Some.is) in
    rw (← c.self.view_is) (seen_in c.self.inside.slots.items c.args.index c.in-Some.place c.index.result.now c.index.ensures scan)

pub returns-in-None : goal.returns-in-None
returns-in-None g c =
    rw (← c.self.view_is, ← c.as_slice.ensures.value) (sym (none_of c.as_slice.result.now c.args.index (sym c.place_of.ensures.place ∙ c.in-None.is)))
