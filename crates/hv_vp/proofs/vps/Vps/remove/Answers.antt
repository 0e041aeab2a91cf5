use Rattle.std.proofs.Common.{◌∙◌, sym, ap, is_some}
use Rattle.hv_vp.proofs.VpsLemmas.{none_of, one_less, removed_of, some_of, unchanged}
use Rattle.hv_vp.proofs.vps.Vps.remove.Goals as goal

pub returns-in_default-clause-held : goal.returns-in_default-clause-held
returns-in_default-clause-held g c =
    let none = none_of c.as_slice.result.now c.args.index (sym c.place_of.ensures.place ∙ c.in_default.is) in
    rw (← c.self.view_is, ← c.as_slice.ensures.value) (sym (ap is_some none))

pub returns-in_default-clause-vps : goal.returns-in_default-clause-vps
returns-in_default-clause-vps g c =
    let none = none_of c.as_slice.result.now c.args.index (sym c.place_of.ensures.place ∙ c.in_default.is) in
    rw (← c.self.view_is, ← c.as_slice.ensures.value) (unchanged c.as_slice.result.now c.args.index none)

pub invariant_of-self : goal.invariant_of-self
invariant_of-self g c =
    let below = rw c.as_slice.ensures.value at (rw c.in-Some.is at c.place_of.ensures.within) in
    rw c.remove.ensures.items (one_less c.self.inside.slots.items c.in-Some.place below c.self.invariant)

pub returns-clause-held : goal.returns-clause-held
returns-clause-held g c =
    let there = some_of c.as_slice.result.now c.args.index c.in-Some.place c.remove.result (sym c.place_of.ensures.place ∙ c.in-Some.is) in
    rw (← c.self.view_is, ← c.as_slice.ensures.value) (sym (ap is_some there))

pub returns-clause-vps : goal.returns-clause-vps
returns-clause-vps g c =
    let scan = rw c.as_slice.ensures.value at (sym c.place_of.ensures.place ∙ c.in-Some.is) in
    rw (← c.self.view_is, c.remove.ensures.items) (removed_of c.self.inside.slots.items c.args.index c.in-Some.place c.remove.result c.self.invariant.distinct scan)
