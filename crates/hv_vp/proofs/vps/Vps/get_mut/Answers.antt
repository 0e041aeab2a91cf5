use Rattle.std.proofs.Common.{◌∙◌, sym, ap, inl, inr}
use Rattle.hv_vp.proofs.VpsLemmas.{lent, none_of, same_name, seen_in, still_slots}
use Rattle.hv_vp.proofs.vps.Vps.get_mut.Goals as goal

pub invariant_of-self-lent : goal.invariant_of-self-lent
invariant_of-self-lent g c = λ w. still_slots c.self.inside.slots.items c.in-Some.place c.index_mut.result.now c.self.invariant c.index_mut.ensures.value w

pub returns-in-Some : goal.returns-in-Some
returns-in-Some g c =
    let slots = c.self.inside.slots.items in
    let scan = rw c.as_slice.ensures.value at (sym c.place_of.ensures.place ∙ c.in-Some.is) in (
      ap inl (same_name (lent slots c.self.inside.slots.cap c.args.index c.in-Some.place c.index_mut.result.now c.args.self.now c.self.invariant c.index_mut.ensures.value scan c.self.view_is)),
      record { writes_back = tt; value = rw (← c.self.view_is) (seen_in slots c.args.index c.in-Some.place c.index_mut.result.now c.index_mut.ensures.value scan) },
    )

pub returns-in-None : goal.returns-in-None
returns-in-None g c =
    let none = none_of c.as_slice.result.now c.args.index (sym c.place_of.ensures.place ∙ c.in-None.is) in
    (ap inr c.self.view_is, record { writes_back = tt; value = rw (← c.self.view_is, ← c.as_slice.ensures.value) (sym none) })
