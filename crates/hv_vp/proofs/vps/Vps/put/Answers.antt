use Rattle.hv_vp.proofs.VpsLemmas.{added_of, one_more}
use Rattle.hv_vp.proofs.vps.Vps.put.Goals as goal

pub invariant_of-self : goal.invariant_of-self
invariant_of-self g c =
    let free = rw (← c.self.view_is) at c.requires.free in
    let room = rw (← c.self.view_is) at c.requires.room in
    let pushed = rw c.unwrap.ensures at c.push.ensures.items in
    rw pushed (one_more c.self.inside.slots.items (record { index = c.args.index; vp = c.args.vp }) free c.self.invariant c.self.inside.slots.cap room)

pub returns-clause-vps : goal.returns-clause-vps
returns-clause-vps g c =
    let free = rw (← c.self.view_is) at c.requires.free in
    let pushed = rw c.unwrap.ensures at c.push.ensures.items in
    rw (← c.self.view_is, pushed) (added_of c.self.inside.slots.items (record { index = c.args.index; vp = c.args.vp }) free)
