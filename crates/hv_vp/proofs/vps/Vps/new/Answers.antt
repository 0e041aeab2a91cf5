use Rattle.hv_vp.proofs.VpsLemmas.{no_slots, none_seen}
use Rattle.hv_vp.proofs.vps.Vps.new.Goals as goal

pub invariant_of-result : goal.invariant_of-result
invariant_of-result g c = rw c.new.ensures.items (no_slots g.row.A.Denot)

pub returns : goal.returns
returns g c = none_seen c.new.result.items c.new.result.cap c.new.ensures.items c.new.ensures.capacity
