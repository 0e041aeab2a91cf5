use Rattle.std.proofs.Common.{◌∙◌, arith, sym}
use Rattle.hv_vp.proofs.VpsLemmas.{count_of}
use Rattle.hv_vp.proofs.vps.Vps.count.Goals as goal

pub returns : goal.returns
returns g c = rw (← c.self.view_is) (c.len.ensures ∙ c.self.inside.slots.ok.0 ∙ sym (count_of c.self.inside.slots.items c.self.invariant.distinct))

pub overflow_cast-result : goal.overflow_cast-result
overflow_cast-result g c = omega (arith, c.self.invariant.few, c.self.inside.slots.ok.0, c.len.ensures)
