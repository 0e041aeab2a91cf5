use Rattle.std.proofs.Common.{◌∙◌}
use Rattle.hv_vp.proofs.AllSlots.{lowest_in_all}
use Rattle.hv_vp.specs.Vps.{is_ready}
use Rattle.hv_vp.proofs.vps.Vps.lowest_ready_vp.Goals as goal

pub returns : goal.returns
returns g c =
    rw (← c.self.view_is, ← c.as_slice.ensures.value) (c.lowest_of.ensures ∙ lowest_in_all (is_ready c.args.kind) c.as_slice.result.now (rw (← c.as_slice.ensures.value) at c.self.invariant.distinct))
