use Rattle.std.proofs.Common.{nat_lt, ◌∙◌, ap}
use Rattle.hv_vp.proofs.AllSlots.{kept_in_all}
use Rattle.hv_vp.proofs.vps.Vps.keep_fewer.Goals as goal

pub returns : goal.returns
returns g c =
    rw (← c.self.view_is, ← c.as_slice.ensures.value) (c.keep_fewer.ensures ∙ ap (λ n. nat_lt n c.args.most)
    (kept_in_all c.args.port c.args.born c.as_slice.result.now (rw (← c.as_slice.ensures.value) at c.self.invariant.distinct)))
