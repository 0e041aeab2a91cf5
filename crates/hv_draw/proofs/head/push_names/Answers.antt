use Rattle.hv_draw.specs.Head.{IsName}
use Rattle.hv_draw.proofs.Heads.{name_added, no_part, one_part_more}
use Rattle.hv_draw.proofs.head.push_names.Goals as goal

pub loop-at-init : goal.loop-at-init
loop-at-init c = no_part (IsName c.args.vp c.args.x) _

pub loop-at-preserved : goal.loop-at-preserved
loop-at-preserved c = one_part_more (IsName c.args.vp c.args.x) _ _ _ c.loop-at.invariant (name_added _ _ _ _ _ _ c.in_ok-push_name.ensures)
