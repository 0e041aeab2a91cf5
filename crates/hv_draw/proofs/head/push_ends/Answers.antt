use Rattle.hv_draw.specs.Head.{IsEnd}
use Rattle.hv_draw.proofs.Heads.{no_part, one_part_more}
use Rattle.hv_draw.proofs.head.push_ends.Goals as goal

pub loop-at-init : goal.loop-at-init
loop-at-init c = no_part IsEnd _

pub loop-at-preserved : goal.loop-at-preserved
loop-at-preserved c = one_part_more IsEnd _ _ _ c.loop-at.invariant c.in_ok-push_end.ensures
