use Rattle.hv_draw.proofs.Heads.{head_of}
use Rattle.hv_draw.proofs.head.head.Goals as goal

pub returns : goal.returns
returns c =
    head_of _ _ _ _ _ _ _ _ c.new-text.ensures.items c.in_ok-push_size.ensures c.in_ok-push.ensures c.in_ok-push-2.ensures c.in_ok-push_lanes.ensures c.in_ok-push_ends.ensures
