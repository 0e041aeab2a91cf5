-- The ids so far were tested.
use Rattle.std.proofs.Common.{◌≡◌, take}
use Rattle.std.specs.List.{filter}
use Rattle.hv_draw.proofs.WayUp.{is_in}
use Rattle.hv_draw.proofs.above.with_above.Given as goal

abbrev pub invariant-loop-id : goal.invariant-loop-id
invariant-loop-id l = l.shown.items ≡ filter (is_in l.way.items) (take l.id-index l.ids)
