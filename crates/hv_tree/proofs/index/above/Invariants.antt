use Rattle.std.proofs.Common.{◌≡◌, ◌-◌}
use Rattle.hv_tree.specs.Index.{parents}
use Rattle.hv_tree.specs.Way.{above}
use Rattle.hv_tree.proofs.index.above.Given as goal

abbrev pub invariant-loop-step : goal.invariant-loop-step
invariant-loop-step g l = above (parents l.index) l.steps l.id ≡ above (parents l.index) (l.steps - l._step) l.at
