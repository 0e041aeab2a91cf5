use Rattle.std.proofs.Common.{◌≡◌, ◌≤◌, ◌-◌, ◌+◌, true, drop, length}
use Rattle.hv_tree.specs.Index.{parents}
use Rattle.hv_tree.specs.Lines.{lines}
use Rattle.hv_tree.specs.Nest.{has_row, place}
use Rattle.hv_tree.specs.Way.{above, depth, line}
use Rattle.hv_tree.specs.declared.index.TheConstants.{MOST}
use Rattle.hv_tree.specs.declared.path.TheConstants.{NEAR}
use Rattle.hv_tree.proofs.path.climb.Given as goal

abbrev pub invariant-loop-step : goal.invariant-loop-step
invariant-loop-step g l =
    (depth (parents l.index) MOST l.id ≡ depth (parents l.index) (MOST - l.step) l.at + l.step)
    × (has_row l.at (lines l.root) ≡ true → has_row l.id (lines l.root) ≡ true)
    × (has_row l.id (lines l.root) ≡ true → (has_row l.at (lines l.root) ≡ true) × (place l.at (lines l.root) + l.step ≤ place l.id (lines l.root)))
    × (length l.ids ≡ NEAR)
    × (l.at ≡ above (parents l.index) l.step l.id)
    × (l.step ≤ NEAR → drop (NEAR - l.step) l.ids ≡ line (parents l.index) l.step l.id)
