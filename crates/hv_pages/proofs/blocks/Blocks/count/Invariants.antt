use Rattle.std.proofs.Common.{◌≡◌, ◌-◌, ◌≤◌, length, take}
use Rattle.hv_pages.specs.Blocks.{flat}
use Rattle.hv_pages.proofs.blocks.Blocks.count.Given as goal

abbrev pub invariant-loop-at : goal.invariant-loop-at
invariant-loop-at g l = (l.at ≤ length l.self.blocks.items) × (l.count ≡ length (flat (take l.at l.self.blocks.items)))

abbrev pub decreases-loop-at : goal.decreases-loop-at
decreases-loop-at g l = length l.self.blocks.items - l.at
