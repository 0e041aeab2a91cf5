use Rattle.std.proofs.Common.{◌≡◌, ◌+◌, ◌-◌, ◌≤◌, length, take}
use Rattle.hv_ports.specs.Blocks.{flat}
use Rattle.hv_ports.proofs.blocks.nth.Given as goal

abbrev pub invariant-loop-block : goal.invariant-loop-block
invariant-loop-block g l = (l.block ≤ length l.blocks) × (length (flat (take l.block l.blocks)) + l.at ≡ l.place)

abbrev pub decreases-loop-block : goal.decreases-loop-block
decreases-loop-block g l = length l.blocks - l.block
