-- Changes to the state of one processor of a partition.
use Rattle.std.specs.Prelude.{ℕ, Option, None, Some}
use Rattle.std.specs.FinMap.{FinMap, get, insert}
use Rattle.std.specs.Ordering.{nat_cmp}
use Rattle.hv_partition.specs.Partition.{PartitionState}
use Rattle.hv_vp.specs.Vp.{VpState}

-- the processors after `g` changes the one at `index`, whose state, if it exists, is the last argument
abbrev pub state_changed : FinMap nat_cmp VpState → ℕ → (VpState → VpState) → Option VpState → FinMap nat_cmp
    VpState
state_changed vps index g None = vps
state_changed vps index g (Some vp) = insert vps index (g vp)

-- the partition after `g` changes its processor at `index`, if it exists
abbrev pub with_state_of : ℕ → (VpState → VpState) → PartitionState → PartitionState
with_state_of index g p = record p {
  vps = record p.vps
      { vps = state_changed p.vps.vps index g (get p.vps.vps index) };
}
