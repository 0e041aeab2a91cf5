-- The effect of a new property value, and of a narrowed mask, on one partition.
use Rattle.std.specs.Prelude.{ℕ}
use Rattle.hv_partition.specs.Partition.{PartitionState}
use Rattle.hv_policy.specs.declared.property.Property.{Property}
use Rattle.hv_policy.specs.declared.property.Property.TheVariants.{PrivilegeFlags, CpuReserve, CpuCap}
use Rattle.hv_policy.specs.declared.property.Property.TheVariants.{CpuWeight}
use Rattle.hv_privs.specs.Privileges.{of, restrict}
use Rattle.hv_privs.specs.declared.Privileges.{Privileges}

-- the partition with a property set to this value
abbrev pub given : Property → ℕ → PartitionState → PartitionState
given PrivilegeFlags value p = record p { mask = of value }
given CpuReserve value p = record p { reserve = value }
given CpuCap value p = record p { cap = value }
given CpuWeight value p = record p { weight = value }

-- the partition with its mask restricted to this value
abbrev pub narrowed : Privileges → PartitionState → PartitionState
narrowed value p = record p { mask = restrict p.mask value }
