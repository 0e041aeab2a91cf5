-- The properties of a partition: their codes and ranges, and where they are in a partition's row.
use Rattle.std.specs.Prelude.{ℕ, ◌==◌, ◌&&◌, nat_le, Bool, true, [], ◌∷◌, Option, find}
use Rattle.hv_defs.specs.declared.sizes.TheConstants.{MAX_CPU_CAP, MAX_CPU_RESERVE, MAX_CPU_WEIGHT}
use Rattle.hv_defs.specs.declared.sizes.TheConstants.{MIN_CPU_WEIGHT}
use Rattle.hv_privs.specs.Privileges.{bits_of, of}
use Rattle.hv_policy.specs.Flat.{PartRow}
use Rattle.hv_policy.specs.declared.property.Property.{Property}
use Rattle.hv_policy.specs.declared.property.Property.TheVariants.{PrivilegeFlags, CpuReserve, CpuCap}
use Rattle.hv_policy.specs.declared.property.Property.TheVariants.{CpuWeight}

-- the code of a property
abbrev pub property_code : Property → ℕ
property_code PrivilegeFlags = 0x00010000
property_code CpuReserve = 0x00020001
property_code CpuCap = 0x00020002
property_code CpuWeight = 0x00020003

-- the property with this code, if the profile has one
abbrev pub property_of : ℕ → Option Property
property_of code = find (λ property. property_code property == code)
    (PrivilegeFlags ∷ CpuReserve ∷ CpuCap ∷ CpuWeight ∷ [])

-- whether a value is in a property's range. Rule P18 says what a mask may be
abbrev pub takes_value : Property → ℕ → Bool
takes_value PrivilegeFlags value = true
takes_value CpuReserve value = nat_le value MAX_CPU_RESERVE
takes_value CpuCap value = nat_le value MAX_CPU_CAP
takes_value CpuWeight value = nat_le MIN_CPU_WEIGHT value && nat_le value MAX_CPU_WEIGHT

-- its value in a partition's row
abbrev pub property_value : Property → PartRow → ℕ
property_value PrivilegeFlags row = bits_of row.mask
property_value CpuReserve row = row.reserve
property_value CpuCap row = row.cap
property_value CpuWeight row = row.weight

-- the row with another value of the property
abbrev pub with_property : Property → ℕ → PartRow → PartRow
with_property PrivilegeFlags value row = record row { mask = of value }
with_property CpuReserve value row = record row { reserve = value }
with_property CpuCap value row = record row { cap = value }
with_property CpuWeight value row = record row { weight = value }
