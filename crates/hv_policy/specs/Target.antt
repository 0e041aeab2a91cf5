-- The target of a call: the partition that an id means, and the life states that it may be in.
use Rattle.std.specs.Prelude.{ℕ, ◌==◌, Bool, true, false, if◌then◌else◌, Option, None, Some}
use Rattle.hv_defs.specs.declared.life.Life.{Life}
use Rattle.hv_defs.specs.declared.life.Life.TheVariants as life
use Rattle.hv_defs.specs.declared.sizes.TheConstants.{SELF_ID}
use Rattle.hv_policy.specs.declared.need.States.{States}
use Rattle.hv_policy.specs.declared.need.States.TheVariants as states
use Rattle.hv_policy.specs.declared.property.Property.{Property}
use Rattle.hv_policy.specs.declared.property.Property.TheVariants.{PrivilegeFlags, CpuReserve, CpuCap}
use Rattle.hv_policy.specs.declared.property.Property.TheVariants.{CpuWeight}

-- whether a life state is one of these
abbrev pub is_among : Life → States → Bool
is_among life states.Any = true
is_among life.Created states.Created = true
is_among life.Active states.Active = true
is_among life.Created states.CreatedOrActive = true
is_among life.Active states.CreatedOrActive = true
is_among life.Created states.CreatedOrFinalized = true
is_among life.Finalized states.CreatedOrFinalized = true
is_among life states = false

-- the life states in which a property may be set: before the partition runs, and while it runs
abbrev pub states_to_set : Option Property → States
states_to_set None = states.Created
states_to_set (Some PrivilegeFlags) = states.CreatedOrActive
states_to_set (Some CpuReserve) = states.CreatedOrActive
states_to_set (Some CpuCap) = states.CreatedOrActive
states_to_set (Some CpuWeight) = states.CreatedOrActive

-- the partition that an id in a block means: all ones is the caller's own
abbrev pub resolved_id : ℕ → ℕ → ℕ
resolved_id caller id = if id == SELF_ID then caller else id

abbrev pub target_at : Option ℕ → ℕ → ℕ
target_at None caller = caller
target_at (Some id) caller = resolved_id caller id
