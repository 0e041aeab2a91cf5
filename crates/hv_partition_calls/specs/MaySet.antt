-- What the rules of HvSetPartitionProperty find.
use Rattle.std.specs.Prelude.{◌≡◌, ℕ, None, Some}
use Rattle.hv_calls.specs.declared.call.Call.TheVariants.{SetPartitionProperty}
use Rattle.hv_policy.specs.Effect.{narrows}
use Rattle.hv_policy.specs.Flat.{Flat}
use Rattle.hv_policy.specs.Needs.{target_of}
use Rattle.hv_policy.specs.Property.{property_of}
use Rattle.hv_admit.specs.Served.{unmet_further}
use Rattle.hv_partition_calls.specs.declared.set_property.Setting.{Setting}

-- the call's own rules hold, the code is that of the property, and the setting says whether the value narrows
-- the target's subtree
pub record MaySet (f : Flat) (caller partition code value : ℕ) (setting : Setting) : Type 0 where
  pub met : unmet_further f caller (SetPartitionProperty partition code value) ≡ None
  pub known : property_of code ≡ Some setting.property
  pub narrows : setting.narrows ≡ narrows (Some setting.property) f
      (target_of (SetPartitionProperty partition code value) caller)
