-- The properties of partitions.
use Rattle.std.specs.Prelude.{ℕ, false, is_some, [], ◌∷◌, Some, None}
use Rattle.std.specs.FinMap.{get}
use Rattle.std.specs.Int.{w64, to_le_bytes}
use Rattle.hv_abi.specs.declared.call_kind.TheConstants.{GET_PARTITION_PROPERTY, SET_PARTITION_PROPERTY}
use Rattle.hv_policy.specs.Change.{property_set}
use Rattle.hv_policy.specs.Met.{is_in, is_in_range, may_give}
use Rattle.hv_policy.specs.Policy.{CallPolicy, needs}
use Rattle.hv_policy.specs.Property.{property_of}
use Rattle.hv_policy.specs.Reading.{value_of}
use Rattle.hv_policy.specs.Target.{states_to_set}
use Rattle.hv_policy.specs.declared.need.Kin.TheVariants as kin
use Rattle.hv_policy.specs.declared.need.States.TheVariants as states
use Rattle.hv_policy.specs.declared.rule.Rule.TheVariants.{PropertyKnown, PropertyRange, Entitlement}
use Rattle.hv_policy.specs.declared.rule.Rule.TheVariants.{TargetState}
use Rattle.hv_privs.specs.declared.TheConstants.Privileges as privilege

-- HvGetPartitionProperty: returns the value of the target's property with this code.
abbrev pub get_partition_property : ℕ → ℕ → CallPolicy
get_partition_property partition code = record {
  row = GET_PARTITION_PROPERTY;
  need = needs privilege.CREATE_PARTITIONS kin.CallerOrChild (Some partition) states.Any 0;
  memory = false;
  asks = λ f caller target states charge. (PropertyKnown, is_some (property_of code)) ∷ [];
  output = λ f caller target. to_le_bytes w64 (value_of (property_of code) (get f.part target));
  effect = None;
}

-- HvSetPartitionProperty: sets a property of the target. The mask of an Active target narrows its subtree.
abbrev pub set_partition_property : ℕ → ℕ → ℕ → CallPolicy
set_partition_property partition code value = record {
  row = SET_PARTITION_PROPERTY;
  need = needs privilege.CREATE_PARTITIONS kin.Child (Some partition) (states_to_set (property_of code)) 0;
  memory = false;
  asks = λ f caller target states charge.
      (PropertyKnown, is_some (property_of code)) ∷ (TargetState, is_in f target states)
      ∷ (Entitlement, may_give (property_of code) value f caller) ∷
      (PropertyRange, is_in_range (property_of code) value) ∷ [];
  output = λ f caller target. [];
  effect = Some (λ f caller target. record f { part = property_set f target (property_of code) value });
}
