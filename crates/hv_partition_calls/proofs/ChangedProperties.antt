-- What a new value of a property makes of the rows is what the model makes of its state.
use Rattle.std.proofs.Common.{◌≡◌, ℕ, false, if◌then◌else◌, Some, refl, sym, subst}
use Rattle.hv_partition.specs.Partition.{PartitionState}
use Rattle.hv_policy.specs.Effect.{given as given_row, narrowed, narrows, property_set, with_row}
use Rattle.hv_policy.specs.Flat.{Flat}
use Rattle.hv_policy.specs.declared.property.Property.{Property}
use Rattle.hv_policy.specs.declared.property.Property.TheVariants.{PrivilegeFlags, CpuReserve, CpuCap, CpuWeight}
use Rattle.hv_privs.specs.Privileges.{of}
use Rattle.hv_admit.proofs.ChangedPartition.{changed_tied}
use Rattle.hv_admit.specs.Tie.{Refines}
use Rattle.hv_tree.specs.Rows.{Rows, change}
use Rattle.hv_partition_calls.specs.Given.{given}

module _ (rows : Rows PartitionState) (f : Flat) (flat : Refines rows f) (target : ℕ) where
  -- a property that gets its new value
  given_tied : (property : Property) (value : ℕ) → Refines (change rows target (given property value)) (record f { part = with_row f.part target (given_row (Some property) value) })
  given_tied PrivilegeFlags value = changed_tied rows f flat target (given PrivilegeFlags value) (given_row (Some PrivilegeFlags) value) (λ _. refl) (λ _. refl) (λ _. refl) (λ _. refl) (λ _. refl)
      (λ _. refl)
  given_tied CpuReserve value = changed_tied rows f flat target (given CpuReserve value) (given_row (Some CpuReserve) value) (λ _. refl) (λ _. refl) (λ _. refl) (λ _. refl) (λ _. refl) (λ _. refl)
  given_tied CpuCap value = changed_tied rows f flat target (given CpuCap value) (given_row (Some CpuCap) value) (λ _. refl) (λ _. refl) (λ _. refl) (λ _. refl) (λ _. refl) (λ _. refl)
  given_tied CpuWeight value = changed_tied rows f flat target (given CpuWeight value) (given_row (Some CpuWeight) value) (λ _. refl) (λ _. refl) (λ _. refl) (λ _. refl) (λ _. refl) (λ _. refl)

  -- and so it is what setting it makes, where that narrows nothing
  pub set_tied : (new : Rows PartitionState) (property : Property) (value : ℕ) → narrows (Some property) f target ≡ false → new ≡ change rows target (given property value) → Refines new
      (record f { part = property_set f target (Some property) value })
  set_tied new property value off is =
      subst (λ b. Refines new (record f { part = if b then narrowed f target (of value) else with_row f.part target (given_row (Some property) value) })) (sym off)
      (subst (λ rows. Refines rows (record f { part = with_row f.part target (given_row (Some property) value) })) (sym is) (given_tied property value))
