-- A plan, where the call is known to be this one, and the plan to have this value.
use Rattle.std.proofs.Common.{◌≡◌, ℕ, sym, subst, ◌∙◌}
use Rattle.hv_calls.specs.declared.call.Call.{Call}
use Rattle.hv_partition.specs.Partition.{PartitionState}
use Rattle.hv_policy.specs.declared.need.Need.{Need}
use Rattle.hv_admit.specs.Asked.{AreFound, IsGranted}
use Rattle.hv_tree.specs.Rows.{Rows}
use Rattle.hv_machine.specs.Plan.{IsPlanned, Leaves}
use Rattle.hv_machine.specs.declared.dispatch.Plan.{Plan}

module _ {call this : Call} (is : call ≡ this) where
  pub granted_as : {tree : Rows PartitionState} {by : ℕ} → IsGranted tree by call → IsGranted tree by this
  granted_as {tree} {by} granted = subst (IsGranted tree by) is granted

  pub found_as : {tree : Rows PartitionState} {by children : ℕ} {need : Need} {caller target : PartitionState} → AreFound tree by call need caller target children
      → AreFound tree by this need caller target children
  found_as {tree} {by} {children} {need} {caller} {target} found = subst (λ call. AreFound tree by call need caller target children) is found

  pub planned_as : (tree : Rows PartitionState) (by : ℕ) (left : Plan) → IsPlanned tree by call left → IsPlanned tree by this left
  planned_as tree by left planned = subst (λ call. IsPlanned tree by call left) is planned

-- the value in a plan of this kind has its property
pub fits_as : {X : Type 0} {made : X → Plan} {Fits : X → Type 0} {left : Plan} → ((a b : X) → made a ≡ made b → a ≡ b) → Leaves made Fits left → (x : X) → left ≡ made x → Fits x
fits_as {Fits = Fits} one leaves x is = subst Fits (one leaves.value x (sym leaves.is ∙ is)) leaves.fits
