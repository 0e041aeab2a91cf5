-- The precondition of a call group's functions.
use Rattle.std.specs.Prelude.{◌≡◌, ℕ, ◌≤◌, true, Option}
use Rattle.hv_calls.specs.declared.call.Call.{Call}
use Rattle.hv_defs.specs.declared.sizes.TheConstants.{MAX_PAGES}
use Rattle.hv_invariants.specs.StateInvariant.{StateInvariant}
use Rattle.hv_partition.specs.Partition.{PartitionState}
use Rattle.hv_policy.specs.Flat.{Flat}
use Rattle.hv_policy.specs.Met.{is_running}
use Rattle.hv_policy.specs.Rules.{AreMet, first_unmet, further_asks, target_asks}
use Rattle.hv_policy.specs.declared.rule.Rule.{Rule}
use Rattle.hv_tree.specs.Rows.{Rows}
use Rattle.hv_admit.specs.Tie.{Refines}

-- the invariant of the tree: its rows refine a flat state for which `StateInvariant` holds
pub record TreeInvariant (rows : Rows PartitionState) : Type 0 where
  pub pages : ℕ
  pub bounded : pages ≤ MAX_PAGES
  pub flat : Flat
  pub tied : Refines rows flat
  pub lawful : StateInvariant pages flat

-- the precondition of a call: the invariant holds, and P1 to P10 hold for this call by this partition
pub record IsAdmitted (tree : Rows PartitionState) (caller : ℕ) (call : Call) : Type 0 where
  pub rows : TreeInvariant tree
  pub active : is_running rows.flat caller ≡ true
  pub target : AreMet (target_asks rows.flat caller call)

-- the first of a call's own rules that fails, if one does
abbrev pub unmet_further : Flat → ℕ → Call → Option Rule
unmet_further f caller call = first_unmet (further_asks f caller call)
