-- What is known of the tree's rows once the rules of a call are met.
use Rattle.std.proofs.Common.{◌≡◌, ℕ, Bool, true, Some, None, is_some, sym, ap, subst, ◌∙◌, option_map}
use Rattle.std.specs.FinMap.{get}
use Rattle.hv_calls.specs.declared.call.Call.{Call}
use Rattle.hv_invariants.proofs.MetRules as granted
use Rattle.hv_partition.specs.Partition.{PartitionState}
use Rattle.hv_policy.proofs.Unmet.{all_met}
use Rattle.hv_policy.specs.Flat.{Flat, PartRow}
use Rattle.hv_policy.specs.Met.{is_active, is_in, on_part, test_row}
use Rattle.hv_policy.specs.Needs.{is_among, needs_of, target_of}
use Rattle.hv_policy.specs.Rules.{IsAllowed, further_asks}
use Rattle.hv_policy.specs.declared.need.Kin.TheVariants as kin
use Rattle.hv_tree.specs.Rows.{Row, Rows}
use Rattle.hv_admit.proofs.FoundRow.{found}
use Rattle.hv_admit.specs.Served.{IsAdmitted, unmet_further}
use Rattle.hv_admit.specs.Tie.{Refines, part_row}

module _ (rows : Rows PartitionState) (f : Flat) (flat : Refines rows f) where
  -- the row that the flat state has
  pub tied_row : (id : ℕ) (row : PartRow) → get f.part id ≡ Some row → (r : Row PartitionState) × (get rows id ≡ Some r) × (part_row r ≡ row)
  tied_row id row h = let (r, is, same) = found (λ o. option_map part_row o ≡ Some row) (get rows id) (λ none. cc) (sym (flat.rows id).part ∙ h) in (r, is, cc)

  row_of : (id : ℕ) (test : PartRow → Bool) → on_part f id test ≡ true → (r : Row PartitionState) × (get rows id ≡ Some r) × (test (part_row r) ≡ true)
  row_of id test h = found (λ o. test_row test (option_map part_row o) ≡ true) (get rows id) (λ none. cc) (subst (λ row. test_row test row ≡ true) (flat.rows id).part h)

  there_row : (id : ℕ) → is_some (get f.part id) ≡ true → (r : Row PartitionState) × (get rows id ≡ Some r)
  there_row id h = let (r, is, some) = found (λ o. is_some (option_map part_row o) ≡ true) (get rows id) (λ none. cc) (sym (ap is_some (flat.rows id).part) ∙ h) in (r, is)

  module _ (caller : ℕ) (call : Call) (allowed : IsAllowed f caller call) where
    -- the caller is there, and Active
    pub caller_row : (r : Row PartitionState) × (get rows caller ≡ Some r) × (is_active r.1.life ≡ true)
    caller_row = row_of caller (λ row. is_active row.life) allowed.active

    -- the target is there
    pub target_row : (r : Row PartitionState) × (get rows (target_of call caller) ≡ Some r)
    target_row = there_row (target_of call caller) (granted.target_there f caller call allowed)

    -- and a child of the caller, where the call asks for one
    pub child_row : (needs_of call).kin ≡ kin.Child → (r : Row PartitionState) × (get rows (target_of call caller) ≡ Some r) × (r.0 ≡ Some caller)
    child_row is =
        let (row, there, parent) = granted.child_row f caller call allowed is in
        let (r, at, same) = tied_row (target_of call caller) row there in
        (r, at, ap {A = PartRow} (λ row. row.parent) same ∙ parent)

    -- the target is in one of the life states that the call allows, where it asks
    pub state_row : is_in f (target_of call caller) (needs_of call).states ≡ true → (r : Row PartitionState) × (get rows (target_of call caller) ≡ Some r) ×
        (is_among r.1.life (needs_of call).states ≡ true)
    state_row h = row_of (target_of call caller) (λ row. is_among row.life (needs_of call).states) h

-- a call that is admitted and meets its own rules is allowed
pub admitted_allowed : (rows : Rows PartitionState) (caller : ℕ) (call : Call) (a : IsAdmitted rows caller call) → unmet_further a.rows.flat caller call ≡ None → IsAllowed a.rows.flat caller call
admitted_allowed rows caller call a met = record {
  active = a.active;
  target = a.target;
  further = all_met (further_asks a.rows.flat caller call) met;
}
