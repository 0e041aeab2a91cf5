-- What follows from what P1 to P10 found, and from the rules that hold.
use Rattle.std.proofs.Common.{◌≡◌, ℕ, Bool, true, [], ◌∷◌, ◌++◌, Some, None, sym, ◌∙◌, arith}
use Rattle.std.specs.FinMap.{contains_key}
use Rattle.hv_calls.specs.declared.call.Call.{Call}
use Rattle.hv_partition.specs.Partition.{PartitionState, available as may_use, in_use as uses}
use Rattle.hv_policy.proofs.Unmet.{all_met, first_of_back, first_of_front}
use Rattle.hv_policy.specs.Count.{available, in_use}
use Rattle.hv_policy.specs.Flat.{Flat}
use Rattle.hv_policy.specs.Met.{is_running}
use Rattle.hv_policy.specs.Needs.{target_of}
use Rattle.hv_policy.specs.Rules.{caller_asks, first_unmet, further_asks, target_asks}
use Rattle.hv_policy.specs.declared.event.Caller.{Caller}
use Rattle.hv_policy.specs.declared.need.Need.{Need}
use Rattle.hv_policy.specs.declared.rule.Rule.{Rule}
use Rattle.hv_policy.specs.declared.rule.Rule.TheVariants.{CallerActive, CallerExists, CallerVpExists}
use Rattle.hv_tree.specs.Rows.{Rows}
use Rattle.hv_admit.proofs.CountedRows.{available_counted, use_counted}
use Rattle.hv_admit.proofs.FoundRow.{content_row}
use Rattle.hv_admit.specs.Asked.{AreFound, IsGranted}
use Rattle.hv_admit.specs.Done.{unmet_in_tree}
use Rattle.hv_admit.specs.Served.{TreeInvariant, unmet_further}
use Rattle.hv_admit.specs.Tie.{Refines}

-- the balance of the target that was found
module _ (tree : Rows PartitionState) (f : Flat) (flat : Refines tree f) (by : ℕ) (call : Call) (need : Need) (caller target : PartitionState) (count : ℕ)
    (found : AreFound tree by call need caller target count) where
  pub found_available : may_use count target ≡ available f (target_of call by)
  found_available =
      let (r, is, same) = content_row tree (target_of call by) target (sym found.named) in
      (λ i. may_use (found.counted i) (sym same i)) ∙ sym (available_counted tree f flat (target_of call by) r is)

  pub found_use : uses count target ≡ in_use f (target_of call by)
  found_use =
      let (r, is, same) = content_row tree (target_of call by) target (sym found.named) in
      (λ i. uses (found.counted i) (sym same i)) ∙ sym (use_counted tree f flat (target_of call by) r is)

-- where P1 to P10 and a call's own rules hold, the call may be done
active_of : (p1 p2 p3 : Bool) → first_unmet ((CallerExists, p1) ∷ (CallerActive, p2) ∷ (CallerVpExists, p3) ∷ []) ≡ None → p2 ≡ true
active_of p1 p2 p3 met = grind arith

pub granted : (tree : Rows PartitionState) (by : Caller) (call : Call) (t : TreeInvariant tree) → first_unmet (caller_asks t.flat by) ≡ None → first_unmet (target_asks t.flat by.part call) ≡ None →
    unmet_further t.flat by.part call ≡ None → IsGranted tree by.part call
granted tree by call t caller target further = record {
  admitted = record {
    rows = t;
    active = active_of (contains_key t.flat.part by.part) (is_running t.flat by.part) (contains_key t.flat.vp (by.part, by.vp)) caller;
    target = all_met (target_asks t.flat by.part call) target;
  };
  met = further;
}

-- the first rule that fails
module _ (f : Flat) (by : Caller) (call : Call) where
  pub unmet_caller : (rule : Rule) → first_unmet (caller_asks f by) ≡ Some rule → unmet_in_tree f by call ≡ Some rule
  unfolding unmet_in_tree
  unmet_caller rule h = first_of_front (caller_asks f by) (target_asks f by.part call ++ further_asks f by.part call) rule h

  pub unmet_target : (rule : Rule) → first_unmet (caller_asks f by) ≡ None → first_unmet (target_asks f by.part call) ≡ Some rule → unmet_in_tree f by call ≡ Some rule
  unfolding unmet_in_tree
  unmet_target rule caller h =
      first_of_back (caller_asks f by) (target_asks f by.part call ++ further_asks f by.part call) caller
      ∙ first_of_front (target_asks f by.part call) (further_asks f by.part call) rule h

  -- where P1 to P10 hold, the call's own rules decide
  pub unmet_past : first_unmet (caller_asks f by) ≡ None → first_unmet (target_asks f by.part call) ≡ None → unmet_in_tree f by call ≡ unmet_further f by.part call
  unfolding unmet_in_tree
  unmet_past caller target =
      first_of_back (caller_asks f by) (target_asks f by.part call ++ further_asks f by.part call) caller
      ∙ first_of_back (target_asks f by.part call) (further_asks f by.part call) target
