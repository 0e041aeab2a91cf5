-- How many partitions there are: each but the root took an event of the run.
use Rattle.std.proofs.Common.{◌≡◌, ℕ, ◌+◌, ◌-◌, ◌≤◌, ◌==◌, Bool, true, false, cond, if◌then◌else◌, List, [], ◌∷◌, length, Option, Some, None, refl, sym, ap, ◌∙◌, arith, count_by, option_map, nat_cmp}
use Rattle.std.proofs.lemmas.List.Sums.{sum_by-cons}
use Rattle.std.specs.Cmp.{nat_cmp_total}
use Rattle.std.specs.FinMap.{FinMap, contains_key, empty, entries, get, insert, len, len-empty, len-entries, len-insert, len-remove, nat_cmp-IsAntisymmetric, remove}
use Rattle.hv_calls.specs.declared.call.Call.{Call}
use Rattle.hv_calls.specs.declared.call.Call.TheVariants.{CreatePartition, InitializePartition, FinalizePartition, DeletePartition, SetPartitionProperty, SetVpRegisters, PostMessage, SignalEvent}
use Rattle.hv_defs.proofs.Counts.{passes}
use Rattle.hv_defs.proofs.Tallies.{count-fewer}
use Rattle.hv_defs.specs.Registers.{name_of_msr}
use Rattle.hv_defs.specs.declared.life.Life.TheVariants.{Active, Finalized}
use Rattle.hv_defs.specs.declared.sizes.TheConstants.{ROOT_ID}
use Rattle.hv_policy.specs.Aim.{aim_of}
use Rattle.hv_policy.specs.Boot.{boot, root_row}
use Rattle.hv_policy.specs.Call.{called}
use Rattle.hv_policy.specs.Effect.{action_effect, call_effect, changed_at, given, mask_of, narrowed, narrowed_row, narrows, new_row, post_to, served_effect, signal_to, with_row, write_msr}
use Rattle.hv_policy.specs.Effect.{write_register}
use Rattle.hv_policy.specs.Flat.{Flat, PartRow}
use Rattle.hv_policy.specs.Needs.{target_of}
use Rattle.hv_policy.specs.Property.{property_of}
use Rattle.hv_policy.proofs.Rows.{get-narrowed}
use Rattle.hv_policy.specs.Rules.{unmet}
use Rattle.hv_policy.specs.Step.{run, run_from, step, step_by}
use Rattle.hv_policy.specs.Subtree.{is_in_subtree}
use Rattle.hv_policy.specs.declared.config.Config.{Config}
use Rattle.hv_policy.specs.declared.event.Action.{Action}
use Rattle.hv_policy.specs.declared.event.Action.TheVariants.{Hypercall, WriteMsr}
use Rattle.hv_policy.specs.declared.event.Caller.{Caller}
use Rattle.hv_policy.specs.declared.event.Event.{Event}
use Rattle.hv_policy.specs.declared.property.Property.{Property}
use Rattle.hv_policy.specs.declared.rule.Rule.{Rule}
use Rattle.hv_privs.specs.Privileges.{of}
use Rattle.hv_privs.specs.declared.Privileges.{Privileges}
use Rattle.hv_invariants.proofs.MessageChanges.{msr_counted, posted_counted, register_counted, signalled_counted}

-- a row that comes in is at most one more
one_more : (part : FinMap nat_cmp PartRow) (id : ℕ) (row : PartRow) → len (insert part id row) ≤ len part + 1
one_more part id row = by (contains_key part id) (len-insert nat_cmp_total part id row)
  where
    by : (b : Bool) → len (insert part id row) ≡ cond b (len part) (len part + 1) → len (insert part id row) ≤ len part + 1
    by true is = omega arith
    by false is = omega arith

-- one that goes is none more
none_more : (part : FinMap nat_cmp PartRow) (id : ℕ) → len (remove part id) ≤ len part + 1
none_more part id = by (contains_key part id) (len-remove nat_cmp_total part id)
  where
    by : (b : Bool) → len (remove part id) ≡ cond b (len part - 1) (len part) → len (remove part id) ≤ len part + 1
    by true is = omega arith
    by false is = omega arith

-- nor is one that changes
changed_more : (part : FinMap nat_cmp PartRow) (id : ℕ) (change : PartRow → PartRow) (row : Option PartRow) → len (changed_at part id change row) ≤ len part + 1
changed_more part id change None = omega arith
changed_more part id change (Some row) = one_more part id (change row)

-- the same partitions are none more
as_many : (f g : Flat) → g.part ≡ f.part → len g.part ≤ len f.part + 1
as_many f g same = let many = ap (λ (part : FinMap nat_cmp PartRow). len part) same in omega arith

counted_all : (es : List (ℕ × PartRow)) → count_by (λ _. true) es ≡ length es
counted_all [] = refl
counted_all (e ∷ es) = let one = sum_by-cons (λ (_ : ℕ × PartRow). 1) e es in let rest = counted_all es in omega arith

-- as many partitions are there when a subtree is narrowed
narrowed_more : (f : Flat) (top : ℕ) (value : Privileges) → len (narrowed f top value) ≤ len f.part + 1
narrowed_more f top value =
    let few = count-fewer nat_cmp_total nat_cmp-IsAntisymmetric (λ _. true) (λ _. true) (narrowed f top value) f.part
    (λ q is. by q (get f.part q) (sym (ap (passes (λ _. true) q) (get-narrowed f top value q)) ∙ is)) in
    let new = counted_all (entries (narrowed f top value)) in
    let old = counted_all (entries f.part) in
    let new_len = len-entries (narrowed f top value) in
    let old_len = len-entries f.part in
    omega arith
  where
    by : (q : ℕ) (r : Option PartRow) → passes (λ _. true) q (option_map (λ row. if is_in_subtree f top q then narrowed_row value row else row) r) ≡ true → passes (λ (_ : ℕ × PartRow). true) q r ≡
        true
    by q None h = h
    by q (Some row) h = refl

set_more : (b : Bool) (f : Flat) (target : ℕ) (property : Option Property) (value : ℕ) → len (if b then narrowed f target (of value) else with_row f.part target (given property value)) ≤ len f.part +
    1
set_more true f target property value = narrowed_more f target (of value)
set_more false f target property value = changed_more f.part target (given property value) (get f.part target)

-- a call makes at most one partition
call_makes : (call : Call) (f : Flat) (caller target : ℕ) → len (call_effect call f caller target).part ≤ len f.part + 1
call_makes (CreatePartition flags) f caller target = one_more f.part f.next (new_row caller (mask_of (get f.part caller)))
call_makes (InitializePartition partition) f caller target = changed_more f.part target (λ row. record row { life = Active }) (get f.part target)
call_makes (FinalizePartition partition) f caller target = changed_more f.part target (λ row. record row { life = Finalized }) (get f.part target)
call_makes (DeletePartition partition) f caller target = none_more f.part target
call_makes (SetPartitionProperty partition code value) f caller target = set_more (narrows (property_of code) f target) f target (property_of code) value
call_makes (SetVpRegisters partition vp name value) f caller target = as_many f (write_register target vp name value f) (register_counted target vp name value f).part
call_makes (PostMessage connection message_type payload) f caller target = as_many f (post_to (aim_of f (target, connection)) message_type payload f)
    (posted_counted (aim_of f (target, connection)) message_type payload f).part
call_makes (SignalEvent connection flag) f caller target = as_many f (signal_to (aim_of f (target, connection)) flag f) (signalled_counted (aim_of f (target, connection)) flag f).part
call_makes call f caller target = as_many f f refl

makes_by : (f : Flat) (caller : ℕ) (call : Option Call) → len (served_effect f caller call).part ≤ len f.part + 1
makes_by f caller None = as_many f f refl
makes_by f caller (Some call) = call_makes call f caller (target_of call caller)

module _ {A : Type 0} where
  -- so does any action, and any event
  action_makes : (what : Action A) (f : Flat) (by : Caller) → len (action_effect f by what).part ≤ len f.part + 1
  action_makes (Hypercall frame) f by = makes_by f by.part (called frame)
  action_makes (WriteMsr msr value) f by = as_many f (write_msr by.part by.vp (name_of_msr msr) value f) (msr_counted by.part by.vp (name_of_msr msr) value f).part
  action_makes what f by = as_many f f refl

  step_makes : (f : Flat) (e : Event A) → len (step f e).0.part ≤ len f.part + 1
  step_makes f e = by (unmet f e)
    where
      by : (rule : Option Rule) → len (step_by f e rule).0.part ≤ len f.part + 1
      by None = action_makes e.what f e.by
      by (Some rule) = as_many f f refl

  run_makes : (f : Flat) (events : List (Event A)) → len (run_from f events).0.part ≤ len f.part + length events
  run_makes f [] = omega arith
  run_makes f (e ∷ events) =
      let rest = run_makes (step f e).0 events in
      let one = step_makes f e in
      omega arith

  -- a run has at most one partition more than it has events
  pub few_partitions : (config : Config) (events : List (Event A)) → len (run config events).0.part ≤ length events + 1
  few_partitions config events =
      let more = run_makes (boot config) events in
      let root = one_more empty ROOT_ID (root_row config.mask) in
      let none = len-empty nat_cmp PartRow in
      omega arith
