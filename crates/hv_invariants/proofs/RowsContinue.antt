-- How rows of partitions continue.
use Rattle.std.proofs.Common.{◌≡◌, ℕ, ◌+◌, ◌≤◌, ◌==◌, Bool, true, false, cond, Option, Some, None, is_some, refl, sym, ap, subst, ◌∙◌, arith, eqb-true, option_map, nat_cmp}
use Rattle.std.specs.FinMap.{FinMap, contains_key, get, insert, remove}
use Rattle.hv_calls.specs.declared.call.Call.{Call}
use Rattle.hv_calls.specs.declared.call.Call.TheVariants.{CreatePartition, InitializePartition, FinalizePartition, DeletePartition, SetPartitionProperty, SetVpRegisters, PostMessage, SignalEvent}
use Rattle.hv_defs.proofs.Maps.{get_at-insert, get_at-remove}
use Rattle.hv_defs.specs.Registers.{name_of_msr}
use Rattle.hv_defs.specs.declared.life.Life.{Life}
use Rattle.hv_defs.specs.declared.life.Life.TheVariants.{Created, Active, Finalized}
use Rattle.hv_invariants.proofs.ChangedRow.{only_at, row_only}
use Rattle.hv_invariants.proofs.MessageChanges.{AreCounted, msr_counted, posted_counted, register_counted, signalled_counted}
use Rattle.hv_invariants.proofs.MetRules.{is_served, state_row}
use Rattle.hv_invariants.specs.StateInvariant.{StateInvariant}
use Rattle.hv_policy.proofs.Rows.{get-narrowed}
use Rattle.hv_policy.specs.Aim.{aim_of}
use Rattle.hv_policy.specs.Effect.{call_effect, counted, effect, given, narrowed, narrowed_row, narrows, post_to, served_effect, signal_to, with_row, write_msr, write_register}
use Rattle.hv_policy.specs.Flat.{Flat, PartRow}
use Rattle.hv_policy.specs.Met.{has_privilege, is_active, is_in, is_running, test_row}
use Rattle.hv_policy.specs.Needs.{is_among, states_to_set, target_of}
use Rattle.hv_policy.specs.Property.{property_of}
use Rattle.hv_policy.specs.Rules.{IsAllowed, unmet}
use Rattle.hv_policy.specs.Step.{step, step_by}
use Rattle.hv_policy.specs.Subtree.{is_in_subtree}
use Rattle.hv_policy.specs.declared.event.Action.{Action}
use Rattle.hv_policy.specs.declared.event.Action.TheVariants.{Hypercall, WriteMsr}
use Rattle.hv_policy.specs.declared.event.Caller.{Caller}
use Rattle.hv_policy.specs.declared.event.Event.{Event}
use Rattle.hv_policy.specs.declared.need.States.TheVariants as states
use Rattle.hv_policy.specs.declared.property.Property.{Property}
use Rattle.hv_policy.specs.declared.property.Property.TheVariants.{PrivilegeFlags, CpuReserve, CpuCap, CpuWeight}
use Rattle.hv_policy.specs.declared.rule.Rule.{Rule}
use Rattle.hv_privs.proofs.PrivilegesLemmas.{restrict-HasBit}
use Rattle.hv_privs.specs.Privileges.{IsSubset, of}
use Rattle.hv_privs.specs.declared.TheConstants.Privileges as privilege

-- a partition was Active, or is
abbrev pub has_begun : Life → Bool
has_begun Created = false
has_begun life = true

pub runs_begun : (life : Life) → is_active life ≡ true → has_begun life ≡ true
runs_begun Created runs = cc
runs_begun life runs = refl

-- who is Active is there
pub runs_there : (r : Option PartRow) → test_row (λ row. is_active row.life) r ≡ true → is_some r ≡ true
runs_there None runs = runs
runs_there (Some row) runs = refl

pub idle_state : (life : Life) → is_among life states.CreatedOrFinalized ≡ true → is_active life ≡ false
idle_state Active h = cc
idle_state life h = refl

-- a row continues: it keeps its parent, and once it was Active it stays so or ends, and gets no privilege that it hasn't got
pub record GoesOn (old new : PartRow) : Type 0 where
  pub parent : new.parent ≡ old.parent
  pub begun : has_begun old.life ≡ true → has_begun new.life ≡ true
  pub less : has_begun old.life ≡ true → IsSubset new.mask old.mask

-- rows continue, who is Active stays there, and a new one is a child of the caller, which may make it
pub record FollowOn (f : Flat) (caller : ℕ) (part : FinMap nat_cmp PartRow) (next : ℕ) : Type 0 where
  pub olds : (id : ℕ) (old new : PartRow) → get f.part id ≡ Some old → get part id ≡ Some new → GoesOn old new
  pub news : (id : ℕ) (new : PartRow) → get f.part id ≡ None → get part id ≡ Some new
      → (id ≡ f.next) × (new.parent ≡ Some caller) × (has_privilege f caller privilege.CREATE_PARTITIONS ≡ true)
  pub rises : f.next ≤ next
  pub stays : (id : ℕ) → is_running f id ≡ true → contains_key part id ≡ true

module _ (f : Flat) (caller : ℕ) where
  as_was : (old : PartRow) → GoesOn old old
  as_was old = record { parent = refl; begun = λ h. h; less = λ h k set. set }

  one_row : (old new : PartRow) (r : Option PartRow) → r ≡ Some old → r ≡ Some new → GoesOn old new
  one_row old new r was there = let one : old ≡ new = (let both = sym was ∙ there in cc) in subst (GoesOn old) one (as_was old)

  same : (part : FinMap nat_cmp PartRow) (next : ℕ) → part ≡ f.part → next ≡ f.next → FollowOn f caller part next
  same part next is on = record {
    olds = λ id old new was there. one_row old new (get f.part id) was (ap {A = FinMap nat_cmp PartRow} (λ part. get part id) (sym is) ∙ there);
    news = λ id new none there. (let clash = sym none ∙ ap {A = FinMap nat_cmp PartRow} (λ part. get part id) (sym is) ∙ there in cc);
    rises = omega (arith, on);
    stays = λ id runs. ap {A = FinMap nat_cmp PartRow} (λ part. contains_key part id) is ∙ runs_there (get f.part id) runs;
  }

  counted_same : (h : Flat) → AreCounted f h → FollowOn f caller h.part h.next
  counted_same h c = same h.part h.next c.part c.next

  mapped : (part : FinMap nat_cmp PartRow) (h : ℕ → PartRow → PartRow) → ((id : ℕ) → get part id ≡ option_map (h id) (get f.part id)) →
      ((id : ℕ) (row : PartRow) → get f.part id ≡ Some row → GoesOn row (h id row)) → FollowOn f caller part f.next
  mapped part h at on = record {
    olds = λ id old new was there.
        (let made : h id old ≡ new = (let both = sym (at id ∙ ap (option_map (h id)) was) ∙ there in cc) in subst (GoesOn old) made (on id old was));
    news = λ id new none there. (let clash = sym (at id ∙ ap (option_map (h id)) none) ∙ there in cc);
    rises = omega arith;
    stays = λ id runs. ap is_some (at id) ∙ still id (get f.part id) runs;
  }
    where
      still : (id : ℕ) (r : Option PartRow) → test_row (λ row. is_active row.life) r ≡ true → is_some (option_map (h id) r) ≡ true
      still id None runs = runs
      still id (Some row) runs = refl

  one_changed : (target : ℕ) (h : PartRow → PartRow) → ((row : PartRow) → get f.part target ≡ Some row → GoesOn row (h row)) → FollowOn f caller (with_row f.part target h) f.next
  one_changed target h on = mapped (with_row f.part target h) (only_at target h) (row_only f.part target h) (λ id row was. by id row was (id == target) refl)
    where
      by : (id : ℕ) (row : PartRow) → get f.part id ≡ Some row → (b : Bool) → id == target ≡ b → GoesOn row (cond b (h row) row)
      by id row was true here = on row (ap (get f.part) (sym (eqb-true id target here)) ∙ was)
      by id row was false off = as_was row

  narrowing : (target value : ℕ) → FollowOn f caller (narrowed f target (of value)) f.next
  narrowing target value = mapped (narrowed f target (of value)) (λ id row. cond (is_in_subtree f target id) (narrowed_row (of value) row) row) (get-narrowed f target (of value))
      (λ id row was. by row (is_in_subtree f target id))
    where
      by : (row : PartRow) (b : Bool) → GoesOn row (cond b (narrowed_row (of value) row) row)
      by row true = record { parent = refl; begun = λ h. h; less = λ h k set. ((restrict-HasBit row.mask (of value) k).0 set).0 }
      by row false = as_was row

  -- a mask is given to one that was never Active
  giving : (target value : ℕ) (property : Option Property) → narrows property f target ≡ false → is_in f target (states_to_set property) ≡ true → FollowOn f caller
      (with_row f.part target (given property value)) f.next
  giving target value property off state = one_changed target (given property value) (on property off state)
    where
      fresh : (life : Life) → is_among life states.CreatedOrActive ≡ true → is_active life ≡ false → has_begun life ≡ true → ⊥
      fresh Created among idle begun = cc
      fresh Active among idle begun = cc
      fresh Finalized among idle begun = cc

      on : (property : Option Property) → narrows property f target ≡ false → is_in f target (states_to_set property) ≡ true → (row : PartRow) → get f.part target ≡ Some row → GoesOn row
          (given property value row)
      on None off state row was = as_was row
      on (Some PrivilegeFlags) off state row was =
          let among : is_among row.life states.CreatedOrActive ≡ true = sym (ap (test_row (λ row. is_among row.life states.CreatedOrActive)) was) ∙ state in
          let idle : is_active row.life ≡ false = sym (ap (test_row (λ row. is_active row.life)) was) ∙ off in
          record { parent = refl; begun = λ h. h; less = λ h. absurd (fresh row.life among idle h) }
      on (Some CpuReserve) off state row was = record { parent = refl; begun = λ h. h; less = λ h k set. set }
      on (Some CpuCap) off state row was = record { parent = refl; begun = λ h. h; less = λ h k set. set }
      on (Some CpuWeight) off state row was = record { parent = refl; begun = λ h. h; less = λ h k set. set }

  setting : (target value : ℕ) (property : Option Property) → is_in f target (states_to_set property) ≡ true → (b : Bool) → narrows property f target ≡ b → FollowOn f caller
      (cond b (narrowed f target (of value)) (with_row f.part target (given property value))) f.next
  setting target value property state true is = narrowing target value
  setting target value property state false is = giving target value property is state

  removed : (target : ℕ) → is_running f target ≡ false → FollowOn f caller (remove f.part target) f.next
  removed target idle = record {
    olds = λ id old new was there. still id old new was (id == target) (sym (get_at-remove f.part target id) ∙ there);
    news = λ id new none there. absent id new none (id == target) (sym (get_at-remove f.part target id) ∙ there);
    rises = omega arith;
    stays = λ id runs. ap is_some (get_at-remove f.part target id) ∙ left id runs (id == target) refl;
  }
    where
      left : (id : ℕ) → is_running f id ≡ true → (b : Bool) → id == target ≡ b → is_some (cond b None (get f.part id)) ≡ true
      left id runs true here = let clash = sym idle ∙ ap (is_running f) (sym (eqb-true id target here)) ∙ runs in cc
      left id runs false off = runs_there (get f.part id) runs

      still : (id : ℕ) (old new : PartRow) → get f.part id ≡ Some old → (b : Bool) → cond b None (get f.part id) ≡ Some new → GoesOn old new
      still id old new was true there = cc
      still id old new was false there = one_row old new (get f.part id) was there

      absent : {P : Type 0} (id : ℕ) (new : PartRow) → get f.part id ≡ None → (b : Bool) → cond b None (get f.part id) ≡ Some new → P
      absent id new none true there = cc
      absent id new none false there = let clash = sym none ∙ there in cc

  module _ (pages : ℕ) (l : StateInvariant pages f) where
    created : (row : PartRow) → row.parent ≡ Some caller → has_privilege f caller privilege.CREATE_PARTITIONS ≡ true → FollowOn f caller (insert f.part f.next row) (f.next + 1)
    created row up may = record {
      olds = λ id old new was there. still id old new was (id == f.next) refl (sym (get_at-insert f.part f.next row id) ∙ there);
      news = λ id new none there. fresh id new none (id == f.next) refl (sym (get_at-insert f.part f.next row id) ∙ there);
      rises = omega arith;
      stays = λ id runs. ap is_some (get_at-insert f.part f.next row id) ∙ left (id == f.next) (get f.part id) runs;
    }
      where
        left : (b : Bool) (r : Option PartRow) → test_row (λ row. is_active row.life) r ≡ true → is_some (cond b (Some row) r) ≡ true
        left true r runs = refl
        left false r runs = runs_there r runs

        still : (id : ℕ) (old new : PartRow) → get f.part id ≡ Some old → (b : Bool) → id == f.next ≡ b → cond b (Some row) (get f.part id) ≡ Some new → GoesOn old new
        still id old new was true here there = absurd (let below = l.below id old was in let same = eqb-true id f.next here in omega (arith, below, same))
        still id old new was false off there = one_row old new (get f.part id) was there

        fresh : (id : ℕ) (new : PartRow) → get f.part id ≡ None → (b : Bool) → id == f.next ≡ b → cond b (Some row) (get f.part id) ≡ Some new
            → (id ≡ f.next) × (new.parent ≡ Some caller) × (has_privilege f caller privilege.CREATE_PARTITIONS ≡ true)
        fresh id new none true here there = let one : row ≡ new = cc in (eqb-true id f.next here, ap (λ (row : PartRow). row.parent) (sym one) ∙ up, may)
        fresh id new none false off there = let clash = sym none ∙ there in cc

    call_follows : (call : Call) → IsAllowed f caller call → FollowOn f caller (call_effect call f caller (target_of call caller)).part (call_effect call f caller (target_of call caller)).next
    call_follows (CreatePartition flags) a = created _ refl a.target.0
    call_follows (InitializePartition partition) a = one_changed (target_of (InitializePartition partition) caller) (λ row. record row { life = Active })
        (λ row was. record { parent = refl; begun = λ h. refl; less = λ h k set. set })
    call_follows (FinalizePartition partition) a = one_changed (target_of (FinalizePartition partition) caller) (λ row. record row { life = Finalized })
        (λ row was. record { parent = refl; begun = λ h. refl; less = λ h k set. set })
    call_follows (DeletePartition partition) a =
        let (row, was, state) = state_row f caller (DeletePartition partition) a a.further.0 in
        removed (target_of (DeletePartition partition) caller) (ap (test_row (λ row. is_active row.life)) was ∙ idle_state row.life state)
    call_follows (SetPartitionProperty partition code value) a =
        setting (target_of (SetPartitionProperty partition code value) caller) value (property_of code) a.further.1.0
        (narrows (property_of code) f (target_of (SetPartitionProperty partition code value) caller)) refl
    call_follows (SetVpRegisters partition vp name value) a =
        let target = target_of (SetVpRegisters partition vp name value) caller in
        counted_same (write_register target vp name value f) (register_counted target vp name value f)
    call_follows (PostMessage connection message_type payload) a =
        counted_same (post_to (aim_of f (caller, connection)) message_type payload f) (posted_counted (aim_of f (caller, connection)) message_type payload f)
    call_follows (SignalEvent connection flag) a = counted_same (signal_to (aim_of f (caller, connection)) flag f) (signalled_counted (aim_of f (caller, connection)) flag f)
    call_follows call a = same f.part f.next refl refl

module _ (f : Flat) (pages : ℕ) (l : StateInvariant pages f) where
  action_follows : {A : Type 0} (by : Caller) (what : Action A) → unmet f (record { by = by; what = what }) ≡ None → FollowOn f by.part (effect f (record { by = by; what = what })).part
      (effect f (record { by = by; what = what })).next
  action_follows by (Hypercall frame) met =
      let s = is_served f by frame met in
      subst (λ call. FollowOn f by.part (counted (served_effect f by.part call)).part (counted (served_effect f by.part call)).next) (sym s.called) (call_follows f by.part pages l s.call s.granted)
  action_follows by (WriteMsr msr value) met = counted_same f by.part (write_msr by.part by.vp (name_of_msr msr) value f) (msr_counted by.part by.vp (name_of_msr msr) value f)
  action_follows by what met = same f by.part f.part f.next refl refl

  pub step_follows : {A : Type 0} (e : Event A) → FollowOn f e.by.part (step f e).0.part (step f e).0.next
  step_follows e = by (unmet f e) refl
    where
      by : (rule : Option Rule) → unmet f e ≡ rule → FollowOn f e.by.part (step_by f e rule).0.part (step_by f e rule).0.next
      by None is = action_follows e.by e.what is
      by (Some rule) is = same f e.by.part f.part f.next refl refl
