-- What each call changes is of the caller's relatives, or where it sends to.
use Rattle.std.proofs.Common.{◌≡◌, ℕ, ◌+◌, ◌==◌, Bool, true, false, cond, Option, Some, None, ◌⊎◌, inl, inr, refl, sym, ap, subst, ◌∙◌, eq-eqb, option_map}
use Rattle.std.proofs.lemmas.Bool.{or_right}
use Rattle.std.specs.FinMap.{get, insert}
use Rattle.hv_calls.specs.declared.call.Call.{Call}
use Rattle.hv_calls.specs.declared.call.Call.TheVariants.{CreatePartition, DeletePartition, SetPartitionProperty, DepositMemory, WithdrawMemory, PostMessage, SignalEvent}
use Rattle.hv_defs.proofs.Maps.{get_at-insert}
use Rattle.hv_policy.proofs.Rows.{get-narrowed}
use Rattle.hv_policy.specs.Aim.{aim_of}
use Rattle.hv_policy.specs.Count.{is_parent}
use Rattle.hv_policy.specs.Effect.{call_effect, counted, given, mask_of, narrowed, narrowed_row, narrows, new_row, post_to, signal_to, with_row}
use Rattle.hv_policy.specs.Flat.{Flat, PartRow}
use Rattle.hv_policy.specs.Met.{is_child, test_row}
use Rattle.hv_policy.specs.Needs.{resolved_id, needs_of, target_of}
use Rattle.hv_policy.specs.Property.{property_of}
use Rattle.hv_policy.specs.Rules.{IsAllowed}
use Rattle.hv_policy.specs.Subtree.{is_in_subtree}
use Rattle.hv_policy.specs.calls.{policy_of}
use Rattle.hv_privs.specs.Privileges.{of}
use Rattle.hv_privs.specs.declared.Privileges.{Privileges}
use Rattle.hv_security.proofs.OtherRows.{once_counted}
use Rattle.hv_security.proofs.OthersUnchanged.{call_misses, part_changed}
use Rattle.hv_security.proofs.CallerAndChildren.{far_apart, kin_relative}
use Rattle.hv_security.proofs.AgreedReads.{caller_relative}
use Rattle.hv_security.proofs.SendChanges.{posted_confined, signalled_confined}
use Rattle.hv_security.specs.Integrity.{IntegrityWithin, CallerAndChildren, AndMasks, reach_of_call}
use Rattle.hv_security.specs.Misses.{Misses, UnlessReading}
use Rattle.hv_security.specs.Same.{HasSame, HasSameButMask, is_relative}

-- what holds of every call holds unless a call only reads
unless_reading : (effect : Option (Flat → ℕ → ℕ → Flat)) (P : Type 0) → P → UnlessReading effect P
unless_reading None P holds = tt
unless_reading (Some effect) P holds = holds

module _ (f : Flat) (caller : ℕ) where
  -- a new partition is the caller's child
  new_apart : (id : ℕ) (row : PartRow) → row.parent ≡ Some caller → is_relative (record f { part = insert f.part f.next row; next = f.next + 1 }) caller id ≡ false → id == f.next ≡ false
  new_apart id row child far = by (id == f.next) refl
    where
      by : (b : Bool) → id == f.next ≡ b → b ≡ false
      by true is =
          let there = get_at-insert f.part f.next row id ∙ ap (λ b. cond b (Some row) (get f.part id)) is in
          let own = ap (test_row (λ row. is_parent caller row.parent)) there ∙ ap (is_parent caller) child ∙ eq-eqb caller caller refl in
          sym (or_right (id == caller) (is_child (record f { part = insert f.part f.next row; next = f.next + 1 }) caller id) own) ∙ far
      by false is = refl

  module _ (id : ℕ) (far : is_relative f caller id ≡ false) where
    off_caller : id == caller ≡ false
    off_caller = far_apart f caller id caller far (caller_relative f caller)

    off_target : (call : Call) → IsAllowed f caller call → id == target_of call caller ≡ false
    off_target call a = far_apart f caller id (target_of call caller) far (kin_relative (needs_of call).kin f caller (target_of call caller) a.target.1.1.0)

    -- a property that narrows nothing
    unnarrowed : (b : Bool) (target : ℕ) (value : Privileges) → cond b (AndMasks target value) CallerAndChildren ≡ CallerAndChildren → b ≡ false
    unnarrowed true target value none = cc
    unnarrowed false target value none = refl

    -- a call that reaches no further than relatives isn't about anyone else
    missed : (call : Call) → IsAllowed f caller call → Misses call caller f id → HasSame id f (counted (call_effect call f caller (target_of call caller)))
    missed call a misses = once_counted id f (call_effect call f caller (target_of call caller)) (call_misses f id caller call a misses)

    call_apart : (call : Call) → IsAllowed f caller call → reach_of_call f caller call ≡ CallerAndChildren → is_relative (call_effect call f caller (target_of call caller)) caller id ≡ false → HasSame
        id f (counted (call_effect call f caller (target_of call caller)))
    call_apart (CreatePartition flags) a none still =
        missed (CreatePartition flags) a (new_apart id (new_row caller (mask_of (get f.part caller))) refl still)
    call_apart (DeletePartition partition) a none still = missed (DeletePartition partition) a (off_target (DeletePartition partition) a, off_caller)
    call_apart (SetPartitionProperty partition code value) a none still =
        let narrowing = narrows (property_of code) f (resolved_id caller partition) in
        let never : narrowing ≡ false = unnarrowed narrowing (resolved_id caller partition) (of value) none in
        missed (SetPartitionProperty partition code value) a (off_target (SetPartitionProperty partition code value) a, λ is. (let clash = sym is ∙ never in cc))
    call_apart (DepositMemory partition page) a none still = missed (DepositMemory partition page) a (off_target (DepositMemory partition page) a, off_caller)
    call_apart (WithdrawMemory partition) a none still = missed (WithdrawMemory partition) a (off_target (WithdrawMemory partition) a, off_caller)
    call_apart (PostMessage connection message_type payload) a none still =
        subst (λ to. IntegrityWithin to caller f (counted (post_to (aim_of f (caller, connection)) message_type payload f))) none
        (posted_confined (aim_of f (caller, connection)) message_type payload f caller a.further.1.0 a.further.1.1.1.0) id (record { before = far; after = still })
    call_apart (SignalEvent connection flag) a none still =
        subst (λ to. IntegrityWithin to caller f (counted (signal_to (aim_of f (caller, connection)) flag f))) none
        (signalled_confined (aim_of f (caller, connection)) flag f caller a.further.1.0 a.further.1.1.1.0) id (record { before = far; after = still })
    call_apart call a none still = missed call a (unless_reading (policy_of call).effect _ (off_target call a))

  call_stays : (call : Call) → IsAllowed f caller call → reach_of_call f caller call ≡ CallerAndChildren → IntegrityWithin CallerAndChildren caller f
      (counted (call_effect call f caller (target_of call caller)))
  call_stays call a none id apart = call_apart id apart.before call a none apart.after

  -- a mask that narrows a subtree
  masks_confined : (target : ℕ) (value : Privileges) → IntegrityWithin (AndMasks target value) caller f (counted (record f { part = narrowed f target value }))
  masks_confined target value = (λ id apart outside. elsewhere id (at id false outside ∙ same (get f.part id)), λ id apart. inside id)
    where
      at : (id : ℕ) (b : Bool) → is_in_subtree f target id ≡ b → get (narrowed f target value) id ≡ option_map (λ row. cond b (narrowed_row value row) row) (get f.part id)
      at id b is = get-narrowed f target value id ∙ ap (λ b. option_map (λ row. cond b (narrowed_row value row) row) (get f.part id)) is

      same : (row : Option PartRow) → option_map (λ row. cond false (narrowed_row value row) row) row ≡ row
      same None = refl
      same (Some row) = refl

      elsewhere : (id : ℕ) → get (narrowed f target value) id ≡ get f.part id → HasSame id f (counted (record f { part = narrowed f target value }))
      elsewhere id is = once_counted id f _ (part_changed f id (narrowed f target value) f.next (sym is))

      inside : (id : ℕ) → HasSameButMask value id f (counted (record f { part = narrowed f target value }))
      inside id = record {
        part = by (is_in_subtree f target id) refl;
        pages = λ _. refl;
        vps = λ _. refl;
        ports = λ _. refl;
        conns = λ _. refl;
        mail = λ _ _. refl;
      }
        where
          by : (b : Bool) → is_in_subtree f target id ≡ b → (get f.part id ≡ get (narrowed f target value) id) ⊎ (option_map (narrowed_row value) (get f.part id) ≡ get (narrowed f target value) id)
          by true is = inr (sym (at id true is))
          by false is = inl (sym (at id false is ∙ same (get f.part id)))

  -- a property, which is a mask or not
  set_confined : (partition code value : ℕ) → IsAllowed f caller (SetPartitionProperty partition code value)
      → IntegrityWithin (reach_of_call f caller (SetPartitionProperty partition code value)) caller f
      (counted (call_effect (SetPartitionProperty partition code value) f caller (target_of (SetPartitionProperty partition code value) caller)))
  set_confined partition code value a = by (narrows (property_of code) f target) refl
    where
      target : ℕ
      target = resolved_id caller partition

      by : (b : Bool) → narrows (property_of code) f target ≡ b → IntegrityWithin (cond b (AndMasks target (of value)) CallerAndChildren) caller f
          (counted (record f { part = cond b (narrowed f target (of value)) (with_row f.part target (given (property_of code) value)) }))
      by true is = masks_confined target (of value)
      by false is =
          subst (λ b. IntegrityWithin CallerAndChildren caller f (counted (record f { part = cond b (narrowed f target (of value)) (with_row f.part target (given (property_of code) value)) }))) is
          (call_stays (SetPartitionProperty partition code value) a (ap (λ b. cond b (AndMasks target (of value)) CallerAndChildren) is))

  -- a served call
  pub call_confined : (call : Call) → IsAllowed f caller call → IntegrityWithin (reach_of_call f caller call) caller f (counted (call_effect call f caller (target_of call caller)))
  call_confined (PostMessage connection message_type payload) a = posted_confined (aim_of f (caller, connection)) message_type payload f caller a.further.1.0 a.further.1.1.1.0
  call_confined (SignalEvent connection flag) a = signalled_confined (aim_of f (caller, connection)) flag f caller a.further.1.0 a.further.1.1.1.0
  call_confined (SetPartitionProperty partition code value) a = set_confined partition code value a
  call_confined (CreatePartition flags) a = call_stays (CreatePartition flags) a refl
  call_confined call a = call_stays call a refl
