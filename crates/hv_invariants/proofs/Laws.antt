-- Each state that the flat model reaches from boot is lawful.
use Rattle.std.proofs.Common.{◌≡◌, ℕ, ◌+◌, ◌==◌, ◌&&◌, not, Bool, nat_lt, true, false, List, [], ◌∷◌, Option, Some, None, refl, sym, ap, subst, ◌∙◌, arith, eqb-true, ne_eqb, leb-true}
use Rattle.std.proofs.lemmas.Bool.{and_parts}
use Rattle.std.specs.FinMap.{contains_key, get}
use Rattle.hv_calls.specs.declared.call.Call.{Call}
use Rattle.hv_calls.specs.declared.call.Call.TheVariants.{CreatePartition, InitializePartition, FinalizePartition, DeletePartition, SetPartitionProperty, DepositMemory, WithdrawMemory, CreateVp}
use Rattle.hv_calls.specs.declared.call.Call.TheVariants.{DeleteVp, SetVpRegisters, DeletePort, DisconnectPort, PostMessage, SignalEvent, CreatePort, ConnectPort}
use Rattle.hv_defs.specs.declared.aim.Aim.{Aim}
use Rattle.hv_defs.specs.Registers.{name_of_msr}
use Rattle.hv_defs.specs.declared.life.Life.{Life}
use Rattle.hv_defs.specs.declared.port_kind.PortKind.{PortKind}
use Rattle.hv_defs.specs.declared.life.Life.TheVariants.{Created, Active, Finalized}
use Rattle.hv_policy.specs.Aim.{aim_of}
use Rattle.hv_policy.specs.Count.{available, child_count, in_use}
use Rattle.hv_policy.specs.Boot.{start_vp}
use Rattle.hv_policy.specs.Effect.{call_effect, counted, effect, served_effect}
use Rattle.hv_policy.specs.Flat.{Flat, PartRow}
use Rattle.hv_policy.specs.Mail.{mail_but_at, place_at}
use Rattle.hv_policy.specs.Met.{is_active, is_in, is_running, may_give, test_row}
use Rattle.hv_policy.specs.Needs.{is_among, needs_of, target_of}
use Rattle.hv_policy.specs.Property.{property_of}
use Rattle.hv_policy.specs.Rules.{IsAllowed, unmet}
use Rattle.hv_policy.specs.Step.{run_from, step, step_by}
use Rattle.hv_policy.specs.declared.event.Action.{Action}
use Rattle.hv_policy.specs.declared.event.Action.TheVariants.{Hypercall, WriteMsr, ClearSlot, ClearFlag, TakeInterrupt}
use Rattle.hv_policy.specs.declared.event.Caller.{Caller}
use Rattle.hv_policy.specs.declared.event.Event.{Event}
use Rattle.hv_policy.specs.declared.need.States.TheVariants as states
use Rattle.hv_policy.specs.declared.property.Property.TheVariants.{PrivilegeFlags}
use Rattle.hv_policy.specs.declared.rule.Rule.{Rule}
use Rattle.hv_privs.proofs.PrivilegesLemmas.{contains-IsSubset}
use Rattle.hv_privs.specs.Privileges.{contains, of}
use Rattle.hv_invariants.proofs.ChangedRow.{activated, closed, set_row}
use Rattle.hv_invariants.proofs.CreatedPartition.{created}
use Rattle.hv_invariants.proofs.DeletedPartition.{deleted}
use Rattle.hv_invariants.proofs.MetRules.{caller_there, child_row, is_served, state_row, target_there}
use Rattle.hv_invariants.proofs.PoolPages.{deposited, withdrawn_pages}
use Rattle.hv_invariants.proofs.PortMessages.{mail_counted, mail_left, mailed_of}
use Rattle.hv_invariants.proofs.RowsContinue.{idle_state}
use Rattle.hv_invariants.proofs.PostsAndSignals.{cleared_lawful, msr_lawful, post_lawful, register_lawful, signal_lawful}
use Rattle.hv_invariants.proofs.ProcessorsAndPorts.{conn_added, conn_removed, less, port_added, port_removed, vp_added, vp_changed, vp_removed}
use Rattle.hv_policy.proofs.Rows.{row_of}
use Rattle.hv_invariants.specs.Bounded.{IsBounded}
use Rattle.hv_invariants.specs.StateInvariant.{StateInvariant}

-- one more served event changes nothing of it
pub counted_lawful : (pages : ℕ) (f : Flat) → StateInvariant pages f → StateInvariant pages (counted f)
counted_lawful pages f l =
    less pages f l f.vp f.port f.conn f.mail (f.served + 1) (omega arith) (mail_counted f.served f.port f.mail (mailed_of pages f l)) (λ id. omega arith)

module _ (pages : ℕ) (f : Flat) (l : StateInvariant pages f) (caller : ℕ) where
  -- what is there and isn't Active uses nothing
  unused : (id : ℕ) (row : PartRow) → get f.part id ≡ Some row → is_active row.life ≡ false → in_use f id ≡ 0
  unused id row is idle = l.idle id (ap (test_row (λ row. is_active row.life)) is ∙ idle)

  delete_lawful : (partition : ℕ) → IsAllowed f caller (DeletePartition partition) → StateInvariant pages
      (call_effect (DeletePartition partition) f caller (target_of (DeletePartition partition) caller))
  delete_lawful partition a =
      let (row, is, parent) = child_row f caller (DeletePartition partition) a refl in
      let (old, was, state) = state_row f caller (DeletePartition partition) a a.further.0 in
      let less = l.above (target_of (DeletePartition partition) caller) caller row is parent in
      deleted pages f l caller (target_of (DeletePartition partition) caller)
      (ne_eqb caller (target_of (DeletePartition partition) caller) (λ same. omega (arith, same, less)))
      (caller_there f caller (DeletePartition partition) a)
      (unused (target_of (DeletePartition partition) caller) old was (idle_state old.life state))

  set_lawful : (partition code value : ℕ) → IsAllowed f caller (SetPartitionProperty partition code value) → StateInvariant pages
      (call_effect (SetPartitionProperty partition code value) f caller (target_of (SetPartitionProperty partition code value) caller))
  set_lawful partition code value a =
      set_row pages f l (target_of (SetPartitionProperty partition code value) caller) (property_of code) value (λ is.
      let (row, there, parent) = child_row f caller (SetPartitionProperty partition code value) a refl in
      let given : may_give (Some PrivilegeFlags) value f caller ≡ true = subst (λ p. may_give p value f caller ≡ true) is a.further.1.1.0 in
      let (above, up, within) = row_of f caller (λ row. contains row.mask (of value)) given in
      (caller, row, above, there, parent, up, (contains-IsSubset above.mask (of value)).0 within))

  finalize_lawful : (partition : ℕ) → IsAllowed f caller (FinalizePartition partition) → StateInvariant pages
      (call_effect (FinalizePartition partition) f caller (target_of (FinalizePartition partition) caller))
  finalize_lawful partition a =
      let (row, there, none) = row_of f (target_of (FinalizePartition partition) caller) (λ row. child_count f (target_of (FinalizePartition partition) caller) == 0) a.further.1.0 in
      closed pages f l (target_of (FinalizePartition partition) caller) (eqb-true (child_count f (target_of (FinalizePartition partition) caller)) 0 none)

  running : (life : Life) → is_among life states.Active ≡ true → is_active life ≡ true
  running Created h = h
  running Active h = refl
  running Finalized h = h

  unless : (b : Bool) → not b ≡ true → b ≡ false
  unless true h = cc
  unless false h = refl

  -- the target of a call that asks for an Active one
  runs : (call : Call) → (needs_of call).states ≡ states.Active → IsAllowed f caller call → is_in f (target_of call caller) (needs_of call).states ≡ true → is_running f (target_of call caller) ≡ true
  runs call asks a h =
      let (row, there, state) = state_row f caller call a h in
      ap (test_row (λ row. is_active row.life)) there ∙ running row.life (subst (λ states. is_among row.life states ≡ true) asks state)

  staff_lawful : (partition vp : ℕ) → IsAllowed f caller (CreateVp partition vp) → StateInvariant pages (call_effect (CreateVp partition vp) f caller (target_of (CreateVp partition vp) caller))
  staff_lawful partition vp a =
      let target = target_of (CreateVp partition vp) caller in
      let (below, free) = and_parts (nat_lt vp 64) (not (contains_key f.vp (target, vp))) a.further.1.0 in
      vp_added pages f l target vp (runs (CreateVp partition vp) refl a a.further.0) (start_vp vp) (unless (contains_key f.vp (target, vp)) free) (leb-true 4 (available f target) a.further.1.1.0)

  port_lawful : (partition port peer : ℕ) (kind : PortKind) (sint : ℕ) (vp : Aim) (base count : ℕ) → IsAllowed f caller (CreatePort partition port peer kind sint vp base count) → IsBounded
      (CreatePort partition port peer kind sint vp base count) → StateInvariant pages (counted
      (call_effect (CreatePort partition port peer kind sint vp base count) f caller (target_of (CreatePort partition port peer kind sint vp base count) caller)))
  port_lawful partition port peer kind sint vp base count a bounded =
      let target = target_of (CreatePort partition port peer kind sint vp base count) caller in
      port_added pages f l target port (runs (CreatePort partition port peer kind sint vp base count) refl a a.further.0) _ refl
      (record { sint = bounded.0; flags = bounded.1; born = omega arith })
      (unless (contains_key f.port (target, port)) a.further.1.1.0) (leb-true 1 (available f target) a.further.1.1.1.1.0)

  conn_lawful : (partition connection port_partition port : ℕ) (kind : PortKind) → IsAllowed f caller (ConnectPort partition connection port_partition port kind) → StateInvariant pages
      (call_effect (ConnectPort partition connection port_partition port kind) f caller (target_of (ConnectPort partition connection port_partition port kind) caller))
  conn_lawful partition connection port_partition port kind a =
      let target = target_of (ConnectPort partition connection port_partition port kind) caller in
      conn_added pages f l target connection (runs (ConnectPort partition connection port_partition port kind) refl a a.further.0) _ (unless (contains_key f.conn (target, connection)) a.further.1.1.0)
      (leb-true 1 (available f target) a.further.1.1.1.1.1.1.0)

  -- what a call changes that its rules allow
  pub granted_lawful : (call : Call) → IsAllowed f caller call → IsBounded call → StateInvariant pages (counted (call_effect call f caller (target_of call caller)))
  granted_lawful (CreatePartition flags) a bounded = created pages f l caller a.active (leb-true 2 (available f caller) a.further.1.0)
  granted_lawful (InitializePartition partition) a bounded = counted_lawful pages _ (activated pages f l (target_of (InitializePartition partition) caller))
  granted_lawful (FinalizePartition partition) a bounded = counted_lawful pages _ (finalize_lawful partition a)
  granted_lawful (DeletePartition partition) a bounded = counted_lawful pages _ (delete_lawful partition a)
  granted_lawful (SetPartitionProperty partition code value) a bounded = counted_lawful pages _ (set_lawful partition code value a)
  granted_lawful (DepositMemory partition page) a bounded =
      counted_lawful pages _ (deposited pages f l caller (target_of (DepositMemory partition page) caller) (caller_there f caller (DepositMemory partition page) a) page
      (target_there f caller (DepositMemory partition page) a) a.further.1.0)
  granted_lawful (WithdrawMemory partition) a bounded =
      counted_lawful pages _ (withdrawn_pages pages f l caller (target_of (WithdrawMemory partition) caller) (caller_there f caller (WithdrawMemory partition) a)
      (leb-true 1 (available f (target_of (WithdrawMemory partition) caller)) a.further.0))
  granted_lawful (CreateVp partition vp) a bounded = counted_lawful pages _ (staff_lawful partition vp a)
  granted_lawful (DeleteVp partition vp) a bounded =
      let target = target_of (DeleteVp partition vp) caller in
      counted_lawful pages _ (vp_removed pages f l (target, vp) (mail_but_at target vp f.mail)
      (mail_left f.served f.port (λ row. not (row.part == target && row.vp == vp)) f.mail (mailed_of pages f l)))
  granted_lawful (SetVpRegisters partition vp name value) a bounded =
      counted_lawful pages _ (register_lawful pages (target_of (SetVpRegisters partition vp name value) caller) vp name value f l)
  granted_lawful (DeletePort partition port) a bounded = counted_lawful pages _ (port_removed pages f l (target_of (DeletePort partition port) caller, port))
  granted_lawful (DisconnectPort partition connection) a bounded = counted_lawful pages _ (conn_removed pages f l (target_of (DisconnectPort partition connection) caller, connection))
  granted_lawful (CreatePort partition port peer kind sint vp base count) a bounded = port_lawful partition port peer kind sint vp base count a bounded
  granted_lawful (ConnectPort partition connection port_partition port kind) a bounded = counted_lawful pages _ (conn_lawful partition connection port_partition port kind a)
  granted_lawful (PostMessage connection message_type payload) a bounded = counted_lawful pages _ (post_lawful pages (caller, connection) message_type payload f a.further.1.0 l)
  granted_lawful (SignalEvent connection flag) a bounded = counted_lawful pages _ (signal_lawful pages (aim_of f (caller, connection)) flag f l)
  granted_lawful call a bounded = counted_lawful pages f l

module _ {A : Type 0} (pages : ℕ) where
  by_action : (f : Flat) → StateInvariant pages f → (by : Caller) (what : Action A) → unmet f (record { by = by; what = what }) ≡ None → StateInvariant pages
      (effect f (record { by = by; what = what }))
  by_action f l by (Hypercall frame) h =
      let served = is_served f by frame h in
      subst (λ call. StateInvariant pages (counted (served_effect f by.part call))) (sym served.called)
      (granted_lawful pages f l by.part served.call served.granted served.bounded)
  by_action f l by (WriteMsr msr value) h = counted_lawful pages _ (msr_lawful pages by.part by.vp (name_of_msr msr) value f l)
  by_action f l by (ClearSlot sint) h = counted_lawful pages _ (cleared_lawful pages (place_at by sint) f l)
  by_action f l by (ClearFlag sint flag) h = counted_lawful pages _ (vp_changed pages f l (by.part, by.vp) _)
  by_action f l by TakeInterrupt h = counted_lawful pages _ (vp_changed pages f l (by.part, by.vp) _)
  by_action f l by what h = counted_lawful pages f l

  -- a served event
  pub lawful_effect : (f : Flat) (e : Event A) → StateInvariant pages f → unmet f e ≡ None → StateInvariant pages (effect f e)
  lawful_effect f e l h = by_action f l e.by e.what h

  -- one event
  pub lawful_step : (f : Flat) (e : Event A) → StateInvariant pages f → StateInvariant pages (step f e).0
  lawful_step f e l = by (unmet f e) refl
    where
      by : (rule : Option Rule) → unmet f e ≡ rule → StateInvariant pages (step_by f e rule).0
      by None is = lawful_effect f e l is
      by (Some rule) is = l

  -- any events
  pub lawful_run : (f : Flat) (events : List (Event A)) → StateInvariant pages f → StateInvariant pages (run_from f events).0
  lawful_run f [] l = l
  lawful_run f (e ∷ events) l = lawful_run (step f e).0 events (lawful_step f e l)
