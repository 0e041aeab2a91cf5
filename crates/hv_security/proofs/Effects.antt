-- A served event leaves members alike where what they had was.
use Rattle.std.proofs.Common.{◌≡◌, ℕ, ◌+◌, ◌&&◌, Bool, true, false, Option, Some, None, refl, sym, ap, subst, ◌∙◌}
use Rattle.std.specs.FinMap.{get}
use Rattle.hv_abi.specs.declared.frame.Frame.{Frame}
use Rattle.hv_calls.specs.declared.call.Call.{Call}
use Rattle.hv_calls.specs.declared.call.Call.TheVariants.{CreatePartition, InitializePartition, FinalizePartition, DeletePartition, SetPartitionProperty, DepositMemory, WithdrawMemory, CreateVp}
use Rattle.hv_calls.specs.declared.call.Call.TheVariants.{DeleteVp, SetVpRegisters, DeletePort, DisconnectPort, PostMessage, SignalEvent, CreatePort, ConnectPort}
use Rattle.hv_defs.specs.Registers.{name_of_msr}
use Rattle.hv_invariants.proofs.MetRules.{is_served}
use Rattle.hv_policy.specs.Aim.{is_same_birth}
use Rattle.hv_policy.specs.Call.{called}
use Rattle.hv_policy.specs.Effect.{call_effect, counted, effect, is_mask, mask_of, narrows, new_row, property_set, served_effect}
use Rattle.hv_policy.specs.Flat.{Flat}
use Rattle.hv_policy.specs.Mail.{place_at}
use Rattle.hv_policy.specs.Met.{is_active, test_row}
use Rattle.hv_policy.specs.Needs.{resolved_id, needs_of, target_of}
use Rattle.hv_policy.specs.Property.{property_of}
use Rattle.hv_policy.specs.Rules.{IsAllowed, unmet}
use Rattle.hv_policy.specs.declared.event.Action.{Action}
use Rattle.hv_policy.specs.declared.event.Action.TheVariants.{Hypercall, WriteMsr, ClearSlot, ClearFlag, TakeInterrupt}
use Rattle.hv_policy.specs.declared.event.Caller.{Caller}
use Rattle.hv_policy.specs.declared.event.Event.{Event}
use Rattle.hv_policy.specs.Subtree.{is_in_subtree}
use Rattle.hv_policy.specs.declared.property.Property.{Property}
use Rattle.hv_security.specs.Alike.{AreLowEquivalent, AreClosed, ArePast}
use Rattle.hv_security.specs.Looks.{ActionLooksAlike, LooksAlike}
use Rattle.hv_security.specs.Turns.{ActionDoesAlike, CallDoesAlike, DoesAlike, LeadsAlike}
use Rattle.hv_security.proofs.ServedCalls.{conn_deleted, conn_made, deleted, deposited, dismissed, finalized, one_more, port_deleted, port_made, rows_changed, set_alike, staffed, subtree_alike}
use Rattle.hv_security.proofs.ServedCalls.{withdrew}
use Rattle.hv_security.proofs.AlikeReplies.{kin_member, looked}
use Rattle.hv_security.proofs.AlikeRows.{new_alike, row_alike}
use Rattle.hv_security.proofs.Sends.{leads_alike, posts_alike, signals_alike, way}
use Rattle.hv_security.proofs.AlikeMessages.{cleared_alike, msr_alike, register_alike, staff_alike}

module _ (members : ℕ → Bool) (f g : Flat) (a : AreLowEquivalent members f g) (closed : AreClosed members f) (closed_too : AreClosed members g) (past : ArePast f) (past_too : ArePast g) where
  module _ (caller : ℕ) where
    -- a property of a member, or one whose change is about the same members
    set_leaves : (target : ℕ) (property : Option Property) (value : ℕ) → (members target ≡ false → (narrows property f target ≡ narrows property g target) ×
        ((id : ℕ) → members id ≡ true → is_in_subtree f target id ≡ is_in_subtree g target id))
        → AreLowEquivalent members (record f { part = property_set f target property value }) (record g { part = property_set g target property value })
    set_leaves target property value n = by (members target) refl
      where
        by : (b : Bool) → members target ≡ b → AreLowEquivalent members (record f { part = property_set f target property value }) (record g { part = property_set g target property value })
        by true own = set_alike members f g a target property value (ap (λ row. is_mask property && test_row (λ row. is_active row.life) row) (a target own).part)
            (subtree_alike members f g a closed closed_too target own)
        by false off = set_alike members f g a target property value (n off).0 (n off).1

    -- a call that is served in both
    call_leaves : (call : Call) → IsAllowed f caller call → IsAllowed g caller call → DoesAlike members call caller f g → AreLowEquivalent members (call_effect call f caller (target_of call caller))
        (call_effect call g caller (target_of call caller))
    call_leaves (CreatePartition flags) s t n =
        rows_changed members f g a _ _ (f.next + 1) (g.next + 1)
        (λ id own. new_alike f.part g.part id (a id own).part f.next g.next n.0 _ _ (ap (new_row caller) n.1))
    call_leaves (InitializePartition partition) s t n = rows_changed members f g a _ _ f.next g.next
        (λ id own. row_alike f.part g.part id (a id own).part (target_of (InitializePartition partition) caller) _)
    call_leaves (FinalizePartition partition) s t n = finalized members f g a past past_too partition caller (target_of (FinalizePartition partition) caller)
    call_leaves (DeletePartition partition) s t n = deleted members f g a partition caller (target_of (DeletePartition partition) caller) n
    call_leaves (SetPartitionProperty partition code value) s t n = set_leaves (target_of (SetPartitionProperty partition code value) caller) (property_of code) value n
    call_leaves (DepositMemory partition page) s t n = deposited members f g a page (target_of (DepositMemory partition page) caller)
    call_leaves (WithdrawMemory partition) s t n = withdrew members f g a caller (target_of (WithdrawMemory partition) caller) n
    call_leaves (CreateVp partition vp) s t n = staffed members f g a (target_of (CreateVp partition vp) caller) vp
    call_leaves (DeleteVp partition vp) s t n = dismissed members f g a (target_of (DeleteVp partition vp) caller) vp
    call_leaves (SetVpRegisters partition vp name value) s t n = register_alike members (target_of (SetVpRegisters partition vp name value) caller) vp name value n f g a
    call_leaves (DeletePort partition port) s t n = port_deleted members f g a past past_too (target_of (DeletePort partition port) caller) port
    call_leaves (DisconnectPort partition connection) s t n = conn_deleted members f g a (target_of (DisconnectPort partition connection) caller) connection
    call_leaves (PostMessage connection message_type payload) s t n =
        let w = way f (caller, connection) is_same_birth s.further.1.0 in
        let v = way g (caller, connection) is_same_birth t.further.1.0 in
        posts_alike members f g a (caller, connection) w v (n w.conn v.conn w.leads v.leads) message_type payload
    call_leaves (SignalEvent connection flag) s t n =
        let w = way f (caller, connection) is_same_birth s.further.1.0 in
        let v = way g (caller, connection) is_same_birth t.further.1.0 in
        signals_alike members f g a (caller, connection) w v (n w.conn v.conn w.leads v.leads) flag
    call_leaves (CreatePort partition port peer port_kind sint vp base count) s t n = port_made members f g a past past_too partition port peer port_kind sint vp base count caller
        (target_of (CreatePort partition port peer port_kind sint vp base count) caller)
    call_leaves (ConnectPort partition connection port_partition port port_kind) s t n =
        conn_made members f g a (target_of (ConnectPort partition connection port_partition port port_kind) caller) connection (resolved_id caller port_partition, port) port_kind s.further.1.1.1.0
        t.further.1.1.1.0
    call_leaves call s t n = a

  module _ (by : Caller) where
    -- what another's call does
    does : (c : Option Call) (call : Call) → c ≡ Some call → CallDoesAlike members c by.part f g → DoesAlike members call by.part f g
    does None call is n = absurd n
    does (Some other) call is n = let same : other ≡ call = cc in subst (λ call. DoesAlike members call by.part f g) same n

    -- what a member's call does
    module _ (own : members by.part ≡ true) where
      target_own : (call : Call) → IsAllowed f by.part call → members (target_of call by.part) ≡ true
      target_own call s = kin_member members f g a closed closed_too by own (needs_of call).kin (target_of call by.part) s.target.1.1.0

      leads : (connection : ℕ) → LeadsAlike (get f.conn (by.part, connection)) (get g.conn (by.part, connection))
      leads connection conn other is is_too =
          leads_alike members f g (get f.conn (by.part, connection)) (get g.conn (by.part, connection)) conn other ((a by.part own).conns connection) is is_too

      own_does : (call : Call) → IsAllowed f by.part call → LooksAlike members call by.part f g → DoesAlike members call by.part f g
      own_does (CreatePartition flags) s n = (n.1 s.further.0 s.further.1.0, ap mask_of (a by.part own).part)
      own_does (PostMessage connection message_type payload) s n = leads connection
      own_does (SignalEvent connection flag) s n = leads connection
      own_does (SetPartitionProperty partition code value) s n = λ off. (let clash = sym off ∙ target_own (SetPartitionProperty partition code value) s in cc)
      own_does call s n = target_own call s

  module _ {A : Type 0} (by : Caller) where
    abbrev event : Action A → Event A
    event what = record { by = by; what = what }

    module _ (frame : Frame A) where
      done : (call other : Call) → called frame ≡ Some call → called frame ≡ Some other → IsAllowed f by.part call → IsAllowed g by.part other → DoesAlike members call by.part f g
          → AreLowEquivalent members (effect f (event (Hypercall frame))) (effect g (event (Hypercall frame)))
      done call other is is_too s t n =
          let both : Some call ≡ Some other = sym is ∙ is_too in
          let same : other ≡ call = cc in
          subst (λ c. AreLowEquivalent members (counted (served_effect f by.part c)) (counted (served_effect g by.part c))) (sym is)
          (one_more members _ _ (call_leaves by.part call s (subst (IsAllowed g by.part) same t) n))

      pub call_done : unmet f (event (Hypercall frame)) ≡ None → unmet g (event (Hypercall frame)) ≡ None →
          ((call : Call) → called frame ≡ Some call → IsAllowed f by.part call → DoesAlike members call by.part f g)
          → AreLowEquivalent members (effect f (event (Hypercall frame))) (effect g (event (Hypercall frame)))
      call_done met met_too n =
          let s = is_served f by frame met in
          let t = is_served g by frame met_too in
          done s.call t.call s.called t.called s.granted t.granted (n s.call s.called s.granted)

    -- another's event, which does the same to members
    pub input_leaves : (what : Action A) → unmet f (event what) ≡ None → unmet g (event what) ≡ None → ActionDoesAlike members what by.part f g → AreLowEquivalent members (effect f (event what))
        (effect g (event what))
    input_leaves (Hypercall frame) met met_too n = call_done frame met met_too (λ call is allowed. does by (called frame) call is n)
    input_leaves what met met_too n = absurd n

    -- a member's own
    module _ (own : members by.part ≡ true) where
      pub own_leaves : (what : Action A) → unmet f (event what) ≡ None → unmet g (event what) ≡ None → ActionLooksAlike members what by.part f g → AreLowEquivalent members (effect f (event what))
          (effect g (event what))
      own_leaves (Hypercall frame) met met_too n = call_done frame met met_too (λ call is s. own_does by own call s
          (looked members f g a closed closed_too by own frame (called frame) call is n s.target.0))
      own_leaves (WriteMsr msr value) met met_too n = one_more members _ _ (msr_alike members by.part by.vp (name_of_msr msr) value own f g a)
      own_leaves (ClearSlot sint) met met_too n = one_more members _ _ (cleared_alike members (place_at by sint) f g a)
      own_leaves (ClearFlag sint flag) met met_too n = one_more members _ _ (staff_alike members (by.part, by.vp) _ f g a)
      own_leaves TakeInterrupt met met_too n = one_more members _ _ (staff_alike members (by.part, by.vp) _ f g a)
      own_leaves what met met_too n = one_more members f g a
