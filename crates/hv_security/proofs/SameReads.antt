-- Replies in two states in which what an event reads is alike.
use Rattle.std.proofs.Common.{◌≡◌, ℕ, ◌==◌, ◌&&◌, ◌||◌, ◌++◌, not, nat_le, nat_lt, Bool, true, false, cond, List, [], ◌∷◌, map, Option, Some, None, is_ok, is_some, refl, sym, ap, ◌∙◌}
use Rattle.std.specs.FinMap.{contains_key, get}
use Rattle.std.specs.Int.{w64, to_le_bytes}
use Rattle.hv_abi.specs.Check.{call_of}
use Rattle.hv_calls.specs.declared.call.Call.{Call}
use Rattle.hv_calls.specs.declared.call.Call.TheVariants.{CreatePartition, InitializePartition, FinalizePartition, DeletePartition, GetPartitionProperty, SetPartitionProperty, GetNextChildPartition}
use Rattle.hv_calls.specs.declared.call.Call.TheVariants.{DepositMemory, WithdrawMemory, GetMemoryBalance, CreateVp, DeleteVp, GetVpRegisters, SetVpRegisters, DeletePort, DisconnectPort, PostMessage}
use Rattle.hv_calls.specs.declared.call.Call.TheVariants.{SignalEvent, CreatePort, ConnectPort}
use Rattle.hv_defs.specs.Registers as register
use Rattle.hv_defs.specs.declared.aim.Aim.{Aim}
use Rattle.hv_defs.specs.declared.aim.Aim.TheVariants.{One, Any}
use Rattle.hv_defs.specs.declared.registers.RegisterRow.{RegisterRow}
use Rattle.hv_defs.specs.declared.sizes.TheConstants.{MAX_VPS}
use Rattle.hv_policy.specs.Aim.{has_target}
use Rattle.hv_policy.specs.Answer.{answer, flags_at, msr_of, next_child, output, page_or_0, register_of, value_of, vector_of}
use Rattle.hv_policy.specs.Call.{call_event}
use Rattle.hv_policy.specs.Count.{available, child_count, in_use, lowest_pooled}
use Rattle.hv_policy.specs.Flat.{Flat}
use Rattle.hv_policy.specs.Mail.{place_at, slot_at}
use Rattle.hv_policy.specs.Met.{has_available, is_child, is_childless, is_depth_left, is_in, is_in_range, is_kind, is_loose, is_vp_free, may_access, may_access_msr, may_give, on_port, takes_msr}
use Rattle.hv_policy.specs.Met.{test_row}
use Rattle.hv_policy.specs.Needs.{is_among, resolved_id}
use Rattle.hv_policy.specs.Property.{property_of}
use Rattle.hv_policy.specs.Rules.{AreMet, Ask, action_asks, call_asks, caller_asks, first_unmet, hypercall_asks, unmet}
use Rattle.hv_policy.specs.Step.{step, step_by}
use Rattle.hv_policy.specs.declared.event.Action.{Action}
use Rattle.hv_policy.specs.declared.event.Action.TheVariants.{Hypercall, ReadMsr, WriteMsr, ReadSlot, ReadFlags, TakeInterrupt}
use Rattle.hv_policy.specs.declared.event.Caller.{Caller}
use Rattle.hv_policy.specs.declared.event.Event.{Event}
use Rattle.hv_policy.specs.declared.need.States.{States}
use Rattle.hv_policy.specs.declared.property.Property.{Property}
use Rattle.hv_policy.specs.declared.reply.Reply.TheVariants.{Served}
use Rattle.hv_policy.specs.declared.rule.Rule.{Rule}
use Rattle.hv_policy.specs.declared.rule.Rule.TheVariants.{PropertyKnown, TargetState, NoChildren, Depth, PeerExists, Connection, Port, Entitlement, VpExists, PropertyRange, Operand, Pages, MsrKnown}
use Rattle.hv_policy.specs.declared.rule.Rule.TheVariants.{MsrPrivilege, MsrWrite}
use Rattle.hv_security.specs.Looks.{AnswerAlike, PortsAlike}

-- a first unmet rule behind equal fronts is equal
pub behind : (asks rest other : List Ask) → first_unmet rest ≡ first_unmet other → first_unmet (asks ++ rest) ≡ first_unmet (asks ++ other)
behind [] rest other same = same
behind (ask ∷ asks) rest other same = ap (λ first. cond ask.1 first (Some ask.0)) (behind asks rest other same)

-- and what follows doesn't count where some of them is unmet
pub stops : (asks rest other : List Ask) → (AreMet asks → ⊥) → first_unmet (asks ++ rest) ≡ first_unmet (asks ++ other)
stops [] rest other unmet = absurd (unmet tt)
stops (ask ∷ asks) rest other unmet = by ask.1 refl (λ is. stops asks rest other (λ met. unmet (is, met)))
  where
    by : (met : Bool) → ask.1 ≡ met → (ask.1 ≡ true → first_unmet (asks ++ rest) ≡ first_unmet (asks ++ other)) → cond met (first_unmet (asks ++ rest)) (Some ask.0) ≡ cond met
        (first_unmet (asks ++ other)) (Some ask.0)
    by true is past = past is
    by false is past = refl

-- rules with tests that two states answer alike, in order
pub met_alike : (rules : List (Rule × (Bool × Bool))) → AnswerAlike (map (λ r. r.1) rules) → first_unmet (map (λ r. (r.0, r.1.0)) rules) ≡ first_unmet (map (λ r. (r.0, r.1.1)) rules)
met_alike [] same = refl
met_alike (r ∷ rules) same = by (met_alike rules) r.1.0 refl
  where
    here : List Ask
    here = map (λ r. (r.0, r.1.0)) rules

    there : List Ask
    there = map (λ r. (r.0, r.1.1)) rules

    by : (AnswerAlike (map (λ r. r.1) rules) → first_unmet here ≡ first_unmet there) → (b : Bool) → r.1.0 ≡ b → cond r.1.0 (first_unmet here) (Some r.0) ≡ cond r.1.1 (first_unmet there) (Some r.0)
    by rest true is = ap (λ first. cond r.1.0 first (Some r.0)) (rest (same.1 is)) ∙ ap (λ b. cond b (first_unmet there) (Some r.0)) same.0
    by rest false is =
        ap (λ b. cond b (first_unmet here) (Some r.0)) is
        ∙ sym (ap (λ b. cond b (first_unmet there) (Some r.0)) (sym same.0 ∙ is))

-- what calls read of their caller and their target is alike
pub record ReadsAlike (caller target : ℕ) (f g : Flat) : Type 0 where
  pub part : get f.part target ≡ get g.part target
  pub vps : (vp : ℕ) → get f.vp (target, vp) ≡ get g.vp (target, vp)
  pub ports : (port : ℕ) → contains_key f.port (target, port) ≡ contains_key g.port (target, port)
  pub conns : (connection : ℕ) → contains_key f.conn (target, connection) ≡ contains_key g.conn (target, connection)
  pub children : child_count f target ≡ child_count g target
  pub child : (id : ℕ) → is_child f target id ≡ is_child g target id
  pub following : (previous : ℕ) → next_child f target previous ≡ next_child g target previous
  pub unused : available f target ≡ available g target
  pub used : in_use f target ≡ in_use g target
  pub lowest : lowest_pooled f target ≡ lowest_pooled g target
  pub loose : (page : ℕ) → is_loose caller (get f.page page) ≡ is_loose caller (get g.page page)
  pub given : (property : Option Property) (value : ℕ) → may_give property value f caller ≡ may_give property value g caller
  pub accessed : (row : Option RegisterRow) → may_access f caller row ≡ may_access g caller row

module _ (caller target : ℕ) (states : States) (charge : ℕ) (f g : Flat) where
  -- P11 to P24 of a call
  abbrev pub AskedAlike : Call → Type 0
  AskedAlike call = first_unmet (call_asks f caller target states charge call) ≡ first_unmet (call_asks g caller target states charge call)

  -- what a call reads beyond its caller and its target: HvCreatePartition its caller's depth; HvCreatePort and HvConnectPort the partition
  -- and the port that they name; a post and a signal read the end of a connection, where all that their rules read is equal
  abbrev pub NamedAlike : Call → Type 0
  NamedAlike (CreatePartition flags) = is_depth_left f caller ≡ is_depth_left g caller
  NamedAlike (PostMessage connection message_type payload) = AskedAlike (PostMessage connection message_type payload)
  NamedAlike (SignalEvent connection flag) = AskedAlike (SignalEvent connection flag)
  NamedAlike (CreatePort partition port peer port_kind sint vp base count) =
      contains_key f.part (resolved_id caller peer) ≡ contains_key g.part (resolved_id caller peer)
  NamedAlike (ConnectPort partition connection port_partition port port_kind) =
      (contains_key f.part (resolved_id caller port_partition) ≡ contains_key g.part (resolved_id caller port_partition))
      × PortsAlike (resolved_id caller port_partition, port) target port_kind f g
  NamedAlike call = Unit {0}

-- HvCreatePartition makes the same id
abbrev pub MakesAlike : Call → Flat → Flat → Type 0
MakesAlike (CreatePartition flags) f g = f.next ≡ g.next
MakesAlike call f g = Unit {0}

module _ (caller target : ℕ) (f g : Flat) (r : ReadsAlike caller target f g) where
  there : (vp : ℕ) → contains_key f.vp (target, vp) ≡ contains_key g.vp (target, vp)
  there vp = ap is_some (r.vps vp)

  free : (vp : ℕ) → is_vp_free f target vp ≡ is_vp_free g target vp
  free vp = ap (λ row. nat_lt vp MAX_VPS && not (is_some row)) (r.vps vp)

  aimed : (aim : Aim) → has_target f target aim ≡ has_target g target aim
  aimed (One vp) = there vp
  aimed Any = refl

  childless : is_childless f target ≡ is_childless g target
  childless = λ i. test_row (λ row. r.children i == 0) (r.part i)

  module _ (states : States) (charge : ℕ) where
    state : is_in f target states ≡ is_in g target states
    state = ap (test_row (λ row. is_among row.life states)) r.part

    enough : has_available f target charge ≡ has_available g target charge
    enough = ap (nat_le charge) r.unused

    -- the rules of a call are met alike
    pub asked_alike : (call : Call) → NamedAlike caller target states charge f g call → AskedAlike caller target states charge f g call
    asked_alike (CreatePartition flags) n = λ i. first_unmet ((Depth, n i) ∷ (Pages, enough i) ∷ [])
    asked_alike (InitializePartition partition) n = λ i. first_unmet ((TargetState, state i) ∷ [])
    asked_alike (FinalizePartition partition) n = λ i. first_unmet ((TargetState, state i) ∷ (NoChildren, childless i) ∷ [])
    asked_alike (DeletePartition partition) n = λ i. first_unmet ((TargetState, state i) ∷ [])
    asked_alike (SetPartitionProperty partition code value) n = λ i.
        first_unmet ((PropertyKnown, is_some (property_of code)) ∷ (TargetState, state i) ∷ (Entitlement, r.given (property_of code) value i)
        ∷ (PropertyRange, is_in_range (property_of code) value) ∷ [])
    asked_alike (GetNextChildPartition partition previous) n = λ i. first_unmet ((PeerExists, (previous == 0) || r.child previous i) ∷ [])
    asked_alike (DepositMemory partition page) n = λ i. first_unmet ((TargetState, state i) ∷ (Operand, r.loose page i) ∷ [])
    asked_alike (WithdrawMemory partition) n = λ i. first_unmet ((Pages, enough i) ∷ [])
    asked_alike (CreateVp partition vp) n = λ i. first_unmet ((TargetState, state i) ∷ (VpExists, free vp i) ∷ (Pages, enough i) ∷ [])
    asked_alike (DeleteVp partition vp) n = λ i. first_unmet ((TargetState, state i) ∷ (VpExists, there vp i) ∷ [])
    asked_alike (GetVpRegisters partition vp name) n = λ i.
        first_unmet ((TargetState, state i) ∷ (Entitlement, r.accessed (register.row_of name) i) ∷ (VpExists, there vp i)
        ∷ (Operand, is_some (register.row_of name)) ∷ [])
    asked_alike (SetVpRegisters partition vp name value) n = λ i.
        first_unmet ((TargetState, state i) ∷ (Entitlement, r.accessed (register.row_of name) i) ∷ (VpExists, there vp i)
        ∷ (Operand, is_ok (register.kept (register.row_of name) value)) ∷ [])
    asked_alike (DeletePort partition port) n = λ i. first_unmet ((TargetState, state i) ∷ (Port, r.ports port i) ∷ [])
    asked_alike (DisconnectPort partition connection) n = λ i. first_unmet ((TargetState, state i) ∷ (Connection, r.conns connection i) ∷ [])
    asked_alike (PostMessage connection message_type payload) n = n
    asked_alike (SignalEvent connection flag) n = n
    asked_alike (CreatePort partition port peer port_kind sint vp base count) n = λ i.
        first_unmet ((TargetState, state i) ∷ (PeerExists, n i) ∷ (Port, not (r.ports port i)) ∷ (VpExists, aimed vp i) ∷ (Pages, enough i) ∷ [])
    asked_alike (ConnectPort partition connection port_partition port port_kind) n =
        let key : ℕ × ℕ = (resolved_id caller port_partition, port) in
        met_alike ((TargetState, (is_in f target states, is_in g target states))
        ∷ (PeerExists, (contains_key f.part (resolved_id caller port_partition), contains_key g.part (resolved_id caller port_partition)))
        ∷ (Connection, (not (contains_key f.conn (target, connection)), not (contains_key g.conn (target, connection))))
        ∷ (Port, (contains_key f.port key, contains_key g.port key))
        ∷ (Entitlement, (on_port f key (λ row. row.peer == target), on_port g key (λ row. row.peer == target)))
        ∷ (Operand, (on_port f key (λ row. is_kind row.kind port_kind), on_port g key (λ row. is_kind row.kind port_kind)))
        ∷ (Pages, (has_available f target charge, has_available g target charge)) ∷ [])
        (state, λ in_state. (n.0, λ exists. (ap not (r.conns connection), λ free. (n.1.0, λ there. ((n.1.1 there).0, λ peer. (((n.1.1 there).1 peer).0, λ kind. (enough, λ has. tt)))))))
    asked_alike call n = refl

  -- and what it outputs is alike
  pub output_alike : (call : Call) → MakesAlike call f g → output call f caller target ≡ output call g caller target
  output_alike (CreatePartition flags) m = ap (to_le_bytes w64) m
  output_alike (GetPartitionProperty partition code) m = ap (λ row. to_le_bytes w64 (value_of (property_of code) row)) r.part
  output_alike (GetNextChildPartition partition previous) m = ap (to_le_bytes w64) (r.following previous)
  output_alike (WithdrawMemory partition) m = ap (λ page. to_le_bytes w64 (page_or_0 page)) r.lowest
  output_alike (GetMemoryBalance partition) m = λ i. to_le_bytes w64 (r.unused i) ++ to_le_bytes w64 (r.used i)
  output_alike (GetVpRegisters partition vp name) m = ap (λ row. to_le_bytes w64 (register_of row name) ++ to_le_bytes w64 0) (r.vps vp)
  output_alike call m = refl

-- the rules of a hypercall beyond P3, and its answer where it is served, are alike
abbrev pub CallAlike : {A : Type 0} → Caller → Flat → Flat → Action A → Type 0
CallAlike by f g (Hypercall frame) =
    (first_unmet (hypercall_asks f by.part frame (call_of frame)) ≡ first_unmet (hypercall_asks g by.part frame (call_of frame)))
    × (unmet f (call_event by frame) ≡ None → answer f (call_event by frame) ≡ answer g (call_event by frame))
CallAlike by f g access = Unit {0}

-- what accesses read of their processor is alike
pub record OwnAlike (by : Caller) (f g : Flat) : Type 0 where
  pub callers : caller_asks f by ≡ caller_asks g by
  pub accessed : (row : Option RegisterRow) → may_access f by.part row ≡ may_access g by.part row
  pub vp : get f.vp (by.part, by.vp) ≡ get g.vp (by.part, by.vp)
  pub slots : (sint : ℕ) → slot_at (place_at by sint) f.mail ≡ slot_at (place_at by sint) g.mail

module _ (by : Caller) (f g : Flat) (o : OwnAlike by f g) where
  -- P26
  msr_alike : (name : Option ℕ) → may_access_msr f by.part name ≡ may_access_msr g by.part name
  msr_alike None = refl
  msr_alike (Some name) = o.accessed (register.row_of name)

  module _ {A : Type 0} where
    abbrev event : Action A → Event A
    event what = record { by = by; what = what }

    actions_alike : (what : Action A) → CallAlike by f g what → first_unmet (action_asks f by.part what) ≡ first_unmet (action_asks g by.part what)
    actions_alike (Hypercall frame) c = c.0
    actions_alike (ReadMsr msr) c = λ i. first_unmet ((MsrKnown, is_some (register.name_of_msr msr)) ∷ (MsrPrivilege, msr_alike (register.name_of_msr msr) i) ∷ [])
    actions_alike (WriteMsr msr value) c = λ i.
        first_unmet ((MsrKnown, is_some (register.name_of_msr msr)) ∷ (MsrPrivilege, msr_alike (register.name_of_msr msr) i)
        ∷ (MsrWrite, takes_msr (register.name_of_msr msr) value) ∷ [])
    actions_alike what c = refl

    pub unmet_alike : (what : Action A) → CallAlike by f g what → unmet f (event what) ≡ unmet g (event what)
    unmet_alike what c =
        behind (caller_asks f by) (action_asks f by.part what) (action_asks g by.part what) (actions_alike what c)
        ∙ ap (λ asks. first_unmet (asks ++ action_asks g by.part what)) o.callers

    answer_alike : (what : Action A) → CallAlike by f g what → unmet f (event what) ≡ None → answer f (event what) ≡ answer g (event what)
    answer_alike (Hypercall frame) c met = c.1 met
    answer_alike (ReadMsr msr) c met = ap (λ row. Served (to_le_bytes w64 (msr_of row (register.name_of_msr msr)))) o.vp
    answer_alike (ReadSlot sint) c met = ap Served (o.slots sint)
    answer_alike (ReadFlags sint) c met = ap (λ row. Served (flags_at row sint)) o.vp
    answer_alike TakeInterrupt c met = ap (λ row. Served (vector_of row ∷ [])) o.vp
    answer_alike what c met = refl

    pub reply_alike : (what : Action A) → CallAlike by f g what → (step f (event what)).1 ≡ (step g (event what)).1
    reply_alike what c = at (unmet f (event what)) refl
      where
        at : (rule : Option Rule) → unmet f (event what) ≡ rule → (step f (event what)).1 ≡ (step g (event what)).1
        at None is =
            ap (λ r. (step_by f (event what) r).1) is ∙ answer_alike what c is
            ∙ sym (ap (λ r. (step_by g (event what) r).1) (sym (unmet_alike what c) ∙ is))
        at (Some rule) is =
            ap (λ r. (step_by f (event what) r).1) is
            ∙ sym (ap (λ r. (step_by g (event what) r).1) (sym (unmet_alike what c) ∙ is))
