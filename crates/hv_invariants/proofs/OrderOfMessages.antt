-- States that differ in nothing but the order of messages across places do the same.
use Rattle.std.proofs.Common.{◌≡◌, ℕ, zero, suc, ◌+◌, ◌==◌, ◌&&◌, not, nat_le, nat_lt, Bool, true, false, cond, List, [], ◌∷◌, ◌++◌, Option, Some, None, is_ok, is_some, refl, sym, ap, subst, ◌∙◌}
use Rattle.std.proofs.Common.{filter}
use Rattle.std.proofs.lemmas.List.Elements.{filter-append}
use Rattle.std.specs.FinMap.{FinMap, contains_key, get}
use Rattle.std.specs.Option.{option_map_or}
use Rattle.std.specs.List.{list_any}
use Rattle.hv_abi.specs.Check.{call_of}
use Rattle.hv_abi.specs.declared.call_kind.CallKind.{CallKind}
use Rattle.hv_abi.specs.declared.frame.Frame.{Frame}
use Rattle.hv_calls.specs.Params.{parameters}
use Rattle.hv_calls.specs.declared.call.Call.{Call}
use Rattle.hv_calls.specs.declared.call.Call.TheVariants.{CreatePartition, FinalizePartition, SetPartitionProperty, DeleteVp, GetVpRegisters, SetVpRegisters, PostMessage, SignalEvent}
use Rattle.hv_defs.specs.Flags.{pair_cmp}
use Rattle.hv_defs.specs.Registers.{kept, name_of_msr, row_of}
use Rattle.hv_defs.specs.declared.registers.RegisterRow.{RegisterRow}
use Rattle.hv_defs.specs.declared.registers.TheConstants.{EOM}
use Rattle.hv_defs.specs.declared.sizes.TheConstants.{MAX_DEPTH, MAX_MESSAGES, SINTS}
use Rattle.hv_policy.proofs.SameMail.{all_same, kept_same, left_same, next_same, slot_same}
use Rattle.hv_policy.specs.Aim.{ResolvedPort, aim_by, aim_of, flag_taker, is_ready_for_messages, is_same_birth, message_taker, on_aim, on_vp}
use Rattle.hv_policy.specs.Answer.{answer, output, output_of, reply_with}
use Rattle.hv_policy.specs.Call.{called}
use Rattle.hv_policy.specs.Count.{depth_within, one_more, parent_of}
use Rattle.hv_policy.specs.Effect.{action_effect, call_effect, counted, effect, end_if, post, post_at, post_to, row_raised, served_effect, show, show_each, signal_at, signal_to, with_vp, write_msr}
use Rattle.hv_policy.specs.Effect.{write_register, written}
use Rattle.hv_policy.specs.Flat.{ConnRow, Flat, MailRow, VpRow}
use Rattle.hv_policy.specs.Mail.{Place, has_next, is_shown, is_some_row, place_at, place_of, stands_at}
use Rattle.hv_policy.specs.Met.{has_available, has_flag, has_flag_taker, has_message_room, has_message_taker, has_privilege, is_aimed_at_vp, is_for_messages, is_in, is_in_range, is_kin, may_access}
use Rattle.hv_policy.specs.Met.{may_access_msr, may_give, on_part, takes_msr}
use Rattle.hv_policy.specs.Needs.{charge_of, needs_of, target_of}
use Rattle.hv_policy.specs.Property.{property_of}
use Rattle.hv_policy.specs.Same.{IsSame, IsSameMail}
use Rattle.hv_policy.specs.Rules.{action_asks, call_asks, caller_asks, first_unmet, frame_asks, hypercall_asks, target_asks, unmet}
use Rattle.hv_policy.specs.Step.{run_from, step, step_by}
use Rattle.hv_policy.specs.declared.event.Action.{Action}
use Rattle.hv_policy.specs.declared.event.Action.TheVariants.{Hypercall, ReadMsr, WriteMsr, ReadSlot, ClearSlot}
use Rattle.hv_policy.specs.declared.event.Caller.{Caller}
use Rattle.hv_policy.specs.declared.event.Event.{Event}
use Rattle.hv_policy.specs.declared.need.Kin.{Kin}
use Rattle.hv_policy.specs.declared.need.Kin.TheVariants as kin
use Rattle.hv_policy.specs.declared.need.States.{States}
use Rattle.hv_policy.specs.declared.property.Property.{Property}
use Rattle.hv_policy.specs.declared.property.Property.TheVariants.{PrivilegeFlags}
use Rattle.hv_policy.specs.declared.reply.Reply.TheVariants.{Served}
use Rattle.hv_policy.specs.declared.rule.Rule.{Rule}
use Rattle.hv_policy.specs.declared.rule.Rule.TheVariants.{Privilege, TargetExists, TargetScope, PropertyKnown, TargetState, Depth, Connection, Port, Entitlement, VpExists, PropertyRange, Operand}
use Rattle.hv_policy.specs.declared.rule.Rule.TheVariants.{VpReady, PortRoom, Pages, MsrKnown, MsrPrivilege, MsrWrite}
use Rattle.hv_invariants.proofs.ProcessorsAndPorts.{mail_changed}
use Rattle.hv_invariants.specs.StateInvariant.{StateInvariant, is_placed}

-- a state with its messages in another order
alike : (f : Flat) (mail others : List MailRow) → IsSameMail mail others → IsSame (record f { mail = mail }) (record f { mail = others })
alike f mail others same = record {
  part = refl;
  page = refl;
  vp = refl;
  port = refl;
  conn = refl;
  mail = same;
  next = refl;
  served = refl;
}

-- Show at a place, and at each SINT of a processor
shown_same : (place : Place) (f g : Flat) → IsSame f g → IsSame (show place f) (show place g)
shown_same place f g s = record {
  part = s.part;
  page = s.page;
  vp = λ i. with_vp (s.vp i) (place.part, place.vp) (row_raised (has i) place.sint);
  port = s.port;
  conn = s.conn;
  mail = next_same f.mail g.mail s.mail place;
  next = s.next;
  served = s.served;
}
  where
    has : has_next place f.mail ≡ has_next place g.mail
    has = ap (λ rows. not (list_any is_shown rows) && is_some_row rows) (s.mail place)

each_same : (part vp n : ℕ) (f g : Flat) → IsSame f g → IsSame (show_each part vp n f) (show_each part vp n g)
unfolding show_each
each_same part vp zero f g s = s
each_same part vp (suc sint) f g s = shown_same (record { part = part; vp = vp; sint = sint }) (show_each part vp sint f) (show_each part vp sint g) (each_same part vp sint f g s)

-- a message ends, by a write of EOM
ended_same : (is : Bool) (part vp : ℕ) (f g : Flat) → IsSame f g → IsSame (end_if is part vp f) (end_if is part vp g)
ended_same false part vp f g s = s
ended_same true part vp f g s =
    subst (λ b. IsSame (end_if true part vp f) (cond b (show_each part vp SINTS g) g)) (ap (λ (vps : FinMap pair_cmp VpRow). option_map_or is_ready_for_messages (get vps (part, vp)) false) s.vp)
    (by (on_vp f (part, vp) is_ready_for_messages))
  where
    by : (b : Bool) → IsSame (cond b (show_each part vp SINTS f) f) (cond b (show_each part vp SINTS g) g)
    by true = each_same part vp SINTS f g s
    by false = s

-- one more message
last_same : (row : MailRow) (mail others : List MailRow) → IsSameMail mail others → IsSameMail (mail ++ row ∷ []) (others ++ row ∷ [])
last_same row mail others same place =
    filter-append (stands_at place) mail (row ∷ []) ∙ ap (λ rows. rows ++ filter (stands_at place) (row ∷ [])) (same place)
    ∙ sym (filter-append (stands_at place) others (row ∷ []))

counted_same : (f g : Flat) → IsSame f g → IsSame (counted f) (counted g)
counted_same f g s = record {
  part = s.part;
  page = s.page;
  vp = s.vp;
  port = s.port;
  conn = s.conn;
  mail = s.mail;
  next = s.next;
  served = ap (λ n. n + 1) s.served;
}

module _ (f : Flat) (mail : List MailRow) (same : IsSameMail f.mail mail) where
  abbrev g : Flat
  g = record f { mail = mail }

  -- no rule but P23 looks at the messages, and it counts them
  depth_same : (steps id : ℕ) → depth_within steps f id ≡ depth_within steps g id
  depth_same zero id = refl
  depth_same (suc steps) id = ap (λ depth_of. one_more depth_of (parent_of f id)) (λ i id. depth_same steps id i)

  kin_same : (k : Kin) (caller id : ℕ) → is_kin k f caller id ≡ is_kin k g caller id
  kin_same kin.Caller caller id = refl
  kin_same k caller id = refl

  give_same : (property : Option Property) (value caller : ℕ) → may_give property value f caller ≡ may_give property value g caller
  give_same None value caller = refl
  give_same (Some PrivilegeFlags) value caller = refl
  give_same (Some property) value caller = refl

  access_same : (row : Option RegisterRow) (id : ℕ) → may_access f id row ≡ may_access g id row
  access_same None id = refl
  access_same (Some row) id = refl

  access_msr_same : (name : Option ℕ) (id : ℕ) → may_access_msr f id name ≡ may_access_msr g id name
  access_msr_same None id = refl
  access_msr_same (Some name) id = access_same (row_of name) id

  aim_same : (conn : Option ConnRow) → aim_by f conn ≡ aim_by g conn
  aim_same None = refl
  aim_same (Some conn) = refl

  aims : (key : ℕ × ℕ) → aim_of f key ≡ aim_of g key
  aims key = aim_same (get f.conn key)

  -- a test of where a connection leads, which looks at the state alike
  led : (key : ℕ × ℕ) (test other : ResolvedPort → Bool) → ((aim : ResolvedPort) → test aim ≡ other aim) → on_aim f key test ≡ on_aim g key other
  led key test other same = λ i. option_map_or (λ aim. same aim i) (aims key i) false

  room_same : (aim : ResolvedPort) → has_message_room f aim ≡ has_message_room g aim
  room_same aim = ap (λ n. nat_lt n MAX_MESSAGES) (kept_same aim.conn.part aim.conn.port aim.conn.born f.mail mail same)

  module _ (caller target : ℕ) (states : States) (charge : ℕ) where
    call_same : (call : Call) → call_asks f caller target states charge call ≡ call_asks g caller target states charge call
    call_same (CreatePartition flags) = λ i. (Depth, on_part f caller (λ row. nat_le (depth_same caller caller i + 1) MAX_DEPTH)) ∷ (Pages, has_available f target charge) ∷ []
    call_same (SetPartitionProperty partition code value) = λ i.
        (PropertyKnown, is_some (property_of code)) ∷ (TargetState, is_in f target states) ∷ (Entitlement, give_same (property_of code) value caller i)
        ∷ (PropertyRange, is_in_range (property_of code) value) ∷ []
    call_same (GetVpRegisters partition vp name) = λ i.
        (TargetState, is_in f target states) ∷ (Entitlement, access_same (row_of name) caller i) ∷ (VpExists, contains_key f.vp (target, vp))
        ∷ (Operand, is_some (row_of name)) ∷ []
    call_same (SetVpRegisters partition vp name value) = λ i.
        (TargetState, is_in f target states) ∷ (Entitlement, access_same (row_of name) caller i) ∷ (VpExists, contains_key f.vp (target, vp))
        ∷ (Operand, is_ok (kept (row_of name) value)) ∷ []
    call_same (PostMessage connection message_type payload) = λ i.
        (Connection, contains_key f.conn (target, connection)) ∷ (Port, led (target, connection) is_same_birth is_same_birth (λ _. refl) i)
        ∷ (VpExists, led (target, connection) (is_aimed_at_vp f) (is_aimed_at_vp g) (λ _. refl) i)
        ∷ (Operand, led (target, connection) is_for_messages is_for_messages (λ _. refl) i)
        ∷ (VpReady, led (target, connection) (has_message_taker f) (has_message_taker g) (λ _. refl) i)
        ∷ (PortRoom, led (target, connection) (has_message_room f) (has_message_room g) room_same i) ∷ []
    call_same (SignalEvent connection flag) = λ i.
        (Connection, contains_key f.conn (target, connection)) ∷ (Port, led (target, connection) is_same_birth is_same_birth (λ _. refl) i)
        ∷ (VpExists, led (target, connection) (is_aimed_at_vp f) (is_aimed_at_vp g) (λ _. refl) i)
        ∷ (Operand, led (target, connection) (has_flag flag) (has_flag flag) (λ _. refl) i)
        ∷ (VpReady, led (target, connection) (has_flag_taker f) (has_flag_taker g) (λ _. refl) i) ∷ []
    call_same call = refl

  targets_same : (caller : ℕ) (call : Call) → target_asks f caller call ≡ target_asks g caller call
  targets_same caller call = λ i.
      (Privilege, has_privilege f caller (needs_of call).privilege) ∷ (TargetExists, contains_key f.part (target_of call caller))
      ∷ (TargetScope, kin_same (needs_of call).kin caller (target_of call caller) i) ∷ []

  module _ {A : Type 0} where
    hypercall_same : (caller : ℕ) (frame : Frame A) (k : Option CallKind) → hypercall_asks f caller frame k ≡ hypercall_asks g caller frame k
    hypercall_same caller frame None = refl
    hypercall_same caller frame (Some kind) = λ i.
        frame_asks kind frame
        ++ (targets_same caller (parameters kind frame) i
        ++ call_same caller (target_of (parameters kind frame) caller) (needs_of (parameters kind frame)).states (charge_of (parameters kind frame)) (parameters kind frame) i)

    asks_same : (caller : ℕ) (what : Action A) → action_asks f caller what ≡ action_asks g caller what
    asks_same caller (Hypercall frame) = hypercall_same caller frame (call_of frame)
    asks_same caller (ReadMsr msr) = λ i. (MsrKnown, is_some (name_of_msr msr)) ∷ (MsrPrivilege, access_msr_same (name_of_msr msr) caller i) ∷ []
    asks_same caller (WriteMsr msr value) = λ i.
        (MsrKnown, is_some (name_of_msr msr)) ∷ (MsrPrivilege, access_msr_same (name_of_msr msr) caller i) ∷ (MsrWrite, takes_msr (name_of_msr msr) value) ∷ []
    asks_same caller what = refl

    unmet_same : (e : Event A) → unmet f e ≡ unmet g e
    unmet_same e = ap (λ rest. first_unmet (caller_asks f e.by ++ rest)) (asks_same e.by.part e.what)

  -- no reply but that of a slot shows them, and it shows its own place
  output_same : (call : Call) (caller target : ℕ) → output call f caller target ≡ output call g caller target
  output_same (CreatePartition flags) caller target = refl
  output_same call caller target = refl

  called_same : (caller : ℕ) (call : Option Call) → output_of f caller call ≡ output_of g caller call
  called_same caller None = refl
  called_same caller (Some call) = output_same call caller (target_of call caller)

  module _ {A : Type 0} (by : Caller) where
    answer_same : (what : Action A) → answer f (record { by = by; what = what }) ≡ answer g (record { by = by; what = what })
    answer_same (Hypercall frame) = ap (reply_with frame) (called_same by.part (called frame))
    answer_same (ReadSlot sint) = ap Served (slot_same f.mail mail same (place_at by sint))
    answer_same what = refl

  -- and each change leaves them the same place by place
  written_same : (part vp name value : ℕ) → IsSame (write_register part vp name value f) (write_register part vp name value g)
  written_same part vp name value = ended_same (name == EOM) part vp _ _ (alike (record f { vp = with_vp f.vp (part, vp) (written name value) }) f.mail mail same)

  msr_same : (part vp : ℕ) (name : Option ℕ) (value : ℕ) → IsSame (write_msr part vp name value f) (write_msr part vp name value g)
  msr_same part vp None value = alike f f.mail mail same
  msr_same part vp (Some name) value = written_same part vp name value

  posted_alike : (row : MailRow) → IsSame (post row f) (post row g)
  posted_alike row = shown_same (place_of row) _ _ (alike f (f.mail ++ row ∷ []) (mail ++ row ∷ []) (last_same row f.mail mail same))

  through_same : (aim : Option ResolvedPort) (type : ℕ) (payload : List ℕ) → IsSame (post_to aim type payload f) (post_to aim type payload g)
  through_same None type payload = alike f f.mail mail same
  through_same (Some aim) type payload = by (message_taker f aim)
    where
      by : (o : Option ℕ) → IsSame (post_at aim o type payload f) (post_at aim o type payload g)
      by None = alike f f.mail mail same
      by (Some vp) = posted_alike _

  signal_same : (aim : Option ResolvedPort) (flag : ℕ) → IsSame (signal_to aim flag f) (signal_to aim flag g)
  signal_same None flag = alike f f.mail mail same
  signal_same (Some aim) flag = by (flag_taker f aim)
    where
      by : (o : Option ℕ) → IsSame (signal_at aim o flag f) (signal_at aim o flag g)
      by None = alike f f.mail mail same
      by (Some vp) = alike (signal_at aim (Some vp) flag f) f.mail mail same

  call_effect_same : (call : Call) (caller target : ℕ) → IsSame (call_effect call f caller target) (call_effect call g caller target)
  call_effect_same (FinalizePartition partition) caller target =
      alike (call_effect (FinalizePartition partition) f caller target) _ _ (left_same f.mail mail same (λ row. not (row.part == target)))
  call_effect_same (DeleteVp partition vp) caller target =
      alike (call_effect (DeleteVp partition vp) f caller target) _ _ (left_same f.mail mail same (λ row. not (row.part == target && row.vp == vp)))
  call_effect_same (SetVpRegisters partition vp name value) caller target = written_same target vp name value
  call_effect_same (PostMessage connection message_type payload) caller target =
      subst (λ aim. IsSame (post_to (aim_of f (target, connection)) message_type payload f) (post_to aim message_type payload g)) (aims (target, connection))
      (through_same (aim_of f (target, connection)) message_type payload)
  call_effect_same (SignalEvent connection flag) caller target =
      subst (λ aim. IsSame (signal_to (aim_of f (target, connection)) flag f) (signal_to aim flag g)) (aims (target, connection))
      (signal_same (aim_of f (target, connection)) flag)
  call_effect_same call caller target = alike (call_effect call f caller target) f.mail mail same

  served_same : (caller : ℕ) (call : Option Call) → IsSame (served_effect f caller call) (served_effect g caller call)
  served_same caller None = alike f f.mail mail same
  served_same caller (Some call) = call_effect_same call caller (target_of call caller)

  module _ {A : Type 0} where
    action_same : (by : Caller) (what : Action A) → IsSame (action_effect f by what) (action_effect g by what)
    action_same by (Hypercall frame) = served_same by.part (called frame)
    action_same by (WriteMsr msr value) = msr_same by.part by.vp (name_of_msr msr) value
    action_same by (ClearSlot sint) = alike f _ _ (left_same f.mail mail same (λ row. not (stands_at (place_at by sint) row && row.shown)))
    action_same by what = alike (action_effect f by what) f.mail mail same

    effect_same : (e : Event A) → IsSame (effect f e) (effect g e)
    effect_same e = counted_same _ _ (action_same e.by e.what)

    abbrev AreAlike : Event A → Option Rule → Option Rule → Type 0
    AreAlike e rule other = ((step_by f e rule).1 ≡ (step_by g e other).1) × IsSame (step_by f e rule).0 (step_by g e other).0

    step_alike : (e : Event A) → AreAlike e (unmet f e) (unmet g e)
    step_alike e = subst (AreAlike e (unmet f e)) (unmet_same e) (by_rule (unmet f e))
      where
        by_rule : (rule : Option Rule) → AreAlike e rule rule
        by_rule None = (answer_same e.by e.what, effect_same e)
        by_rule (Some rule) = (refl, alike f f.mail mail same)

  lawful_alike : (pages : ℕ) → StateInvariant pages f → StateInvariant pages g
  lawful_alike pages l = mail_changed pages f l mail (record { ports = l.ports; placed = all_same (is_placed f) f.mail mail same l.placed })

-- a state is the other one with its own messages
other_order : (f g : Flat) → IsSame f g → record f { mail = g.mail } ≡ g
other_order f g s = λ i. record {
  part = s.part i;
  page = s.page i;
  vp = s.vp i;
  port = s.port i;
  conn = s.conn i;
  mail = g.mail;
  next = s.next i;
  served = s.served i;
}

pub lawful_same : (pages : ℕ) (f g : Flat) → IsSame f g → StateInvariant pages f → StateInvariant pages g
lawful_same pages f g s l = subst (StateInvariant pages) (other_order f g s) (lawful_alike f g.mail s.mail pages l)

module _ {A : Type 0} where
  -- one event
  pub step_same : (f g : Flat) (e : Event A) → IsSame f g → ((step f e).1 ≡ (step g e).1) × IsSame (step f e).0 (step g e).0
  step_same f g e s = subst (λ g. ((step f e).1 ≡ (step g e).1) × IsSame (step f e).0 (step g e).0) (other_order f g s) (step_alike f g.mail s.mail e)

  -- any events
  pub run_same : (f g : Flat) (events : List (Event A)) → IsSame f g → ((run_from f events).1 ≡ (run_from g events).1) × IsSame (run_from f events).0 (run_from g events).0
  run_same f g [] s = (refl, s)
  run_same f g (e ∷ events) s =
      let (first, left) = step_same f g e s in
      let (rest, last) = run_same (step f e).0 (step g e).0 events left in
      ((λ i. first i ∷ rest i), last)
