-- What an event isn't about stays as it was.
use Rattle.std.proofs.Common.{◌≡◌, ℕ, ◌+◌, ◌==◌, ◌&&◌, Bool, true, false, cond, List, [], ◌∷◌, ◌++◌, Option, Some, None, refl, sym, ap, subst, ◌∙◌, append-nil, ne_eqb, option_map, nat_cmp}
use Rattle.std.proofs.lemmas.Bool.{and_parts, eqb-false}
use Rattle.std.specs.FinMap.{FinMap, get, insert}
use Rattle.hv_calls.specs.declared.call.Call.{Call}
use Rattle.hv_calls.specs.declared.call.Call.TheVariants.{CreatePartition, InitializePartition, FinalizePartition, DeletePartition, SetPartitionProperty, DepositMemory, WithdrawMemory, CreateVp}
use Rattle.hv_calls.specs.declared.call.Call.TheVariants.{DeleteVp, SetVpRegisters, DeletePort, DisconnectPort, PostMessage, SignalEvent, CreatePort, ConnectPort}
use Rattle.hv_defs.proofs.Maps.{get_at-insert}
use Rattle.hv_defs.specs.Flags.{pair_cmp}
use Rattle.hv_defs.specs.Registers.{name_of_msr}
use Rattle.hv_invariants.proofs.MetRules.{is_served}
use Rattle.hv_policy.proofs.Places.{last_there}
use Rattle.hv_policy.proofs.Rows.{get-narrowed}
use Rattle.hv_policy.specs.Aim.{ResolvedPort, aim_by, aim_with, flag_taker, message_taker}
use Rattle.hv_policy.specs.Call.{called}
use Rattle.hv_policy.specs.Count.{lowest_pooled}
use Rattle.hv_policy.specs.Effect.{call_effect, counted, effect, given, mask_of, narrowed, narrowed_row, narrows, new_row, post, post_at, post_to, property_set, served_effect, signal_at, signal_to}
use Rattle.hv_policy.specs.Effect.{with_row, withdrawn, write_msr}
use Rattle.hv_policy.specs.Flat.{ConnRow, Flat, MailRow, PageRow, PartRow, PortRow, VpRow}
use Rattle.hv_policy.specs.Mail.{cleared, mail_at, place_at, stands_at}
use Rattle.hv_policy.specs.Met.{is_loose}
use Rattle.hv_policy.specs.Needs.{target_of}
use Rattle.hv_policy.specs.Property.{property_of}
use Rattle.hv_policy.specs.Rules.{IsAllowed, unmet}
use Rattle.hv_policy.specs.Step.{step, step_by}
use Rattle.hv_policy.specs.Subtree.{is_in_subtree}
use Rattle.hv_policy.specs.declared.event.Action.{Action}
use Rattle.hv_policy.specs.declared.event.Action.TheVariants.{Hypercall, WriteMsr, ClearSlot, ClearFlag, TakeInterrupt}
use Rattle.hv_policy.specs.declared.event.Caller.{Caller}
use Rattle.hv_policy.specs.declared.event.Event.{Event}
use Rattle.hv_policy.specs.declared.property.Property.{Property}
use Rattle.hv_policy.specs.declared.rule.Rule.{Rule}
use Rattle.hv_privs.specs.Privileges.{of}
use Rattle.hv_security.proofs.OtherRows.{both, new_owner_apart, insert_apart, loose_row, lowest_row, mail_apart, msr_apart, nothing, once_counted, page_apart, register_apart, remove_apart}
use Rattle.hv_security.proofs.OtherRows.{removed_apart, row_apart, rows_apart, shown_apart, staff_apart}
use Rattle.hv_security.specs.Same.{HasSame, held_by, place}
use Rattle.hv_security.specs.Misses.{ActionMisses, CallMisses, IsNoEnd, Misses}

module _ (f : Flat) (id : ℕ) where
  -- rows of one map alone change
  pub part_changed : (part : FinMap nat_cmp PartRow) (n : ℕ) → get f.part id ≡ get part id → HasSame id f (record f { part = part; next = n })
  part_changed part n is = record { part = is; pages = λ _. refl; vps = λ _. refl; ports = λ _. refl; conns = λ _. refl; mail = λ _ _. refl }

  pages_changed : (pages : FinMap nat_cmp PageRow) → ((q : ℕ) → held_by id (get f.page q) ≡ held_by id (get pages q)) → HasSame id f (record f { page = pages })
  pages_changed pages is = record { part = refl; pages = is; vps = λ _. refl; ports = λ _. refl; conns = λ _. refl; mail = λ _ _. refl }

  vps_changed : (vps : FinMap pair_cmp VpRow) → ((vp : ℕ) → get f.vp (id, vp) ≡ get vps (id, vp)) → HasSame id f (record f { vp = vps })
  vps_changed vps is = record { part = refl; pages = λ _. refl; vps = is; ports = λ _. refl; conns = λ _. refl; mail = λ _ _. refl }

  ports_changed : (ports : FinMap pair_cmp PortRow) → ((port : ℕ) → get f.port (id, port) ≡ get ports (id, port)) → HasSame id f (record f { port = ports })
  ports_changed ports is = record { part = refl; pages = λ _. refl; vps = λ _. refl; ports = is; conns = λ _. refl; mail = λ _ _. refl }

  conns_changed : (conns : FinMap pair_cmp ConnRow) → ((connection : ℕ) → get f.conn (id, connection) ≡ get conns (id, connection)) → HasSame id f (record f { conn = conns })
  conns_changed conns is = record { part = refl; pages = λ _. refl; vps = λ _. refl; ports = λ _. refl; conns = is; mail = λ _ _. refl }

  mail_changed : (mail : List MailRow) → ((vp sint : ℕ) → mail_at (place id vp sint) f.mail ≡ mail_at (place id vp sint) mail) → HasSame id f (record f { mail = mail })
  mail_changed mail is = record { part = refl; pages = λ _. refl; vps = λ _. refl; ports = λ _. refl; conns = λ _. refl; mail = is }

  -- a message and a flag for another
  post_elsewhere : (row : MailRow) → id == row.part ≡ false → HasSame id f (post row f)
  post_elsewhere row off = both id f (record f { mail = f.mail ++ row ∷ [] }) (post row f) last (shown_apart id row.part off row.vp row.sint (record f { mail = f.mail ++ row ∷ [] }))
    where
      away : (vp sint : ℕ) → stands_at (place id vp sint) row ≡ false
      away vp sint = ap (λ b. b && ((row.vp == vp) && (row.sint == sint))) (ne_eqb row.part id (λ same. eqb-false id row.part off (sym same)))

      last : HasSame id f (record f { mail = f.mail ++ row ∷ [] })
      last = mail_changed (f.mail ++ row ∷ []) (λ vp sint. sym (last_there (place id vp sint) f.mail row false (away vp sint) ∙ append-nil (mail_at (place id vp sint) f.mail)))

  through : (conn : Option ConnRow) → IsNoEnd id conn → (to : Option ResolvedPort → Flat) → HasSame id f (to None) → ((aim : ResolvedPort) → id == aim.conn.part ≡ false → HasSame id f (to (Some aim)))
      → HasSame id f (to (aim_by f conn))
  through None none to nowhere there = nowhere
  through (Some conn) none to nowhere there = at (get f.port (conn.part, conn.port))
    where
      at : (r : Option PortRow) → HasSame id f (to (aim_with conn r))
      at None = nowhere
      at (Some port) = there (record { conn = conn; port = port }) (none conn refl)

  pub posted : (aim : ResolvedPort) → id == aim.conn.part ≡ false → (type : ℕ) (payload : List ℕ) (o : Option ℕ) → HasSame id f (post_at aim o type payload f)
  posted aim off type payload None = nothing id f
  posted aim off type payload (Some vp) =
      post_elsewhere (record { part = aim.conn.part; vp = vp; sint = aim.port.sint; port = aim.conn.port; born = aim.conn.born; type = type; payload = payload; shown = false }) off

  pub signalled : (aim : ResolvedPort) → id == aim.conn.part ≡ false → (flag : ℕ) (o : Option ℕ) → HasSame id f (signal_at aim o flag f)
  signalled aim off flag None = nothing id f
  signalled aim off flag (Some vp) = staff_apart id aim.conn.part off f vp _

  -- a property is set, or masks are narrowed
  module _ (target : ℕ) (property : Option Property) (value : ℕ) (off : id == target ≡ false) (outside : narrows property f target ≡ true → is_in_subtree f target id ≡ false) where
    set_elsewhere : get f.part id ≡ get (property_set f target property value) id
    set_elsewhere = by (narrows property f target) refl
      where
        same : (row : Option PartRow) → option_map (λ row. cond false (narrowed_row (of value) row) row) row ≡ row
        same None = refl
        same (Some row) = refl

        by : (b : Bool) → narrows property f target ≡ b → get f.part id ≡ get (cond b (narrowed f target (of value)) (with_row f.part target (given property value))) id
        by true is =
            sym (get-narrowed f target (of value) id ∙ ap (λ b. option_map (λ row. cond b (narrowed_row (of value) row) row) (get f.part id)) (outside is)
            ∙ same (get f.part id))
        by false is = row_apart id target off f.part (given property value)

  module _ (caller : ℕ) where
    withdrawn_elsewhere : (target : ℕ) → id == target ≡ false → id == caller ≡ false → (page : Option ℕ) → lowest_pooled f target ≡ page → (q : ℕ) → held_by id (get f.page q) ≡ held_by id
        (get (withdrawn caller page f.page) q)
    withdrawn_elsewhere target off off_caller None is q = refl
    withdrawn_elsewhere target off off_caller (Some page) is q =
        let (row, was, owner) = lowest_row f target page is in
        page_apart id page f.page row (record { owner = caller; pooled = false }) was (ap (λ n. id == n) owner ∙ off) off_caller q

    deposited_elsewhere : (target : ℕ) → id == target ≡ false → id == caller ≡ false → (page : ℕ) → is_loose caller (get f.page page) ≡ true → (q : ℕ) → held_by id (get f.page q) ≡ held_by id
        (get (insert f.page page (record { owner = target; pooled = true })) q)
    deposited_elsewhere target off off_caller page loose q =
        let (row, was, owner) = loose_row caller (get f.page page) loose in
        page_apart id page f.page row (record { owner = target; pooled = true }) was (ap (λ n. id == n) owner ∙ off_caller) off q

    pub call_misses : (call : Call) → IsAllowed f caller call → Misses call caller f id → HasSame id f (call_effect call f caller (target_of call caller))
    call_misses (CreatePartition flags) a off =
        let row = new_row caller (mask_of (get f.part caller)) in
        part_changed _ (f.next + 1) (sym (get_at-insert f.part f.next row id ∙ ap (λ b. cond b (Some row) (get f.part id)) off))
    call_misses (InitializePartition partition) a off = part_changed _ f.next (row_apart id (target_of (InitializePartition partition) caller) off f.part _)
    call_misses (FinalizePartition partition) a off =
        let target = target_of (FinalizePartition partition) caller in
        record {
          part = row_apart id target off f.part _;
          pages = λ _. refl;
          vps = rows_apart id target off f.vp;
          ports = rows_apart id target off f.port;
          conns = rows_apart id target off f.conn;
          mail = mail_apart id target off (λ row. row.part == target) (λ row h. h) f.mail;
        }
    call_misses (DeletePartition partition) a off =
        let target = target_of (DeletePartition partition) caller in
        record {
          part = removed_apart id target off.0 f.part;
          pages = new_owner_apart id target caller off.0 off.1 f.page;
          vps = λ _. refl;
          ports = λ _. refl;
          conns = λ _. refl;
          mail = λ _ _. refl;
        }
    call_misses (SetPartitionProperty partition code value) a off = part_changed _ f.next (set_elsewhere (target_of (SetPartitionProperty partition code value) caller) (property_of code) value off.0
        off.1)
    call_misses (DepositMemory partition page) a off = pages_changed _ (deposited_elsewhere (target_of (DepositMemory partition page) caller) off.0 off.1 page a.further.1.0)
    call_misses (WithdrawMemory partition) a off = pages_changed _ (withdrawn_elsewhere (target_of (WithdrawMemory partition) caller) off.0 off.1
        (lowest_pooled f (target_of (WithdrawMemory partition) caller)) refl)
    call_misses (CreateVp partition vp) a off = vps_changed _ (insert_apart id (target_of (CreateVp partition vp) caller) off f.vp vp _)
    call_misses (DeleteVp partition vp) a off =
        let target = target_of (DeleteVp partition vp) caller in
        record {
          part = refl;
          pages = λ _. refl;
          vps = remove_apart id target off f.vp vp;
          ports = λ _. refl;
          conns = λ _. refl;
          mail = mail_apart id target off (λ row. row.part == target && row.vp == vp) (λ row h. (and_parts (row.part == target) (row.vp == vp) h).0) f.mail;
        }
    call_misses (SetVpRegisters partition vp name value) a off = register_apart id (target_of (SetVpRegisters partition vp name value) caller) off vp name value f
    call_misses (DeletePort partition port) a off = ports_changed _ (remove_apart id (target_of (DeletePort partition port) caller) off f.port port)
    call_misses (DisconnectPort partition connection) a off = conns_changed _ (remove_apart id (target_of (DisconnectPort partition connection) caller) off f.conn connection)
    call_misses (PostMessage connection message_type payload) a off =
        through (get f.conn (caller, connection)) off (λ aim. post_to aim message_type payload f) (nothing id f) (λ aim away. posted aim away message_type payload (message_taker f aim))
    call_misses (SignalEvent connection flag) a off =
        through (get f.conn (caller, connection)) off (λ aim. signal_to aim flag f) (nothing id f) (λ aim away. signalled aim away flag (flag_taker f aim))
    call_misses (CreatePort partition port peer port_kind sint vp base count) a off = ports_changed _
        (insert_apart id (target_of (CreatePort partition port peer port_kind sint vp base count) caller) off f.port port _)
    call_misses (ConnectPort partition connection port_partition port port_kind) a off = conns_changed _
        (insert_apart id (target_of (ConnectPort partition connection port_partition port port_kind) caller) off f.conn connection _)
    call_misses call a off = nothing id f

  -- the shown message of another's place goes
  cleared_elsewhere : (by : Caller) (sint : ℕ) → id == by.part ≡ false → HasSame id f (record f { mail = cleared (place_at by sint) f.mail })
  cleared_elsewhere by sint other =
      mail_changed (cleared (place_at by sint) f.mail) (mail_apart id by.part other (λ row. stands_at (place_at by sint) row && row.shown) own f.mail)
    where
      own : (row : MailRow) → (stands_at (place_at by sint) row && row.shown) ≡ true → row.part == by.part ≡ true
      own row h = (and_parts (row.part == by.part) ((row.vp == by.vp) && (row.sint == sint)) (and_parts (stands_at (place_at by sint) row) row.shown h).0).0

  missed : (caller : ℕ) (c : Option Call) (call : Call) → c ≡ Some call → CallMisses c caller f id → Misses call caller f id
  missed caller None call is n = cc
  missed caller (Some other) call is n = let same : other ≡ call = cc in subst (λ call. Misses call caller f id) same n

  module _ {A : Type 0} (by : Caller) where
    abbrev event : Action A → Event A
    event what = record { by = by; what = what }

    pub action_misses : (what : Action A) → unmet f (event what) ≡ None → ActionMisses what by.part f id → HasSame id f (effect f (event what))
    action_misses (Hypercall frame) met n =
        let s = is_served f by frame met in
        subst (λ call. HasSame id f (counted (served_effect f by.part call))) (sym s.called)
        (once_counted id f _ (call_misses by.part s.call s.granted (missed by.part (called frame) s.call s.called n)))
    action_misses (WriteMsr msr value) met n = once_counted id f (write_msr by.part by.vp (name_of_msr msr) value f) (msr_apart id by.part n by.vp (name_of_msr msr) value f)
    action_misses (ClearSlot sint) met n = once_counted id f _ (cleared_elsewhere by sint n)
    action_misses (ClearFlag sint flag) met n = once_counted id f _ (staff_apart id by.part n f by.vp _)
    action_misses TakeInterrupt met n = once_counted id f _ (staff_apart id by.part n f by.vp _)
    action_misses what met n = once_counted id f f (nothing id f)

-- each event leaves as it was what it isn't about
pub misses : {A : Type 0} (f : Flat) (e : Event A) (id : ℕ) → (unmet f e ≡ None → ActionMisses e.what e.by.part f id) → HasSame id f (step f e).0
misses f e id n = by (unmet f e) refl
  where
    by : (rule : Option Rule) → unmet f e ≡ rule → HasSame id f (step_by f e rule).0
    by None is = action_misses f id e.by e.what is (n is)
    by (Some rule) is = nothing id f
