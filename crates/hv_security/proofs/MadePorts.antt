-- Ports and connections, once a call was served.
use Rattle.std.proofs.Common.{◌≡◌, ℕ, ◌+◌, ◌==◌, not, Bool, true, false, cond, List, Option, Some, None, is_some, refl, sym, ap, subst, ◌∙◌, eq-eqb, eqb-true}
use Rattle.std.proofs.lemmas.Bool.{not-true}
use Rattle.std.specs.Cmp.{eq_by_cmp_equiv}
use Rattle.std.specs.FinMap.{FinMap, get, insert, remove, get-insert, get-remove}
use Rattle.std.specs.Option.{option_map_or}
use Rattle.std.specs.Ordering.{eq_by_cmp}
use Rattle.hv_calls.specs.declared.call.Call.{Call}
use Rattle.hv_calls.specs.declared.call.Call.TheVariants.{FinalizePartition, SetVpRegisters, DeletePort, DisconnectPort, PostMessage, SignalEvent, CreatePort, ConnectPort}
use Rattle.hv_defs.specs.declared.port_kind.PortKind.{PortKind}
use Rattle.hv_defs.specs.declared.port_kind.PortKind.TheVariants as port_type
use Rattle.hv_defs.specs.Flags.{pair_cmp}
use Rattle.hv_policy.proofs.Pairs.{pair_cmp_total}
use Rattle.hv_policy.proofs.Rows.{get-rows_but}
use Rattle.hv_policy.specs.Aim.{aim_of}
use Rattle.hv_policy.specs.Effect.{born_of, call_effect, flags_of, rows_but}
use Rattle.hv_policy.specs.Flat.{ConnRow, Flat, PortRow}
use Rattle.hv_policy.specs.Met.{is_kind, on_port}
use Rattle.hv_policy.specs.Needs.{resolved_id, target_of}
use Rattle.hv_policy.specs.Rules.{IsAllowed}
use Rattle.hv_security.specs.Operation.{Operation, DidAt, DeletesPort, Connects, Disconnects, Finalizes, MakesPort, call_operation, was_served}
use Rattle.hv_security.specs.Justified.{WasConnected, WasMade}
use Rattle.hv_security.proofs.Operations.{all_served, did_last, last, more, not_after, served_last}
use Rattle.hv_security.proofs.UnchangedRows.{post_conn, post_port, register_keeps, signal_conn, signal_port, tied}
use Rattle.hv_security.proofs.RowsOneEntryLater.{connected_still, made_still, stands}

abbrev pub AreMade : List Operation → FinMap pair_cmp PortRow → Type 0
AreMade operations ports = (key : ℕ × ℕ) (port : PortRow) → get ports key ≡ Some port → WasMade operations key port

abbrev pub AreConnected : List Operation → FinMap pair_cmp ConnRow → Type 0
AreConnected operations conns = (key : ℕ × ℕ) (conn : ConnRow) → get conns key ≡ Some conn → WasConnected operations key conn

-- keys that aren't tied aren't equal
pub apart : (a b : ℕ × ℕ) → eq_by_cmp pair_cmp a b ≡ false → a.0 ≡ b.0 → a.1 ≡ b.1 → ⊥
apart a b untied first second =
    let same : a ≡ b = λ i. (first i, second i) in
    let yes : eq_by_cmp pair_cmp a b ≡ true = subst (λ k. eq_by_cmp pair_cmp a k ≡ true) same ((eq_by_cmp_equiv pair_cmp_total).refl a) in
    cc

-- nor are numbers that a test tells apart
pub other : (a b : ℕ) → not (a == b) ≡ true → a ≡ b → ⊥
other a b differ same = let yes = eq-eqb a b same in let not_same = not-true (a == b) differ in cc

-- a type that passes the test is the one that is asked
pub kind_is : (kind : PortKind) (asked : PortKind) → is_kind kind asked ≡ true → kind ≡ asked
kind_is port_type.Message port_type.Message h = refl
kind_is port_type.Message port_type.Event h = cc
kind_is port_type.Event port_type.Message h = cc
kind_is port_type.Event port_type.Event h = refl

module _ (operations : List Operation) (e : Operation) where
  pub ports_still : (ports after : FinMap pair_cmp PortRow) → after ≡ ports → ((key : ℕ × ℕ) → DeletesPort key.0 key.1 ≡ e → ⊥) → ((key : ℕ × ℕ) → Finalizes key.0 ≡ e → ⊥) → AreMade operations ports →
      AreMade (more operations e) after
  ports_still ports after same kept alive were key port is = made_still operations e key port (kept key) (alive key) (were key port (sym (ap (λ m. get m key) same) ∙ is))

  pub conns_still : (conns after : FinMap pair_cmp ConnRow) → after ≡ conns → ((key : ℕ × ℕ) → Disconnects key.0 key.1 ≡ e → ⊥) → ((key : ℕ × ℕ) → Finalizes key.0 ≡ e → ⊥) → AreConnected operations
      conns → AreConnected (more operations e) after
  conns_still conns after same kept alive were key conn is = connected_still operations e key conn (kept key) (alive key) (were key conn (sym (ap (λ m. get m key) same) ∙ is))

  -- those of a partition go
  pub ports_but : (id : ℕ) → e ≡ Finalizes id → (ports : FinMap pair_cmp PortRow) → AreMade operations ports → AreMade (more operations e) (rows_but id ports)
  ports_but id is ports were key port there = by (not (key.0 == id)) refl (sym (get-rows_but ports id key) ∙ there)
    where
      by : (b : Bool) → not (key.0 == id) ≡ b → cond b (get ports key) None ≡ Some port → WasMade (more operations e) key port
      by true at_it there = made_still operations e key port (λ h. cc) (λ h. (let same : key.0 ≡ id = cc in other key.0 id at_it same)) (were key port there)
      by false at_it there = cc

  pub conns_but : (id : ℕ) → e ≡ Finalizes id → (conns : FinMap pair_cmp ConnRow) → AreConnected operations conns → AreConnected (more operations e) (rows_but id conns)
  conns_but id is conns were key conn there = by (not (key.0 == id)) refl (sym (get-rows_but conns id key) ∙ there)
    where
      by : (b : Bool) → not (key.0 == id) ≡ b → cond b (get conns key) None ≡ Some conn → WasConnected (more operations e) key conn
      by true at_it there = connected_still operations e key conn (λ h. cc) (λ h. (let same : key.0 ≡ id = cc in other key.0 id at_it same)) (were key conn there)
      by false at_it there = cc

  -- one goes
  pub port_deleted : (at : ℕ × ℕ) → e ≡ DeletesPort at.0 at.1 → (ports : FinMap pair_cmp PortRow) → AreMade operations ports → AreMade (more operations e) (remove ports at)
  port_deleted at is ports were key port there = by (eq_by_cmp pair_cmp key at) refl (sym (get-remove pair_cmp_total ports at key) ∙ there)
    where
      by : (b : Bool) → eq_by_cmp pair_cmp key at ≡ b → cond b None (get ports key) ≡ Some port → WasMade (more operations e) key port
      by true at_it there = cc
      by false at_it there = made_still operations e key port (λ h. (let first : key.0 ≡ at.0 = cc in let second : key.1 ≡ at.1 = cc in apart key at at_it first second)) (λ h. cc)
          (were key port there)

  pub conn_deleted : (at : ℕ × ℕ) → e ≡ Disconnects at.0 at.1 → (conns : FinMap pair_cmp ConnRow) → AreConnected operations conns → AreConnected (more operations e) (remove conns at)
  conn_deleted at is conns were key conn there = by (eq_by_cmp pair_cmp key at) refl (sym (get-remove pair_cmp_total conns at key) ∙ there)
    where
      by : (b : Bool) → eq_by_cmp pair_cmp key at ≡ b → cond b None (get conns key) ≡ Some conn → WasConnected (more operations e) key conn
      by true at_it there = cc
      by false at_it there = connected_still operations e key conn (λ h. (let first : key.0 ≡ at.0 = cc in let second : key.1 ≡ at.1 = cc in apart key at at_it first second)) (λ h. cc)
          (were key conn there)

  -- one comes
  pub port_made : (at : ℕ × ℕ) (new : PortRow) (base count : ℕ) → new.base ≡ flags_of new.kind base → new.count ≡ flags_of new.kind count
      → e ≡ MakesPort at.0 at.1 new.peer new.kind new.sint new.vp base count → new.born ≡ all_served operations + 1
      → (ports : FinMap pair_cmp PortRow) → AreMade operations ports → AreMade (more operations e) (insert ports at new)
  port_made at new base count first number is born ports were key port there = by (eq_by_cmp pair_cmp key at) refl (sym (get-insert pair_cmp_total ports at new key) ∙ there)
    where
      made : WasMade (more operations e) at new
      made = record {
        at = last operations e;
        making = record {
          base = base;
          count = count;
          first = first;
          number = number;
          made = subst (DidAt (more operations e) (last operations e)) is (did_last operations e (last operations e) refl);
          birth = served_last operations e (ap was_served is) ∙ sym born;
        };
        kept = not_after operations e (last operations e) _ refl;
        alive = not_after operations e (last operations e) _ refl;
      }

      by : (b : Bool) → eq_by_cmp pair_cmp key at ≡ b → cond b (Some new) (get ports key) ≡ Some port → WasMade (more operations e) key port
      by true at_it there =
          let same : new ≡ port = cc in
          subst (λ k. WasMade (more operations e) k port) (sym (tied key at at_it)) (subst (WasMade (more operations e) at) same made)
      by false at_it there = made_still operations e key port (λ h. cc) (λ h. cc) (were key port there)

  pub conn_made : (at : ℕ × ℕ) (new : ConnRow) (port : PortRow) → WasMade operations (new.part, new.port) port → port.peer ≡ at.0 → port.kind ≡ new.kind → port.born ≡ new.born
      → e ≡ Connects at.0 at.1 new.part new.port new.kind
      → (conns : FinMap pair_cmp ConnRow) → AreConnected operations conns → AreConnected (more operations e) (insert conns at new)
  conn_made at new port was peer kind born is conns were key conn there = by (eq_by_cmp pair_cmp key at) refl (sym (get-insert pair_cmp_total conns at new key) ∙ there)
    where
      made : WasConnected (more operations e) at new
      made = record {
        at = last operations e;
        port = port;
        stood = stands operations e (new.part, new.port) port was;
        peer = peer;
        kind = kind;
        born = born;
        connected = subst (DidAt (more operations e) (last operations e)) is (did_last operations e (last operations e) refl);
        kept = not_after operations e (last operations e) _ refl;
        alive = not_after operations e (last operations e) _ refl;
      }

      by : (b : Bool) → eq_by_cmp pair_cmp key at ≡ b → cond b (Some new) (get conns key) ≡ Some conn → WasConnected (more operations e) key conn
      by true at_it there =
          let same : new ≡ conn = cc in
          subst (λ k. WasConnected (more operations e) k conn) (sym (tied key at at_it)) (subst (WasConnected (more operations e) at) same made)
      by false at_it there = connected_still operations e key conn (λ h. cc) (λ h. cc) (were key conn there)

-- what was done once a call of a partition was served, and the state that it leaves but for the count
abbrev pub after_call : List Operation → ℕ → Call → List Operation
after_call operations caller call = more operations (call_operation call caller)

abbrev pub left_by : Flat → ℕ → Call → Flat
left_by f caller call = call_effect call f caller (target_of call caller)

module _ (operations : List Operation) (f : Flat) (caller : ℕ) (counts : f.served ≡ all_served operations) (made : AreMade operations f.port) where
  pub ports_call : (call : Call) → AreMade (after_call operations caller call) (left_by f caller call).port
  ports_call (CreatePort partition port peer kind sint vp base count) = port_made operations _ (resolved_id caller partition, port) _ base count refl refl refl (ap (λ n. n + 1) counts) f.port made
  ports_call (DeletePort partition port) = port_deleted operations _ (resolved_id caller partition, port) refl f.port made
  ports_call (FinalizePartition partition) = ports_but operations _ (resolved_id caller partition) refl f.port made
  ports_call (SetVpRegisters partition vp name value) = ports_still operations _ f.port _ (register_keeps (resolved_id caller partition) vp name value f).port (λ key h. cc) (λ key h. cc) made
  ports_call (PostMessage connection message_type payload) = ports_still operations _ f.port _ (post_port (aim_of f (caller, connection)) message_type payload f) (λ key h. cc) (λ key h. cc) made
  ports_call (SignalEvent connection flag) = ports_still operations _ f.port _ (signal_port (aim_of f (caller, connection)) flag f) (λ key h. cc) (λ key h. cc) made
  ports_call call = ports_still operations _ f.port _ refl (λ key h. cc) (λ key h. cc) made

  pub conns_call : AreConnected operations f.conn → (call : Call) → IsAllowed f caller call → AreConnected (after_call operations caller call) (left_by f caller call).conn
  conns_call were (ConnectPort partition connection port_partition port kind) a = by (get f.port key) refl a.further.1.1.1.0 a.further.1.1.1.1.0 a.further.1.1.1.1.1.0
    where
      key : ℕ × ℕ
      key = (resolved_id caller port_partition, port)

      by : (row : Option PortRow) → get f.port key ≡ row → is_some (get f.port key) ≡ true → on_port f key (λ row. row.peer == resolved_id caller partition) ≡ true
          → on_port f key (λ row. is_kind row.kind kind) ≡ true → AreConnected (after_call operations caller (ConnectPort partition connection port_partition port kind))
          (left_by f caller (ConnectPort partition connection port_partition port kind)).conn
      by None is there peer kinds = let none = sym there ∙ ap is_some is in absurd (cc)
      by (Some row) is there peer kinds =
          conn_made operations _ (resolved_id caller partition, connection)
          (record { part = resolved_id caller port_partition; port = port; kind = kind; born = born_of (get f.port key) }) row (made key row is)
          (eqb-true row.peer (resolved_id caller partition) (sym (ap (λ r. option_map_or (λ (row : PortRow). row.peer == resolved_id caller partition) r false) is) ∙ peer))
          (kind_is row.kind kind (sym (ap (λ r. option_map_or (λ (row : PortRow). is_kind row.kind kind) r false) is) ∙ kinds))
          (sym (ap born_of is)) refl f.conn were
  conns_call were (DisconnectPort partition connection) a = conn_deleted operations _ (resolved_id caller partition, connection) refl f.conn were
  conns_call were (FinalizePartition partition) a = conns_but operations _ (resolved_id caller partition) refl f.conn were
  conns_call were (SetVpRegisters partition vp name value) a =
      conns_still operations _ f.conn _ (register_keeps (resolved_id caller partition) vp name value f).conn (λ key h. cc) (λ key h. cc) were
  conns_call were (PostMessage connection message_type payload) a =
      conns_still operations _ f.conn _ (post_conn (aim_of f (caller, connection)) message_type payload f) (λ key h. cc) (λ key h. cc) were
  conns_call were (SignalEvent connection flag) a = conns_still operations _ f.conn _ (signal_conn (aim_of f (caller, connection)) flag f) (λ key h. cc) (λ key h. cc) were
  conns_call were call a = conns_still operations _ f.conn _ refl (λ key h. cc) (λ key h. cc) were
