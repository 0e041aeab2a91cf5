-- Connections are of their ports' peers, once a call was served.
use Rattle.std.proofs.Common.{◌≡◌, ℕ, ◌+◌, ◌≤◌, ◌==◌, not, Bool, true, false, cond, Some, None, refl, sym, ap, ◌∙◌, arith, eqb-true}
use Rattle.std.specs.FinMap.{FinMap, get, insert, remove, get-insert, get-remove}
use Rattle.std.specs.Option.{option_map_or}
use Rattle.std.specs.Ordering.{eq_by_cmp}
use Rattle.hv_calls.specs.declared.call.Call.{Call}
use Rattle.hv_calls.specs.declared.call.Call.TheVariants.{FinalizePartition, SetVpRegisters, DeletePort, DisconnectPort, PostMessage, SignalEvent, CreatePort, ConnectPort}
use Rattle.hv_defs.specs.Flags.{pair_cmp}
use Rattle.hv_policy.proofs.Pairs.{pair_cmp_total}
use Rattle.hv_policy.proofs.Rows.{get-rows_but}
use Rattle.hv_policy.specs.Aim.{aim_of}
use Rattle.hv_policy.specs.Effect.{rows_but}
use Rattle.hv_policy.specs.Flat.{ConnRow, Flat, PortRow}
use Rattle.hv_policy.specs.Met.{on_port}
use Rattle.hv_policy.specs.Needs.{resolved_id, target_of}
use Rattle.hv_policy.specs.Rules.{IsAllowed}
use Rattle.hv_security.specs.Justified.{AreOfPeers}
use Rattle.hv_security.proofs.UnchangedRows.{post_conn, post_port, register_keeps, signal_conn, signal_port, tied}
use Rattle.hv_security.proofs.MadePorts.{left_by}

module _ (f : Flat) (peers : AreOfPeers f) (past : (key : ℕ × ℕ) (conn : ConnRow) → get f.conn key ≡ Some conn → conn.born ≤ f.served) where
  -- of other rows, each of which is one of these, or a port with a later birth
  abbrev IsOld : FinMap pair_cmp PortRow → Type 0
  IsOld ports = (key : ℕ × ℕ) (port : PortRow) (born : ℕ) → get ports key ≡ Some port → port.born ≡ born → born ≤ f.served → get f.port key ≡ Some port

  abbrev AreKept : FinMap pair_cmp ConnRow → Type 0
  AreKept conns = (key : ℕ × ℕ) (conn : ConnRow) → get conns key ≡ Some conn → get f.conn key ≡ Some conn

  abbrev OfPeers : FinMap pair_cmp PortRow → FinMap pair_cmp ConnRow → Type 0
  OfPeers ports conns = (key : ℕ × ℕ) (conn : ConnRow) (port : PortRow) → get conns key ≡ Some conn → get ports (conn.part, conn.port) ≡ Some port → port.born ≡ conn.born → port.peer ≡ key.0

  kept : (ports : FinMap pair_cmp PortRow) (conns : FinMap pair_cmp ConnRow) → IsOld ports → AreKept conns → OfPeers ports conns
  kept ports conns old still key conn port is there same =
      let was = still key conn is in
      peers key conn port was (old (conn.part, conn.port) port conn.born there same (past key conn was)) same

  same_ports : (ports : FinMap pair_cmp PortRow) → ports ≡ f.port → IsOld ports
  same_ports ports is key port born there same less = ap (λ m. get m key) (sym is) ∙ there

  same_conns : (conns : FinMap pair_cmp ConnRow) → conns ≡ f.conn → AreKept conns
  same_conns conns is key conn there = ap (λ m. get m key) (sym is) ∙ there

  pub peers_still : (ports : FinMap pair_cmp PortRow) (conns : FinMap pair_cmp ConnRow) → ports ≡ f.port → conns ≡ f.conn → OfPeers ports conns
  peers_still ports conns is is_too = kept ports conns (same_ports ports is) (same_conns conns is_too)

  left : {X : Type 0} (rows : FinMap pair_cmp X) (target : ℕ) (key : ℕ × ℕ) (row : X) → get (rows_but target rows) key ≡ Some row → get rows key ≡ Some row
  left rows target key row is = by (not (key.0 == target)) (sym (get-rows_but rows target key) ∙ is)
    where
      by : (b : Bool) → cond b (get rows key) None ≡ Some row → get rows key ≡ Some row
      by true is = is
      by false is = cc

  removed : {X : Type 0} (rows : FinMap pair_cmp X) (at key : ℕ × ℕ) (row : X) → get (remove rows at) key ≡ Some row → get rows key ≡ Some row
  removed rows at key row is = by (eq_by_cmp pair_cmp key at) (sym (get-remove pair_cmp_total rows at key) ∙ is)
    where
      by : (b : Bool) → cond b None (get rows key) ≡ Some row → get rows key ≡ Some row
      by true is = cc
      by false is = is

  -- a new port has a later birth than any connection keeps
  made : (at : ℕ × ℕ) (new : PortRow) → new.born ≡ f.served + 1 → IsOld (insert f.port at new)
  made at new late key port born is same less = by (eq_by_cmp pair_cmp key at) (sym (get-insert pair_cmp_total f.port at new key) ∙ is)
    where
      by : (b : Bool) → cond b (Some new) (get f.port key) ≡ Some port → get f.port key ≡ Some port
      by true is = let births : new.born ≡ port.born = (let one : new ≡ port = cc in ap (λ (row : PortRow). row.born) one) in absurd (omega (arith, births, late, same, less))
      by false is = is

  -- a new connection is of the port's peer
  connected : (at key : ℕ × ℕ) (new : ConnRow) → (new.part, new.port) ≡ key → on_port f key (λ row. row.peer == at.0) ≡ true → AreOfPeers (record f { conn = insert f.conn at new })
  connected at to new leads peer key conn port is there same = by (eq_by_cmp pair_cmp key at) refl (sym (get-insert pair_cmp_total f.conn at new key) ∙ is)
    where
      by : (b : Bool) → eq_by_cmp pair_cmp key at ≡ b → cond b (Some new) (get f.conn key) ≡ Some conn → port.peer ≡ key.0
      by true is_at is =
          let one : new ≡ conn = cc in
          let here : key ≡ at = tied key at is_at in
          let found : get f.port to ≡ Some port = ap (get f.port) (sym leads) ∙ ap (λ (row : ConnRow). get f.port (row.part, row.port)) one ∙ there in
          let own : port.peer == at.0 ≡ true = ap (λ r. option_map_or (λ (row : PortRow). row.peer == at.0) r false) (sym found) ∙ peer in
          eqb-true port.peer at.0 own ∙ ap (λ (k : ℕ × ℕ). k.0) (sym here)
      by false is_at is = peers key conn port is there same

  pub call_peers : (caller : ℕ) (call : Call) → IsAllowed f caller call → AreOfPeers (left_by f caller call)
  call_peers caller (FinalizePartition partition) a = kept _ _ (λ key port born is same less. left f.port (target_of (FinalizePartition partition) caller) key port is)
      (λ key conn is. left f.conn (target_of (FinalizePartition partition) caller) key conn is)
  call_peers caller (SetVpRegisters partition vp name value) a = peers_still _ _ (register_keeps (target_of (SetVpRegisters partition vp name value) caller) vp name value f).port
      (register_keeps (target_of (SetVpRegisters partition vp name value) caller) vp name value f).conn
  call_peers caller (DeletePort partition port) a = kept _ _ (λ key row born is same less. removed f.port (target_of (DeletePort partition port) caller, port) key row is) (λ key conn is. is)
  call_peers caller (DisconnectPort partition connection) a = kept _ _ (λ key row born is same less. is)
      (λ key conn is. removed f.conn (target_of (DisconnectPort partition connection) caller, connection) key conn is)
  call_peers caller (PostMessage connection message_type payload) a = peers_still _ _ (post_port (aim_of f (caller, connection)) message_type payload f)
      (post_conn (aim_of f (caller, connection)) message_type payload f)
  call_peers caller (SignalEvent connection flag) a = peers_still _ _ (signal_port (aim_of f (caller, connection)) flag f) (signal_conn (aim_of f (caller, connection)) flag f)
  call_peers caller (CreatePort partition port peer port_kind sint vp base count) a = kept _ _ (made (target_of (CreatePort partition port peer port_kind sint vp base count) caller, port) _ refl)
      (λ key conn is. is)
  call_peers caller (ConnectPort partition connection port_partition port port_kind) a =
      connected (target_of (ConnectPort partition connection port_partition port port_kind) caller, connection) (resolved_id caller port_partition, port) _ refl a.further.1.1.1.1.0
  call_peers caller call a = peers
