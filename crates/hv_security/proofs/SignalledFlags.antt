-- Flags that are set, once a call was served.
use Rattle.std.proofs.Common.{◌≡◌, ℕ, ◌+◌, ◌==◌, ◌||◌, not, nat_lt, Bool, true, false, cond, length, List, Option, Some, None, is_some, refl, sym, ap, subst, ◌∙◌, ltb-true, option_map}
use Rattle.std.proofs.lemmas.Bool.{and_parts, not-true}
use Rattle.std.specs.FinMap.{FinMap, get, insert, remove, get-insert, get-remove}
use Rattle.std.specs.FinSet as set
use Rattle.std.specs.FinSet.{contains-empty, contains-insert, contains-remove}
use Rattle.std.specs.Ordering.{eq_by_cmp}
use Rattle.hv_calls.specs.declared.call.Call.{Call}
use Rattle.hv_calls.specs.declared.call.Call.TheVariants.{FinalizePartition, CreateVp, DeleteVp, SetVpRegisters, PostMessage, SignalEvent}
use Rattle.hv_defs.specs.declared.port_kind.PortKind.TheVariants as port_type
use Rattle.hv_defs.specs.Flags.{pair_cmp}
use Rattle.hv_policy.proofs.Pairs.{pair_cmp_total}
use Rattle.hv_policy.proofs.Rows.{get-rows_but, get-with_vp}
use Rattle.hv_policy.specs.Aim.{ResolvedPort, aim_of, flag_taker, is_same_birth, on_aim}
use Rattle.hv_policy.specs.Boot.{start_vp}
use Rattle.hv_policy.specs.Effect.{row_signalled, rows_but, signal_at, signal_to, with_vp}
use Rattle.hv_policy.specs.Flat.{Flat, VpRow}
use Rattle.hv_policy.specs.Met.{is_kind}
use Rattle.hv_policy.specs.Met as event
use Rattle.hv_policy.specs.Needs.{resolved_id}
use Rattle.hv_policy.specs.Rules.{IsAllowed}
use Rattle.hv_security.specs.Operation.{Operation, ClearsFlag, DeletesVp, Finalizes, Signals}
use Rattle.hv_security.specs.Justified.{AreOfPeers, WasMade, WasSignalled, has_flag}
use Rattle.hv_security.proofs.Operations.{did_last, last, more, not_after}
use Rattle.hv_security.proofs.UnchangedRows.{post_flags, register_keeps, set_in, test_vp, tied}
use Rattle.hv_security.proofs.PostedMessages.{Reaches, reached, tested}
use Rattle.hv_security.proofs.MadePorts.{AreConnected, AreMade, after_call, apart, kind_is, left_by, other}
use Rattle.hv_security.proofs.RowsOneEntryLater.{signalled_still, way_of}

-- each flag that is set, of processors, was signalled
abbrev pub AreSignalled : (ℕ → Flat) → List Operation → FinMap pair_cmp VpRow → Type 0
AreSignalled states operations vps = (id vp sint flag : ℕ) → set_in vps id vp sint flag ≡ true → WasSignalled states operations id vp sint flag

-- a processor's row with a flag cleared
abbrev row_cleared : ℕ → ℕ → VpRow → VpRow
row_cleared sint flag row = record row { flags = set.remove row.flags (sint, flag) }

module _ (states : ℕ → Flat) (operations : List Operation) (e : Operation) (vps : FinMap pair_cmp VpRow) (were : AreSignalled states operations vps) where
  pub flags_still : (after : FinMap pair_cmp VpRow) → ((id vp sint flag : ℕ) → set_in after id vp sint flag ≡ set_in vps id vp sint flag)
      → ((id vp : ℕ) → DeletesVp id vp ≡ e → ⊥) → ((id : ℕ) → Finalizes id ≡ e → ⊥) → ((id vp sint flag : ℕ) → ClearsFlag id vp sint flag ≡ e → ⊥)
      → AreSignalled states (more operations e) after
  flags_still after same kept alive left id vp sint flag is =
      signalled_still operations e states id vp sint flag (kept id vp) (alive id) (left id vp sint flag) (were id vp sint flag (sym (same id vp sint flag) ∙ is))

  -- those of a partition go
  pub flags_but : (gone : ℕ) → e ≡ Finalizes gone → AreSignalled states (more operations e) (rows_but gone vps)
  flags_but gone is id vp sint flag there = by (not (id == gone)) refl (sym (ap (test_vp (has_flag sint flag)) (get-rows_but vps gone (id, vp))) ∙ there)
    where
      by : (b : Bool) → not (id == gone) ≡ b → test_vp (has_flag sint flag) (cond b (get vps (id, vp)) None) ≡ true → WasSignalled states (more operations e) id vp sint flag
      by true differ there = signalled_still operations e states id vp sint flag (λ h. cc) (λ h. (let same : id ≡ gone = cc in other id gone differ same)) (λ h. cc) (were id vp sint flag there)
      by false differ there = cc

  -- those of a processor go
  pub flags_deleted : (at : ℕ × ℕ) → e ≡ DeletesVp at.0 at.1 → AreSignalled states (more operations e) (remove vps at)
  flags_deleted at is id vp sint flag there = by (eq_by_cmp pair_cmp (id, vp) at) refl (sym (ap (test_vp (has_flag sint flag)) (get-remove pair_cmp_total vps at (id, vp))) ∙ there)
    where
      by : (b : Bool) → eq_by_cmp pair_cmp (id, vp) at ≡ b → test_vp (has_flag sint flag) (cond b None (get vps (id, vp))) ≡ true → WasSignalled states (more operations e) id vp sint flag
      by true at_it there = cc
      by false at_it there = signalled_still operations e states id vp sint flag (λ h. (let first : id ≡ at.0 = cc in let second : vp ≡ at.1 = cc in apart (id, vp) at at_it first second)) (λ h. cc)
          (λ h. cc) (were id vp sint flag there)

  -- a new processor has none
  pub flags_new : (at : ℕ × ℕ) (index : ℕ) → ((id vp : ℕ) → DeletesVp id vp ≡ e → ⊥) → ((id : ℕ) → Finalizes id ≡ e → ⊥) → ((id vp sint flag : ℕ) → ClearsFlag id vp sint flag ≡ e → ⊥)
      → AreSignalled states (more operations e) (insert vps at (start_vp index))
  flags_new at index kept alive left id vp sint flag there = by (eq_by_cmp pair_cmp (id, vp) at)
      (sym (ap (test_vp (has_flag sint flag)) (get-insert pair_cmp_total vps at (start_vp index) (id, vp))) ∙ there)
    where
      by : (b : Bool) → test_vp (has_flag sint flag) (cond b (Some (start_vp index)) (get vps (id, vp))) ≡ true → WasSignalled states (more operations e) id vp sint flag
      by true there = let none = contains-empty pair_cmp (sint, flag) in cc
      by false there = signalled_still operations e states id vp sint flag (kept id vp) (alive id) (left id vp sint flag) (were id vp sint flag there)

  -- a processor clears one
  pub flags_cleared : (by_id by_vp cleared_sint cleared : ℕ) → e ≡ ClearsFlag by_id by_vp cleared_sint cleared
      → AreSignalled states (more operations e) (with_vp vps (by_id, by_vp) (λ row. record row { flags = set.remove row.flags (cleared_sint, cleared) }))
  flags_cleared by_id by_vp cleared_sint cleared is id vp sint flag there =
      by (eq_by_cmp pair_cmp (id, vp) (by_id, by_vp)) refl (get vps (by_id, by_vp)) refl
      (sym (ap (test_vp (has_flag sint flag)) (get-with_vp vps (by_id, by_vp) (row_cleared cleared_sint cleared) (id, vp))) ∙ there)
    where
      by : (b : Bool) → eq_by_cmp pair_cmp (id, vp) (by_id, by_vp) ≡ b → (row : Option VpRow) → get vps (by_id, by_vp) ≡ row → test_vp (has_flag sint flag)
          (cond b (option_map (row_cleared cleared_sint cleared) row) (get vps (id, vp))) ≡ true → WasSignalled states (more operations e) id vp sint flag
      by true at_it None row_is there = cc
      by true at_it (Some row) row_is there =
          let parts = and_parts (not (eq_by_cmp pair_cmp (sint, flag) (cleared_sint, cleared))) (set.contains row.flags (sint, flag))
          (sym (contains-remove pair_cmp_total row.flags (cleared_sint, cleared) (sint, flag)) ∙ there) in
          let untied = not-true (eq_by_cmp pair_cmp (sint, flag) (cleared_sint, cleared)) parts.0 in
          signalled_still operations e states id vp sint flag (λ h. cc) (λ h. cc) (λ h. (let first : sint ≡ cleared_sint = cc in let second : flag ≡ cleared = cc in apart (sint, flag)
          (cleared_sint, cleared) untied first second))
          (were id vp sint flag (ap (test_vp (has_flag sint flag)) (ap (get vps) (tied (id, vp) (by_id, by_vp) at_it) ∙ row_is) ∙ parts.1))
      by false at_it row row_is there =
          signalled_still operations e states id vp sint flag (λ h. cc) (λ h. cc) (λ h. (let first : id ≡ by_id = cc in let second : vp ≡ by_vp = cc in apart (id, vp) (by_id, by_vp) at_it first
          second))
          (were id vp sint flag there)

  -- one is set
  pub flags_more : (at : ℕ × ℕ) (at_sint set_flag : ℕ) → ((id vp : ℕ) → DeletesVp id vp ≡ e → ⊥) → ((id : ℕ) → Finalizes id ≡ e → ⊥) → ((id vp sint flag : ℕ) → ClearsFlag id vp sint flag ≡ e → ⊥)
      → WasSignalled states (more operations e) at.0 at.1 at_sint set_flag → AreSignalled states (more operations e) (with_vp vps at (row_signalled at_sint set_flag))
  flags_more at at_sint set_flag kept alive left new id vp sint flag there =
      by (eq_by_cmp pair_cmp (id, vp) at) refl (get vps at) refl (sym (ap (test_vp (has_flag sint flag)) (get-with_vp vps at (row_signalled at_sint set_flag) (id, vp))) ∙ there)
    where
      old : set_in vps id vp sint flag ≡ true → WasSignalled states (more operations e) id vp sint flag
      old is = signalled_still operations e states id vp sint flag (kept id vp) (alive id) (left id vp sint flag) (were id vp sint flag is)

      by_flag : (id, vp) ≡ at → (row : VpRow) → get vps at ≡ Some row → (b : Bool) → eq_by_cmp pair_cmp (sint, flag) (at_sint, set_flag) ≡ b → (b || set.contains row.flags (sint, flag)) ≡ true →
          WasSignalled states (more operations e) id vp sint flag
      by_flag here row row_is true tie is =
          subst (λ k. WasSignalled states (more operations e) k.0 k.1 sint flag) (sym here)
          (subst (λ k. WasSignalled states (more operations e) at.0 at.1 k.0 k.1) (sym (tied (sint, flag) (at_sint, set_flag) tie)) new)
      by_flag here row row_is false tie is = old (ap (test_vp (has_flag sint flag)) (ap (get vps) here ∙ row_is) ∙ is)

      by : (b : Bool) → eq_by_cmp pair_cmp (id, vp) at ≡ b → (row : Option VpRow) → get vps at ≡ row → test_vp (has_flag sint flag)
          (cond b (option_map (row_signalled at_sint set_flag) row) (get vps (id, vp))) ≡ true → WasSignalled states (more operations e) id vp sint flag
      by true at_it None row_is there = cc
      by true at_it (Some row) row_is there =
          by_flag (tied (id, vp) at at_it) row row_is (eq_by_cmp pair_cmp (sint, flag) (at_sint, set_flag)) refl
          (sym (contains-insert pair_cmp_total row.flags (at_sint, set_flag) (sint, flag)) ∙ there)
      by false at_it row row_is there = old there

module _ (states : ℕ → Flat) (operations : List Operation) (f : Flat) (now : states (length operations + 1) ≡ f) (made : AreMade operations f.port) (connected : AreConnected operations f.conn)
    (peers : AreOfPeers f) (were : AreSignalled states operations f.vp) (caller : ℕ) where
  signal_flags : (connection number : ℕ) → on_aim f (caller, connection) is_same_birth ≡ true → on_aim f (caller, connection) (event.has_flag number) ≡ true → on_aim f (caller, connection)
      (event.has_flag_taker f) ≡ true
      → AreSignalled states (more operations (Signals caller connection number)) (signal_to (aim_of f (caller, connection)) number f).vp
  signal_flags connection number born takes taken = by (flag_taker f aim) refl (tested f key (event.has_flag_taker f) r taken)
    where
      key : ℕ × ℕ
      key = (caller, connection)

      e : Operation
      e = Signals caller connection number

      r : Reaches f key
      r = reached f key born

      aim : ResolvedPort
      aim = record { conn = r.conn; port = r.port }

      was : WasMade operations (r.conn.part, r.conn.port) r.port
      was = made (r.conn.part, r.conn.port) r.port r.port_is

      flagged : (is_kind r.port.kind port_type.Event ≡ true) × (nat_lt number r.port.count ≡ true)
      flagged = and_parts (is_kind r.port.kind port_type.Event) (nat_lt number r.port.count) (tested f key (event.has_flag number) r takes)

      signalled : (vp : ℕ) → flag_taker f aim ≡ Some vp → WasSignalled states (more operations e) r.conn.part vp r.port.sint (r.port.base + number)
      signalled vp is = record {
        k = last operations e;
        port_id = r.conn.port;
        port = r.port;
        sender = caller;
        connection = connection;
        number = number;
        way = way_of operations e key r.conn r.port was (connected key r.conn r.conn_is) r.same (peers key r.conn r.port r.conn_is r.port_is r.same);
        kind = kind_is r.port.kind port_type.Event flagged.0;
        aimed = refl;
        within = ltb-true number r.port.count flagged.1;
        is = refl;
        taken = ap (λ g. flag_taker g aim) now ∙ is;
        signalled = did_last operations e (last operations e) refl;
        kept = not_after operations e (last operations e) (DeletesVp r.conn.part vp) refl;
        alive = not_after operations e (last operations e) (Finalizes r.conn.part) refl;
        set = not_after operations e (last operations e) (ClearsFlag r.conn.part vp r.port.sint (r.port.base + number)) refl;
      }

      by : (vp : Option ℕ) → flag_taker f aim ≡ vp → is_some vp ≡ true → AreSignalled states (more operations e) (signal_to (aim_of f key) number f).vp
      by None is some = cc
      by (Some vp) is some =
          subst (λ aim. AreSignalled states (more operations e) (signal_to aim number f).vp) (sym r.aim_is)
          (subst (λ vp. AreSignalled states (more operations e) (signal_at aim vp number f).vp) (sym is)
          (flags_more states operations e f.vp were (r.conn.part, vp) r.port.sint (r.port.base + number) (λ id vp h. cc) (λ id h. cc) (λ id vp sint flag h. cc) (signalled vp is)))

  pub flags_call : (call : Call) → IsAllowed f caller call → AreSignalled states (after_call operations caller call) (left_by f caller call).vp
  flags_call (SignalEvent connection flag) a = signal_flags connection flag a.further.1.0 a.further.1.1.1.0 a.further.1.1.1.1.0
  flags_call (PostMessage connection message_type payload) a =
      flags_still states operations _ f.vp were _ (post_flags (aim_of f (caller, connection)) message_type payload f) (λ id vp h. cc) (λ id h. cc) (λ id vp sint flag h. cc)
  flags_call (SetVpRegisters partition vp name value) a =
      flags_still states operations _ f.vp were _ (register_keeps (resolved_id caller partition) vp name value f).flags (λ id vp h. cc) (λ id h. cc) (λ id vp sint flag h. cc)
  flags_call (FinalizePartition partition) a = flags_but states operations _ f.vp were (resolved_id caller partition) refl
  flags_call (DeleteVp partition vp) a = flags_deleted states operations _ f.vp were (resolved_id caller partition, vp) refl
  flags_call (CreateVp partition vp) a = flags_new states operations _ f.vp were (resolved_id caller partition, vp) vp (λ id vp h. cc) (λ id h. cc) (λ id vp sint flag h. cc)
  flags_call call a = flags_still states operations _ f.vp were f.vp (λ id vp sint flag. refl) (λ id vp h. cc) (λ id h. cc) (λ id vp sint flag h. cc)
