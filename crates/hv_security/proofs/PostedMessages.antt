-- Messages, once a call was served.
use Rattle.std.proofs.Common.{◌≡◌, ℕ, ◌+◌, ◌==◌, ◌&&◌, not, Bool, true, false, length, List, [], ◌∷◌, ◌++◌, Option, Some, None, is_some, refl, sym, ap, subst, ◌∙◌, arith, eq-eqb, eqb-true}
use Rattle.std.proofs.lemmas.Bool.{and_from, not-true}
use Rattle.std.specs.FinMap.{get}
use Rattle.std.specs.Option.{option_map_or}
use Rattle.hv_calls.specs.declared.call.Call.{Call}
use Rattle.hv_calls.specs.declared.call.Call.TheVariants.{FinalizePartition, DeleteVp, SetVpRegisters, PostMessage, SignalEvent}
use Rattle.hv_defs.specs.declared.port_kind.PortKind.TheVariants as port_type
use Rattle.hv_policy.specs.Aim.{ResolvedPort, aim_by, aim_of, aim_with, is_same_birth, message_taker, on_aim}
use Rattle.hv_policy.specs.Effect.{post_at, post_to}
use Rattle.hv_policy.specs.Flat.{ConnRow, Flat, MailRow, PortRow}
use Rattle.hv_policy.specs.Mail.{Place}
use Rattle.hv_policy.specs.Met.{has_message_taker, is_for_messages}
use Rattle.hv_policy.specs.Needs.{resolved_id}
use Rattle.hv_policy.specs.Rules.{IsAllowed}
use Rattle.hv_security.specs.Operation.{Operation, DeletesVp, Finalizes, Posts}
use Rattle.hv_security.specs.Justified.{AreOfPeers, WasMade, WasPosted, WerePosted}
use Rattle.hv_security.proofs.Operations.{did_last, last, more, not_after}
use Rattle.hv_security.proofs.UnchangedRows.{register_keeps, signal_mail}
use Rattle.hv_security.proofs.MadePorts.{AreConnected, AreMade, after_call, kind_is, left_by, other}
use Rattle.hv_security.proofs.RowsOneEntryLater.{mail_left, mail_more, mail_shown, mail_still, way_of}

-- a test of where a connection leads, which fails where it leads nowhere
abbrev pub test_aim : (ResolvedPort → Bool) → Option ResolvedPort → Bool
test_aim test aim = option_map_or test aim false

-- a connection and the port of its birth, both there
pub record Reaches (f : Flat) (key : ℕ × ℕ) : Type 0 where
  pub conn : ConnRow
  pub port : PortRow
  pub conn_is : get f.conn key ≡ Some conn
  pub port_is : get f.port (conn.part, conn.port) ≡ Some port
  pub aim_is : aim_of f key ≡ Some (record { conn = conn; port = port })
  pub same : port.born ≡ conn.born

pub reached : (f : Flat) (key : ℕ × ℕ) → on_aim f key is_same_birth ≡ true → Reaches f key
reached f key born = by_conn (get f.conn key) refl born
  where
    by_port : (conn : ConnRow) → get f.conn key ≡ Some conn → (port : Option PortRow) → get f.port (conn.part, conn.port) ≡ port → test_aim is_same_birth (aim_with conn port) ≡ true → Reaches f key
    by_port conn is None there born = cc
    by_port conn is (Some port) there born = record {
      conn = conn;
      port = port;
      conn_is = is;
      port_is = there;
      aim_is = ap (aim_by f) is ∙ ap (aim_with conn) there;
      same = eqb-true port.born conn.born born;
    }

    by_conn : (conn : Option ConnRow) → get f.conn key ≡ conn → test_aim is_same_birth (aim_by f conn) ≡ true → Reaches f key
    by_conn None is born = cc
    by_conn (Some conn) is born = by_port conn is (get f.port (conn.part, conn.port)) refl born

-- a test of where it leads
pub tested : (f : Flat) (key : ℕ × ℕ) (test : ResolvedPort → Bool) (r : Reaches f key) → on_aim f key test ≡ true → test (record { conn = r.conn; port = r.port }) ≡ true
tested f key test r h = sym (ap (test_aim test) r.aim_is) ∙ h

module _ (states : ℕ → Flat) (operations : List Operation) (f : Flat) (now : states (length operations + 1) ≡ f) (made : AreMade operations f.port) (connected : AreConnected operations f.conn)
    (peers : AreOfPeers f) (were : WerePosted states operations 0 f.mail) (caller : ℕ) where
  post_mail : (connection type : ℕ) (payload : List ℕ) → on_aim f (caller, connection) is_same_birth ≡ true → on_aim f (caller, connection) is_for_messages ≡ true → on_aim f (caller, connection)
      (has_message_taker f) ≡ true
      → WerePosted states (more operations (Posts caller connection type payload)) 0 (post_to (aim_of f (caller, connection)) type payload f).mail
  post_mail connection type payload born takes taken = by (message_taker f aim) refl (tested f key (has_message_taker f) r taken)
    where
      key : ℕ × ℕ
      key = (caller, connection)

      e : Operation
      e = Posts caller connection type payload

      r : Reaches f key
      r = reached f key born

      aim : ResolvedPort
      aim = record { conn = r.conn; port = r.port }

      was : WasMade operations (r.conn.part, r.conn.port) r.port
      was = made (r.conn.part, r.conn.port) r.port r.port_is

      new : ℕ → MailRow
      new vp = record {
        part = r.conn.part;
        vp = vp;
        sint = r.port.sint;
        port = r.conn.port;
        born = r.conn.born;
        type = type;
        payload = payload;
        shown = false;
      }

      posted : (vp : ℕ) → message_taker f aim ≡ Some vp → WasPosted states (more operations e) (new vp) (last operations e)
      posted vp is = record {
        port = r.port;
        sender = caller;
        connection = connection;
        way = way_of operations e key r.conn r.port was (connected key r.conn r.conn_is) r.same (peers key r.conn r.port r.conn_is r.port_is r.same);
        kind = kind_is r.port.kind port_type.Message (tested f key is_for_messages r takes);
        aimed = refl;
        born = r.same;
        taken = ap (λ g. message_taker g aim) now ∙ is;
        posted = did_last operations e (last operations e) refl;
        kept = not_after operations e (last operations e) (DeletesVp r.conn.part vp) refl;
        alive = not_after operations e (last operations e) (Finalizes r.conn.part) refl;
      }

      place : ℕ → Place
      place vp = record { part = r.conn.part; vp = vp; sint = r.port.sint }

      by : (vp : Option ℕ) → message_taker f aim ≡ vp → is_some vp ≡ true → WerePosted states (more operations e) 0 (post_to (aim_of f key) type payload f).mail
      by None is some = cc
      by (Some vp) is some =
          subst (λ aim. WerePosted states (more operations e) 0 (post_to aim type payload f).mail) (sym r.aim_is)
          (subst (λ vp. WerePosted states (more operations e) 0 (post_at aim vp type payload f).mail) (sym is)
          (mail_shown states (more operations e) (place vp) (f.mail ++ new vp ∷ []) 0 (mail_more operations e states (λ row h. cc) (λ row h. cc) (new vp) (posted vp is) f.mail 0 (omega arith) were)))

  pub mail_call : (call : Call) → IsAllowed f caller call → WerePosted states (after_call operations caller call) 0 (left_by f caller call).mail
  mail_call (PostMessage connection message_type payload) a = post_mail connection message_type payload a.further.1.0 a.further.1.1.1.0 a.further.1.1.1.1.0
  mail_call (SignalEvent connection flag) a =
      subst (WerePosted states _ 0) (sym (signal_mail (aim_of f (caller, connection)) flag f)) (mail_still operations _ states (λ row h. cc) (λ row h. cc) f.mail 0 were)
  mail_call (SetVpRegisters partition vp name value) a =
      (register_keeps (resolved_id caller partition) vp name value f).mail states _ 0 (mail_still operations _ states (λ row h. cc) (λ row h. cc) f.mail 0 were)
  mail_call (FinalizePartition partition) a =
      let id : ℕ = resolved_id caller partition in
      mail_left operations _ states (λ row. not (row.part == id)) (λ row is h. cc) (λ row is h. (let same : row.part ≡ id = cc in other row.part id is same)) f.mail 0 0 (omega arith) were
  mail_call (DeleteVp partition vp) a =
      let id : ℕ = resolved_id caller partition in
      mail_left operations _ states (λ row. not (row.part == id && row.vp == vp)) (λ row is h. (
      let first : row.part ≡ id = cc in
      let second : row.vp ≡ vp = cc in
      let yes = and_from _ _ (eq-eqb row.part id first) (eq-eqb row.vp vp second) in
      let never = not-true (row.part == id && row.vp == vp) is in
      cc
      )) (λ row is h. cc) f.mail 0 0 (omega arith) were
  mail_call call a = mail_still operations _ states (λ row h. cc) (λ row h. cc) f.mail 0 were
