-- Messages that are posted and shown, and flags that are signalled.
use Rattle.std.proofs.Common.{◌≡◌, ℕ, zero, suc, ◌+◌, ◌==◌, ◌&&◌, not, Bool, true, false, cond, List, [], ◌∷◌, ◌++◌, Option, Some, None, refl, ap, ◌∙◌, arith, eq-eqb, eqb-true, le-leb}
use Rattle.std.proofs.lemmas.Bool.{and_from, or_right}
use Rattle.std.specs.FinMap.{get}
use Rattle.std.specs.Option.{option_map_or}
use Rattle.hv_defs.specs.declared.aim.Aim.{Aim}
use Rattle.hv_defs.specs.declared.aim.Aim.TheVariants.{One, Any}
use Rattle.hv_defs.specs.declared.registers.TheConstants.{EOM}
use Rattle.hv_defs.specs.declared.sizes.TheConstants.{SINTS}
use Rattle.hv_policy.specs.Aim.{ResolvedPort, aim_by, aim_of, aim_with, aims_at, flag_taker, is_same_birth, is_ready_for_messages, message_taker, on_aim, on_vp, select_vp}
use Rattle.hv_policy.specs.Effect.{end_if, post, post_at, post_to, row_raised, row_signalled, show, show_each, signal_at, signal_to, write_msr, write_register, written}
use Rattle.hv_policy.specs.Flat.{ConnRow, Flat, MailRow, PortRow, VpRow}
use Rattle.hv_policy.specs.Mail.{Place, cleared, has_next, place_of, shown_next, stands_at}
use Rattle.hv_invariants.proofs.PortMessages.{is_placed_by, mail_last, mail_left, mail_shown, mailed_of}
use Rattle.hv_invariants.proofs.ProcessorsAndPorts.{mail_changed, mailed_changed, vp_changed}
use Rattle.hv_invariants.specs.StateInvariant.{StateInvariant, is_aimed}

-- the processor that takes what comes to a port is one at which the port aims
taker_aimed : (is_ready : VpRow → Bool) (f : Flat) (id : ℕ) (aim : Aim) (vp : ℕ) → select_vp is_ready f id aim ≡ Some vp → aims_at aim vp ≡ true
taker_aimed is_ready f id (One index) vp is = by (on_vp f (id, index) is_ready) is
  where
    by : (b : Bool) → cond b (Some index) None ≡ Some vp → vp == index ≡ true
    by true is = (let same : vp ≡ index = cc in eq-eqb vp index same)
    by false is = cc
taker_aimed is_ready f id Any vp is = refl

-- the message that comes through a connection to a port, at the processor that takes it
abbrev row_through : ConnRow → PortRow → ℕ → ℕ → List ℕ → MailRow
row_through conn port vp type payload = record {
  part = conn.part;
  vp = vp;
  sint = port.sint;
  port = conn.port;
  born = conn.born;
  type = type;
  payload = payload;
  shown = false;
}

module _ (pages : ℕ) where
  -- Show at a place, and at each SINT of a processor
  pub shown_lawful : (place : Place) (f : Flat) → StateInvariant pages f → StateInvariant pages (show place f)
  shown_lawful place f l =
      mailed_changed pages f l (place.part, place.vp) (row_raised (has_next place f.mail) place.sint) (shown_next place f.mail)
      (mail_shown f.served f.port place f.mail (mailed_of pages f l))

  each_shown : (part vp n : ℕ) (f : Flat) → StateInvariant pages f → StateInvariant pages (show_each part vp n f)
  unfolding show_each
  each_shown part vp zero f l = l
  each_shown part vp (suc sint) f l = shown_lawful (record { part = part; vp = vp; sint = sint }) (show_each part vp sint f) (each_shown part vp sint f l)

  -- a message ends, by a write of EOM
  ended_lawful : (is : Bool) (part vp : ℕ) (f : Flat) → StateInvariant pages f → StateInvariant pages (end_if is part vp f)
  ended_lawful false part vp f l = l
  ended_lawful true part vp f l = by (on_vp f (part, vp) is_ready_for_messages)
    where
      by : (b : Bool) → StateInvariant pages (cond b (show_each part vp SINTS f) f)
      by true = each_shown part vp SINTS f l
      by false = l

  pub register_lawful : (part vp name value : ℕ) (f : Flat) → StateInvariant pages f → StateInvariant pages (write_register part vp name value f)
  register_lawful part vp name value f l = ended_lawful (name == EOM) part vp _ (vp_changed pages f l (part, vp) (written name value))

  pub msr_lawful : (part vp : ℕ) (name : Option ℕ) (value : ℕ) (f : Flat) → StateInvariant pages f → StateInvariant pages (write_msr part vp name value f)
  msr_lawful part vp None value f l = l
  msr_lawful part vp (Some name) value f l = register_lawful part vp name value f l

  -- the shown message of a place goes
  pub cleared_lawful : (place : Place) (f : Flat) → StateInvariant pages f → StateInvariant pages (record f { mail = cleared place f.mail })
  cleared_lawful place f l =
      mail_changed pages f l (cleared place f.mail) (mail_left f.served f.port (λ row. not (stands_at place row && row.shown)) f.mail (mailed_of pages f l))

  posted_lawful : (row : MailRow) (f : Flat) → is_placed_by f.served f.port row ≡ true → StateInvariant pages f → StateInvariant pages (post row f)
  posted_lawful row f is l =
      shown_lawful (place_of row) (record f { mail = f.mail ++ row ∷ [] })
      (mail_changed pages f l (f.mail ++ row ∷ []) (mail_last f.served f.port row f.mail is (mailed_of pages f l)))

  -- a message through a connection whose port has the birth that the connection keeps
  pub post_lawful : (key : ℕ × ℕ) (type : ℕ) (payload : List ℕ) (f : Flat) → on_aim f key is_same_birth ≡ true → StateInvariant pages f → StateInvariant pages (post_to (aim_of f key) type payload f)
  post_lawful key type payload f born l = by_conn (get f.conn key) born
    where
      by_port : (conn : ConnRow) (port : Option PortRow) → get f.port (conn.part, conn.port) ≡ port → option_map_or is_same_birth (aim_with conn port) false ≡ true → StateInvariant pages
          (post_to (aim_with conn port) type payload f)
      by_port conn None is born = l
      by_port conn (Some port) is born = by_vp (message_taker f aim) refl
        where
          aim : ResolvedPort
          aim = record { conn = conn; port = port }

          placed : (vp : ℕ) → message_taker f aim ≡ Some vp → is_placed_by f.served f.port (row_through conn port vp type payload) ≡ true
          placed vp takes =
              let past = (l.ports (conn.part, conn.port) port is).born in
              let same = eqb-true port.born conn.born born in
              and_from _ _ (le-leb conn.born f.served (omega arith))
              (ap (is_aimed (row_through conn port vp type payload)) is ∙ or_right _ _ (and_from _ _ (taker_aimed is_ready_for_messages f conn.part port.vp vp takes)
              (eq-eqb port.sint port.sint refl)))

          by_vp : (o : Option ℕ) → message_taker f aim ≡ o → StateInvariant pages (post_at aim o type payload f)
          by_vp None takes = l
          by_vp (Some vp) takes = posted_lawful (row_through conn port vp type payload) f (placed vp takes) l

      by_conn : (conn : Option ConnRow) → option_map_or is_same_birth (aim_by f conn) false ≡ true → StateInvariant pages (post_to (aim_by f conn) type payload f)
      by_conn None born = l
      by_conn (Some conn) born = by_port conn (get f.port (conn.part, conn.port)) refl born

  -- a flag through a connection
  pub signal_lawful : (aim : Option ResolvedPort) (flag : ℕ) (f : Flat) → StateInvariant pages f → StateInvariant pages (signal_to aim flag f)
  signal_lawful None flag f l = l
  signal_lawful (Some aim) flag f l = by (flag_taker f aim)
    where
      by : (o : Option ℕ) → StateInvariant pages (signal_at aim o flag f)
      by None = l
      by (Some vp) = vp_changed pages f l (aim.conn.part, vp) (row_signalled aim.port.sint (aim.port.base + flag))
