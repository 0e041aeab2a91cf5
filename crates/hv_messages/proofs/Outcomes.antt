-- The calls and accesses of this call group, carried over to the flat state.
use Rattle.std.proofs.Common.{◌≡◌, ℕ, ◌+◌, true, false, Bool, is_some, List, [], ◌∷◌, Option, Some, None, refl, sym, ap, subst, ◌∙◌, eqb-true, IfSome, option_map}
use Rattle.std.proofs.lemmas.Bool.{false≢true}
use Rattle.std.specs.FinMap.{contains_key, get}
use Rattle.hv_calls.specs.declared.call.Call.TheVariants.{PostMessage, SignalEvent}
use Rattle.hv_defs.specs.declared.aim.Aim.TheVariants.{One, Any}
use Rattle.hv_defs.specs.declared.port_kind.PortKind.{PortKind}
use Rattle.hv_defs.specs.declared.port_kind.PortKind.TheVariants as port_type
use Rattle.hv_admit.specs.Effect.{Tells}
use Rattle.hv_admit.specs.declared.effect.Effect.{Effect}
use Rattle.hv_mail.specs.Mail.{count_of}
use Rattle.hv_mail.specs.declared.message.Message.{Message}
use Rattle.hv_partition.specs.Partition.{PartitionState, with_vp_of}
use Rattle.hv_policy.specs.Aim.{is_ready_for_flags, is_ready_for_messages, is_same_birth, on_aim, select_vp}
use Rattle.hv_policy.specs.Effect.{call_effect, post, post_at, post_to, row_signalled, signal_at, signal_to, with_vp}
use Rattle.hv_policy.specs.Flat.{Flat, VpRow}
use Rattle.hv_policy.specs.Met.{has_message_room, has_message_taker, is_aimed_at_vp, is_for_messages, is_running}
use Rattle.hv_policy.specs.Rules.{Ask, action_asks, caller_asks, first_unmet, unmet}
use Rattle.hv_policy.specs.declared.event.Action.{Action}
use Rattle.hv_policy.specs.declared.rule.Rule.{Rule}
use Rattle.hv_policy.specs.declared.rule.Rule.TheVariants.{CallerActive, CallerExists, CallerVpExists, Connection, Operand, Port as PortRule, PortRoom, VpExists, VpReady}
use Rattle.hv_policy.proofs.SameMail.{kept_same}
use Rattle.hv_policy.proofs.Unmet.{past_caller}
use Rattle.hv_policy.specs.Mail.{kept_of}
use Rattle.hv_policy.specs.declared.event.Caller.{Caller}
use Rattle.hv_ports.specs.declared.ports.Conn.{Conn}
use Rattle.hv_ports.specs.declared.ports.Port.{Port}
use Rattle.hv_admit.proofs.PortMessages.{kept_by_any, kept_by_one}
use Rattle.hv_admit.proofs.ChangedProcessor.{rows_there, vp_in, vp_there}
use Rattle.hv_admit.proofs.Takers.{lowest_there, taker_there}
use Rattle.hv_admit.proofs.UnchangedProcessor.{vp_kept}
use Rattle.hv_admit.specs.Done.{HasServed}
use Rattle.hv_admit.specs.Served.{TreeInvariant, unmet_further}
use Rattle.hv_admit.specs.Tie.{Refines, here, mail_row, port_row_of, rows_of, sint_mail, vp_row_of}
use Rattle.hv_tree.specs.Rows.{Row, Rows, change, content}
use Rattle.hv_vp.specs.Vps.{is_ready, kept_by_all, lowest}
use Rattle.hv_vp.specs.Vp.{VpState}
use Rattle.hv_messages.specs.Processor.{HasState}
use Rattle.hv_messages.specs.ResolvedPort.{IsAimed, IsReached, aim_row, reach_asks, taker_of}
use Rattle.hv_messages.specs.declared.aims.Aimed.{Aimed}

-- where P3 is met, the processor that was looked up is the one that makes the access
module _ (rows : Rows PartitionState) (f : Flat) (flat : Refines rows f) (by : Caller) (v : VpState) where
  p3_met : (p1 p2 p3 : Bool) → first_unmet ((CallerExists, p1) ∷ (CallerActive, p2) ∷ (CallerVpExists, p3) ∷ []) ≡ None → p3 ≡ true
  p3_met true true true met = refl
  p3_met true true false met = cc
  p3_met true false p3 met = cc
  p3_met false p2 p3 met = cc

  pub caller_there : IfSome (content rows by.part) (λ p. get p.vps.vps by.vp ≡ Some v) → first_unmet (caller_asks f by) ≡ None → vp_in by.vp (get rows by.part) ≡ Some v
  caller_there there met = found (get rows by.part) refl there
    where
      found : (o : Option (Row PartitionState)) → get rows by.part ≡ o → IfSome (option_map (λ r. r.1) o) (λ p. get p.vps.vps by.vp ≡ Some v) → vp_in by.vp o ≡ Some v
      found None gone there =
          let none : is_some (get f.vp (by.part, by.vp)) ≡ false = ap is_some (vp_there rows f flat by.part by.vp ∙ ap (λ o. option_map vp_row_of (vp_in by.vp o)) gone) in
          absurd (false≢true (sym none ∙ p3_met (contains_key f.part by.part) (is_running f by.part) (contains_key f.vp (by.part, by.vp)) met))
      found (Some r) is there = there

-- a processor of the tree has its state in the flat state
pub has_state : (rows : Rows PartitionState) (f : Flat) → Refines rows f → (id index : ℕ) (v : VpState) → vp_in index (get rows id) ≡ Some v → HasState f id index v
has_state rows f flat id index v there = record {
  row = vp_there rows f flat id index ∙ ap (option_map vp_row_of) there;
  mail = λ sint. rows_there rows f flat id index sint ∙ ap (λ o. rows_of (here id index sint) (sint_mail sint o)) there;
}

-- the processor that was looked up in its partition is the row's
pub looked_up : (rows : Rows PartitionState) (id index : ℕ) (p : PartitionState) (o : Option VpState) → Some p ≡ content rows id → o ≡ get p.vps.vps index → vp_in index (get rows id) ≡ o
looked_up rows id index p o = by (get rows id)
  where
    by : (r : Option (Row PartitionState)) → Some p ≡ option_map (λ (r : Row PartitionState). r.1) r → o ≡ get p.vps.vps index → vp_in index r ≡ o
    by None there is = cc
    by (Some r) there is = (let same : p ≡ r.1 = cc in ap {A = PartitionState} (λ p. get p.vps.vps index) (sym same) ∙ sym is)

-- rows that are these refine what these do
pub carried : (new rows : Rows PartitionState) (g : Flat) → new ≡ rows → Refines rows g → Refines new g
carried new rows g is flat = subst (λ rows. Refines rows g) (sym is) flat

-- an access whose operand is none changes nothing, the processor that it looked up included
pub refused : {A : Type 0} (rows : Rows PartitionState) (f : Flat) (by : Caller) (what : Action A) (v : VpState) → first_unmet (caller_asks f by) ≡ None
    → first_unmet (action_asks f by.part what) ≡ Some Operand → IfSome (content rows by.part) (λ p. get p.vps.vps by.vp ≡ Some v)
    → (unmet f (record { by = by; what = what }) ≡ Some Operand) × (change rows by.part (λ p. with_vp_of p by.vp v) ≡ rows)
refused rows f by what v met broken there = (past_caller f (record { by = by; what = what }) met ∙ broken, vp_kept rows by.part by.vp v there)

-- what is delivered through a connection
module _ (f : Flat) (caller connection : ℕ) (aimed : Aimed) (effect : Effect) (new : Rows PartitionState) where
  pub post_served : (type : ℕ) (payload : List ℕ) (sint : ℕ) (message : Message) → IsAimed f (caller, connection) port_type.Message aimed → sint ≡ aimed.to.port.sint
      → message.port ≡ aimed.to.conn.port → message.born ≡ aimed.to.conn.born → message.kind ≡ type → message.payload.items ≡ payload
      → Refines new (post (mail_row (here aimed.to.conn.part aimed.vp sint) false message) f) → Tells effect f (post (mail_row (here aimed.to.conn.part aimed.vp sint) false message) f)
      → HasServed f caller (PostMessage connection type payload) [] effect new
  post_served type payload sint message aims at from born kind bytes rows told = record { output = refl; rows = subst (Refines new) is rows; told = subst (Tells effect f) is told }
    where
      is : post (mail_row (here aimed.to.conn.part aimed.vp sint) false message) f ≡ call_effect (PostMessage connection type payload) f caller caller
      is =
          (λ i. post (record { part = aimed.to.conn.part; vp = aimed.vp; sint = at i; port = from i; born = born i; type = kind i; payload = bytes i; shown = false }) f)
          ∙ sym (ap (λ aim. post_to aim type payload f) aims.reached.aim ∙ ap (λ vp. post_at (aim_row aimed.to.conn aimed.to.port) vp type payload f) aims.taker)

  pub signal_served : (flag sint place : ℕ) → IsAimed f (caller, connection) port_type.Event aimed → sint ≡ aimed.to.port.sint → place ≡ aimed.to.port.base + flag
      → Refines new (record f { vp = with_vp f.vp (aimed.to.conn.part, aimed.vp) (row_signalled sint place) })
      → Tells effect f (record f { vp = with_vp f.vp (aimed.to.conn.part, aimed.vp) (row_signalled sint place) }) → HasServed f caller (SignalEvent connection flag) [] effect new
  signal_served flag sint place aims at sum rows told = record { output = refl; rows = subst (Refines new) is rows; told = subst (Tells effect f) is told }
    where
      is : record f { vp = with_vp f.vp (aimed.to.conn.part, aimed.vp) (row_signalled sint place) } ≡ call_effect (SignalEvent connection flag) f caller caller
      is =
          (λ i. record f { vp = with_vp f.vp (aimed.to.conn.part, aimed.vp) (row_signalled (at i) (sum i)) })
          ∙ sym (ap (λ aim. signal_to aim flag f) aims.reached.aim ∙ ap (λ vp. signal_at (aim_row aimed.to.conn aimed.to.port) vp flag f) aims.taker)

-- where it goes, there is a processor
pub aimed_there : (rows : Rows PartitionState) (f : Flat) → Refines rows f → (key : ℕ × ℕ) (kind : PortKind) (aimed : Aimed) → IsAimed f key kind aimed
    → (p : PartitionState) → Some p ≡ content rows aimed.to.conn.part → None ≡ get p.vps.vps aimed.vp → ⊥
aimed_there rows f flat key kind aimed aims p found none =
    let (v, there) = by kind aims.taker in
    let clash : None ≡ Some v = sym (looked_up rows aimed.to.conn.part aimed.vp p None found none) ∙ there in
    cc
  where
    by : (kind : PortKind) → taker_of kind f (aim_row aimed.to.conn aimed.to.port) ≡ Some aimed.vp → (v : VpState) × (vp_in aimed.vp (get rows aimed.to.conn.part) ≡ Some v)
    by port_type.Message taken = taker_there rows f flat aimed.to.conn.part is_ready_for_messages aimed.to.port.vp aimed.vp taken
    by port_type.Event taken = taker_there rows f flat aimed.to.conn.part is_ready_for_flags aimed.to.port.vp aimed.vp taken

-- the processor that takes what comes to a port, as the tree has it
module _ (rows : Rows PartitionState) (f : Flat) (flat : Refines rows f) (conn : Conn) (port : Port) (p : PartitionState) (is : content rows conn.part ≡ Some p) where
  -- for any the lowest that is ready
  pub taker_any : (kind : PortKind) → port.vp ≡ Any → lowest (is_ready kind) p.vps.vps ≡ taker_of kind f (aim_row conn port)
  taker_any kind any = by (get rows conn.part) refl is
    where
      by : (o : Option (Row PartitionState)) → get rows conn.part ≡ o → option_map (λ r. r.1) o ≡ Some p → lowest (is_ready kind) p.vps.vps ≡ taker_of kind f (aim_row conn port)
      by None there is = cc
      by (Some r) there is = by_kind kind
        where
          vps : p.vps.vps ≡ r.1.vps.vps
          vps = let same : p ≡ r.1 = cc in ap (λ (p : PartitionState). p.vps.vps) same

          by_aim : (test : VpRow → Bool) → lowest (λ v. test (vp_row_of v)) p.vps.vps ≡ select_vp test f conn.part port.vp
          by_aim test = ap (lowest (λ v. test (vp_row_of v))) vps ∙ sym (ap (select_vp test f conn.part) any ∙ lowest_there rows f flat conn.part test r there)

          by_kind : (kind : PortKind) → lowest (is_ready kind) p.vps.vps ≡ taker_of kind f (aim_row conn port)
          by_kind port_type.Message = by_aim is_ready_for_messages
          by_kind port_type.Event = by_aim is_ready_for_flags

-- where a connection leads, the law says where its port's messages are
module _ (rows : Rows PartitionState) (a : TreeInvariant rows) (key : ℕ × ℕ) (conn : Conn) (port : Port) (reached : (f : Flat) → Refines rows f → IsReached f key conn port) where
  -- the messages that came through it are those of its processor's mailbox, or of all its partition's
  module _ (f : Flat) (flat : Refines rows f) (p : PartitionState) (is : content rows conn.part ≡ Some p) where
    kept_is : (n : ℕ → ℕ) → ((r : Row PartitionState) → get rows conn.part ≡ Some r → r.1 ≡ p → kept_of conn.part conn.port port.born a.flat.mail ≡ n port.born) → kept_of conn.part conn.port conn.born
        f.mail ≡ n conn.born
    kept_is n counted = by (get rows conn.part) refl is
      where
        by : (o : Option (Row PartitionState)) → get rows conn.part ≡ o → option_map (λ r. r.1) o ≡ Some p → kept_of conn.part conn.port conn.born f.mail ≡ n conn.born
        by None there is = cc
        by (Some r) there is =
            let same : r.1 ≡ p = cc in
            let born : port.born ≡ conn.born = eqb-true port.born conn.born (reached a.flat a.tied).born in
            kept_same conn.part conn.port conn.born f.mail a.flat.mail (λ place. (flat.rows place.part).mail place.vp place.sint ∙ sym ((a.tied.rows place.part).mail place.vp place.sint))
            ∙ ap (λ b. kept_of conn.part conn.port b a.flat.mail) (sym born) ∙ counted r there same ∙ ap n born

    pub kept_at_one : (vp : ℕ) (v : VpState) → port.vp ≡ One vp → get p.vps.vps vp ≡ Some v → kept_of conn.part conn.port conn.born f.mail ≡ count_of conn.port conn.born v.mail
    kept_at_one vp v aim found =
        kept_is (λ b. count_of conn.port b v.mail)
        (λ r there same. kept_by_one rows a.flat a.tied a.pages a.lawful conn.part conn.port (port_row_of port) (reached a.flat a.tied).row r there vp v
        (ap {A = PartitionState} (λ p. get p.vps.vps vp) same ∙ found) aim)

    pub kept_at_any : kept_of conn.part conn.port conn.born f.mail ≡ kept_by_all conn.port conn.born p.vps.vps
    kept_at_any =
        kept_is (λ b. kept_by_all conn.port b p.vps.vps)
        (λ r there same. kept_by_any rows a.flat a.tied a.pages a.lawful conn.part conn.port (port_row_of port) (reached a.flat a.tied).row r there ∙ ap {A = PartitionState}
        (λ p. kept_by_all conn.port port.born p.vps.vps) same)

-- where P16, P17 or P19 fails, it is the first rule of a post that does
three : (x y z : Rule) (a b c : Bool) (rest : List Ask) (rule : Rule) → first_unmet ((x, a) ∷ (y, b) ∷ (z, c) ∷ []) ≡ Some rule → first_unmet ((x, a) ∷ (y, b) ∷ (z, c) ∷ rest) ≡ Some rule
three x y z false b c rest rule h = h
three x y z true false c rest rule h = h
three x y z true true false rest rule h = h
three x y z true true true rest rule h = cc

pub post_unreached : (f : Flat) (by connection type : ℕ) (payload : List ℕ) (rule : Rule) → first_unmet (reach_asks f (by, connection)) ≡ Some rule
    → unmet_further f by (PostMessage connection type payload) ≡ Some rule
post_unreached f by connection type payload rule broken =
    three Connection PortRule VpExists (contains_key f.conn (by, connection)) (on_aim f (by, connection) is_same_birth) (on_aim f (by, connection) (is_aimed_at_vp f))
    ((Operand, on_aim f (by, connection) is_for_messages) ∷ (VpReady, on_aim f (by, connection) (has_message_taker f)) ∷ (PortRoom, on_aim f (by, connection) (has_message_room f)) ∷ []) rule broken
