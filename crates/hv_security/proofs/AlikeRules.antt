-- The rules of a member's call are met alike.
use Rattle.std.proofs.Common.{◌≡◌, ℕ, ◌==◌, Bool, true, false, cond, List, [], ◌∷◌, map, Option, Some, None, is_some, refl, sym, ap, ◌∙◌, option_map}
use Rattle.std.specs.FinMap.{contains_key, get}
use Rattle.std.specs.Option.{option_map_or}
use Rattle.hv_calls.specs.declared.call.Call.{Call}
use Rattle.hv_calls.specs.declared.call.Call.TheVariants.{CreatePartition, PostMessage, SignalEvent, CreatePort, ConnectPort}
use Rattle.hv_defs.specs.declared.port_kind.PortKind.{PortKind}
use Rattle.hv_policy.specs.Aim.{is_same_birth}
use Rattle.hv_policy.specs.Flat.{ConnRow, Flat, PortRow}
use Rattle.hv_policy.specs.Met.{has_flag, has_flag_taker, has_message_room, has_message_taker, is_aimed_at_vp, is_for_messages, is_kind, on_port}
use Rattle.hv_policy.specs.Needs.{charge_of, resolved_id, needs_of, target_of}
use Rattle.hv_policy.specs.Rules.{first_unmet, further_asks}
use Rattle.hv_policy.specs.declared.rule.Rule.{Rule}
use Rattle.hv_policy.specs.declared.rule.Rule.TheVariants.{Connection, Port, VpExists, Operand, VpReady, PortRoom}
use Rattle.hv_security.proofs.SameReads.{NamedAlike, ReadsAlike, asked_alike, met_alike}
use Rattle.hv_security.proofs.PartitionReads.{reads_alike}
use Rattle.hv_security.specs.Alike.{AreLowEquivalent, AreClosed, is_born, mark, marked_conn, unborn}
use Rattle.hv_security.specs.Looks.{AnswerAlike, IfOutside, IsThereAlike, LooksAlike, PortsAlike, at_end}
use Rattle.hv_security.proofs.ConnectionEnds.{EndIsAlike, ends_alike, for_post, for_signal}
use Rattle.hv_security.proofs.BirthMarks.{unmarked}
use Rattle.hv_security.proofs.AlikeReads.{child_alike, there_alike}
use Rattle.hv_security.proofs.Sends.{leads_alike, seen_alike}

module _ (members : ℕ → Bool) (f g : Flat) (a : AreLowEquivalent members f g) (closed : AreClosed members f) (closed_too : AreClosed members g) where
  -- whoever is named is there alike
  pub part_alike : (id : ℕ) → IsThereAlike members id f g → contains_key f.part id ≡ contains_key g.part id
  part_alike id n = by (members id) refl
    where
      by : (b : Bool) → members id ≡ b → contains_key f.part id ≡ contains_key g.part id
      by true own = ap is_some (a id own).part
      by false off = n off

  -- a test of a port that doesn't look at its birth
  on_port_alike : (key : ℕ × ℕ) → option_map unborn (get f.port key) ≡ option_map unborn (get g.port key) → (test : PortRow → Bool) → ((row : PortRow) → test (unborn row) ≡ test row) → on_port f key
      test ≡ on_port g key test
  on_port_alike key same test blind = sym (at (get f.port key)) ∙ ap (λ r. option_map_or test r false) same ∙ at (get g.port key)
    where
      at : (r : Option PortRow) → option_map_or test (option_map unborn r) false ≡ option_map_or test r false
      at None = refl
      at (Some row) = blind row

  -- and a port that is
  ports_alike : (key : ℕ × ℕ) (target : ℕ) (port_kind : PortKind) → (members key.0 ≡ false → PortsAlike key target port_kind f g) → PortsAlike key target port_kind f g
  ports_alike key target port_kind n = by (members key.0) refl
    where
      within : option_map unborn (get f.port key) ≡ option_map unborn (get g.port key) → PortsAlike key target port_kind f g
      within same = (
        there_alike unborn unborn (get f.port key) (get g.port key) same,
        λ there. (
          on_port_alike key same (λ row. row.peer == target) (λ row. refl),
          λ peer. (on_port_alike key same (λ row. is_kind row.kind port_kind) (λ row. refl), λ kind. tt),
        ),
      )

      by : (b : Bool) → members key.0 ≡ b → PortsAlike key target port_kind f g
      by true own = within ((a key.0 own).ports key.1)
      by false off = n off

  module _ (caller : ℕ) (own_caller : members caller ≡ true) where
    -- the end of the caller's connection
    module _ (connection : ℕ) where
      abbrev key : ℕ × ℕ
      key = (caller, connection)

      conn_there : contains_key f.conn key ≡ contains_key g.conn key
      conn_there = there_alike (marked_conn members f) (marked_conn members g) (get f.conn key) (get g.conn key) ((a caller own_caller).conns connection)

      chosen : (b : Bool) (x y : ℕ) → b ≡ true → cond b x 0 ≡ cond b y 0 → x ≡ y
      chosen true x y is e = e
      chosen false x y is e = cc

      births : (conn other : ConnRow) → get f.conn key ≡ Some conn → get g.conn key ≡ Some other → (part : other.part ≡ conn.part) → (port : other.port ≡ conn.port) → members conn.part ≡ true
          → is_born f (conn.part, conn.port) conn.born ≡ is_born g (conn.part, conn.port) other.born
      births conn other is is_too part port own =
          let rows = seen_alike (marked_conn members f) (marked_conn members g) (get f.conn key) (get g.conn key) conn other ((a caller own_caller).conns connection) is is_too in
          let marks = ap (λ (row : ConnRow). row.born) rows ∙ (λ i. cond (members (part i)) (mark (is_born g (part i, port i) other.born)) 0) in
          let same = chosen (members conn.part) _ _ own marks in
          sym (unmarked (is_born f (conn.part, conn.port) conn.born)) ∙ ap (λ n. n == 1) same ∙ unmarked (is_born g (conn.part, conn.port) other.born)

      end_alike : (P : Type 0) → (EndIsAlike key f g → P) → IfOutside members (get f.conn key) P → (conn : ConnRow) → get f.conn key ≡ Some conn → P
      end_alike P from n conn is = by (get g.conn key) refl
        where
          within : (other : ConnRow) → get g.conn key ≡ Some other → members conn.part ≡ true → P
          within other is_too own =
              let l = leads_alike members f g (get f.conn key) (get g.conn key) conn other ((a caller own_caller).conns connection) is is_too in
              from (ends_alike members f g a key conn other (sym l.0) (sym l.1) is is_too own (births conn other is is_too (sym l.0) (sym l.1) own))

          at : (other : ConnRow) → get g.conn key ≡ Some other → (b : Bool) → members conn.part ≡ b → P
          at other is_too true own = within other is_too own
          at other is_too false off = n conn is off

          by : (d : Option ConnRow) → get g.conn key ≡ d → P
          by None none = let clash = sym (ap is_some is) ∙ conn_there ∙ ap is_some none in cc
          by (Some other) is_too = at other is_too (members conn.part) refl

      -- a post and a signal: where no connection is there the rest doesn't count
      end_asked : (rules : List (Rule × (Bool × Bool))) → (EndIsAlike key f g → AnswerAlike (map (λ r. r.1) rules)) → IfOutside members (get f.conn key) (AnswerAlike (map (λ r. r.1) rules))
          → first_unmet ((Connection, contains_key f.conn key) ∷ map (λ r. (r.0, r.1.0)) rules) ≡ first_unmet ((Connection, contains_key g.conn key) ∷ map (λ r. (r.0, r.1.1)) rules)
      end_asked rules from n = met_alike ((Connection, (contains_key f.conn key, contains_key g.conn key)) ∷ rules) (conn_there, λ there. by (get f.conn key) refl there)
        where
          by : (c : Option ConnRow) → get f.conn key ≡ c → is_some (get f.conn key) ≡ true → AnswerAlike (map (λ r. r.1) rules)
          by None none there = let clash = sym (ap is_some none) ∙ there in cc
          by (Some conn) is there = end_alike (AnswerAlike (map (λ r. r.1) rules)) from n conn is

    named : (call : Call) → LooksAlike members call caller f g → NamedAlike caller (target_of call caller) (needs_of call).states (charge_of call) f g call
    named (CreatePartition flags) n = n.0
    named (PostMessage connection message_type payload) n =
        let key : ℕ × ℕ = (caller, connection) in
        end_asked connection
        ((Port, at_end key (λ h. is_same_birth) f g) ∷ (VpExists, at_end key is_aimed_at_vp f g) ∷ (Operand, at_end key (λ h. is_for_messages) f g)
        ∷ (VpReady, at_end key has_message_taker f g) ∷ (PortRoom, at_end key has_message_room f g) ∷ [])
        (for_post key f g) n
    named (SignalEvent connection flag) n =
        let key : ℕ × ℕ = (caller, connection) in
        end_asked connection
        ((Port, at_end key (λ h. is_same_birth) f g) ∷ (VpExists, at_end key is_aimed_at_vp f g) ∷ (Operand, at_end key (λ h. has_flag flag) f g)
        ∷ (VpReady, at_end key has_flag_taker f g) ∷ [])
        (for_signal flag key f g) n
    named (CreatePort partition port peer port_kind sint vp base count) n = part_alike (resolved_id caller peer) n.1
    named (ConnectPort partition connection port_partition port port_kind) n = (
      part_alike (resolved_id caller port_partition) n.1,
      ports_alike (resolved_id caller port_partition, port) (resolved_id caller partition) port_kind n.2,
    )
    named call n = tt

    -- what a member's call reads of a member
    pub reads : (target : ℕ) → members target ≡ true → ReadsAlike caller target f g
    reads target own =
        reads_alike f g caller target (a caller own_caller).part (a caller own_caller).pages (a target own).part (a target own).pages (a target own).vps
        (λ port. there_alike unborn unborn (get f.port (target, port)) (get g.port (target, port)) ((a target own).ports port))
        (λ connection. there_alike (marked_conn members f) (marked_conn members g) (get f.conn (target, connection)) (get g.conn (target, connection)) ((a target own).conns connection))
        (λ id. child_alike members f g a closed closed_too target id own)

    -- P11 to P24 of a member's call about a member
    pub further_alike : (call : Call) → members (target_of call caller) ≡ true → LooksAlike members call caller f g → first_unmet (further_asks f caller call) ≡ first_unmet
        (further_asks g caller call)
    further_alike call own n =
        asked_alike caller (target_of call caller) f g (reads (target_of call caller) own) (needs_of call).states (charge_of call) call (named call n)
