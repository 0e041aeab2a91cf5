-- Resolving a connection: the rules that apply, and the facts that hold for the port that it reaches.
use Rattle.std.specs.Prelude.{◌≡◌, ℕ, true, Option, Some, List, [], ◌∷◌}
use Rattle.std.specs.FinMap.{contains_key, get}
use Rattle.hv_defs.specs.declared.port_kind.PortKind.{PortKind}
use Rattle.hv_defs.specs.declared.port_kind.PortKind.TheVariants as port_type
use Rattle.hv_policy.specs.Aim.{ResolvedPort, aim_of, flag_taker, has_target, is_same_birth, message_taker}
use Rattle.hv_policy.specs.Aim.{on_aim}
use Rattle.hv_policy.specs.Flat.{Flat}
use Rattle.hv_policy.specs.Met.{is_aimed_at_vp}
use Rattle.hv_policy.specs.Rules.{Ask}
use Rattle.hv_policy.specs.declared.rule.Rule.TheVariants as rule
use Rattle.hv_calls.specs.declared.call.Call.{Call}
use Rattle.hv_messages.specs.declared.aims.Aimed.{Aimed}
use Rattle.hv_partition.specs.Partition.{PartitionState}
use Rattle.hv_admit.specs.Asked.{IsGranted}
use Rattle.hv_admit.specs.Tie.{Refines, conn_row_of, port_row_of}
use Rattle.hv_tree.specs.Rows.{Rows}
use Rattle.hv_ports.specs.declared.ports.Conn.{Conn}
use Rattle.hv_ports.specs.declared.ports.Port.{Port}

-- the flat rows of a connection and its port
abbrev pub aim_row : Conn → Port → ResolvedPort
aim_row conn port = record { conn = conn_row_of conn; port = port_row_of port }

-- P16, P17 and P19 for a post or a signal through the connection with this key
abbrev pub reach_asks : Flat → ℕ × ℕ → List Ask
reach_asks f key =
    (rule.Connection, contains_key f.conn key) ∷ (rule.Port, on_aim f key is_same_birth) ∷
    (rule.VpExists, on_aim f key (is_aimed_at_vp f)) ∷ []

-- P16, P17 and P19 hold for the connection with this key, and it resolves to this port
pub record IsReached (f : Flat) (key : ℕ × ℕ) (conn : Conn) (port : Port) : Type 0 where
  pub there : contains_key f.conn key ≡ true
  pub row : get f.port (conn.part, conn.port) ≡ Some (port_row_of port)
  pub aim : aim_of f key ≡ Some (aim_row conn port)
  pub born : is_same_birth (aim_row conn port) ≡ true
  pub target : has_target f conn.part port.vp ≡ true

-- the processor to which a port of this kind delivers through the resolved connection, if there is one
abbrev pub taker_of : PortKind → Flat → ResolvedPort → Option ℕ
taker_of port_type.Message f aim = message_taker f aim
taker_of port_type.Event f aim = flag_taker f aim

-- what goes through the connection with this key to a port of this kind goes to this processor
pub record IsAimed (f : Flat) (key : ℕ × ℕ) (kind : PortKind) (aimed : Aimed) : Type 0 where
  pub reached : IsReached f key aimed.to.conn aimed.to.port
  pub taker : taker_of kind f (aim_row aimed.to.conn aimed.to.port) ≡ Some aimed.vp

-- precondition of a delivery: the rules of this call hold, and the call delivers to this processor
pub record MayDeliver (rows : Rows PartitionState) (caller connection : ℕ) (kind : PortKind) (call : Call)
    (aimed : Aimed) : Type 0 where
  pub granted : IsGranted rows caller call
  pub aims : (f : Flat) → Refines rows f → IsAimed f (caller, connection) kind aimed
