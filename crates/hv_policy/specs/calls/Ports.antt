-- Ports and connections.
use Rattle.std.specs.Prelude.{ℕ, ◌+◌, ◌==◌, not, true, false, [], ◌∷◌, Some}
use Rattle.std.specs.FinMap.{contains_key, get, insert, remove}
use Rattle.hv_abi.specs.declared.call_kind.TheConstants.{DELETE_PORT, DISCONNECT_PORT, CREATE_PORT}
use Rattle.hv_abi.specs.declared.call_kind.TheConstants.{CONNECT_PORT}
use Rattle.hv_defs.specs.declared.aim.Aim.{Aim}
use Rattle.hv_defs.specs.declared.port_kind.PortKind.{PortKind}
use Rattle.hv_defs.specs.declared.sizes.TheConstants.{CONNECTION_CHARGE, PORT_CHARGE}
use Rattle.hv_policy.specs.Aim.{has_target}
use Rattle.hv_policy.specs.Change.{born_of, flags_of}
use Rattle.hv_policy.specs.Met.{has_available, is_in, is_kind, on_port}
use Rattle.hv_policy.specs.Policy.{CallPolicy, needs}
use Rattle.hv_policy.specs.Target.{resolved_id}
use Rattle.hv_policy.specs.declared.need.Kin.TheVariants as kin
use Rattle.hv_policy.specs.declared.need.States.TheVariants as states
use Rattle.hv_policy.specs.declared.rule.Rule.TheVariants.{Connection, PeerExists, Pages, Port, Entitlement}
use Rattle.hv_policy.specs.declared.rule.Rule.TheVariants.{Operand, TargetState, VpExists}
use Rattle.hv_privs.specs.declared.TheConstants.Privileges as privilege

-- HvDeletePort: removes a port of the target. Connections to it and messages through it stay.
abbrev pub delete_port : ℕ → ℕ → CallPolicy
delete_port partition port = record {
  row = DELETE_PORT;
  need = needs privilege.CREATE_PORT kin.CallerOrChild (Some partition) states.Active 0;
  memory = false;
  asks = λ f caller target states charge. (TargetState, is_in f target states) ∷
      (Port, contains_key f.port (target, port)) ∷ [];
  output = λ f caller target. [];
  effect = Some (λ f caller target. record f { port = remove f.port (target, port) });
}

-- HvDisconnectPort: removes a connection of the target.
abbrev pub disconnect_port : ℕ → ℕ → CallPolicy
disconnect_port partition connection = record {
  row = DISCONNECT_PORT;
  need = needs privilege.CONNECT_PORT kin.CallerOrChild (Some partition) states.Active 0;
  memory = false;
  asks = λ f caller target states charge.
      (TargetState, is_in f target states) ∷ (Connection, contains_key f.conn (target, connection)) ∷ [];
  output = λ f caller target. [];
  effect = Some (λ f caller target. record f { conn = remove f.conn (target, connection) });
}

-- HvCreatePort: creates a port of the target, to which the peer may connect.
abbrev pub create_port : ℕ → ℕ → ℕ → PortKind → ℕ → Aim → ℕ → ℕ → CallPolicy
create_port partition port peer port_kind sint vp base count = record {
  row = CREATE_PORT;
  need = needs privilege.CREATE_PORT kin.CallerOrChild (Some partition) states.Active PORT_CHARGE;
  memory = true;
  asks = λ f caller target states charge.
      (TargetState, is_in f target states) ∷ (PeerExists, contains_key f.part (resolved_id caller peer))
      ∷ (Port, not (contains_key f.port (target, port))) ∷ (VpExists, has_target f target vp)
      ∷ (Pages, has_available f target charge) ∷ [];
  output = λ f caller target. [];
  effect = Some (λ f caller target. record f {
    port = insert f.port (target, port) (record {
      kind = port_kind;
      peer = resolved_id caller peer;
      sint = sint;
      vp = vp;
      base = flags_of port_kind base;
      count = flags_of port_kind count;
      born = f.served + 1;
    });
  });
}

-- HvConnectPort: creates a connection of the target, to a port whose peer it is.
abbrev pub connect_port : ℕ → ℕ → ℕ → ℕ → PortKind → CallPolicy
connect_port partition connection port_partition port port_kind = record {
  row = CONNECT_PORT;
  need = needs privilege.CONNECT_PORT kin.CallerOrChild (Some partition) states.Active CONNECTION_CHARGE;
  memory = true;
  asks = λ f caller target states charge.
      (TargetState, is_in f target states) ∷ (
        PeerExists,
        contains_key f.part
            (resolved_id caller port_partition),
      )
      ∷ (Connection, not (contains_key f.conn (target, connection))) ∷
      (Port, contains_key f.port (resolved_id caller port_partition, port))
      ∷ (Entitlement, on_port f (resolved_id caller port_partition, port) (λ row. row.peer == target))
      ∷ (Operand, on_port f (resolved_id caller port_partition, port) (λ row. is_kind row.kind port_kind))
      ∷ (Pages, has_available f target charge) ∷ [];
  output = λ f caller target. [];
  effect = Some (λ f caller target. record f {
    conn = insert f.conn (target, connection) (record {
      part = resolved_id caller port_partition;
      port = port;
      kind = port_kind;
      born = born_of (get f.port (resolved_id caller port_partition, port));
    });
  });
}
