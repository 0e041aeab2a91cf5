-- A call's rules are met alike in two states that agree for it.
use Rattle.std.proofs.Common.{◌≡◌, ℕ, ◌+◌, ◌==◌, false, nat_le, [], ◌∷◌, is_some, ap}
use Rattle.std.specs.FinMap.{get}
use Rattle.std.specs.Option.{option_map_or}
use Rattle.hv_calls.specs.declared.call.Call.{Call}
use Rattle.hv_calls.specs.declared.call.Call.TheVariants.{CreatePartition, PostMessage, SignalEvent, CreatePort, ConnectPort}
use Rattle.hv_defs.specs.declared.sizes.TheConstants.{MAX_DEPTH}
use Rattle.hv_privs.specs.Privileges.{contains}
use Rattle.hv_policy.specs.Aim.{is_ready_for_flags, is_ready_for_messages, is_same_birth}
use Rattle.hv_policy.specs.Flat.{Flat}
use Rattle.hv_policy.specs.Met.{has_flag, is_depth_left, is_for_messages, is_kind, test_row}
use Rattle.hv_policy.specs.Needs.{charge_of, resolved_id, needs_of, target_of}
use Rattle.hv_policy.specs.Rules.{first_unmet, further_asks, target_asks}
use Rattle.hv_policy.specs.declared.rule.Rule.TheVariants.{Privilege, TargetExists, TargetScope, Connection, Port, VpExists, Operand, VpReady, PortRoom}
use Rattle.hv_security.proofs.PartitionReads.{reads_alike}
use Rattle.hv_security.proofs.AgreedReads.{child_alike, depth_alike, kin_alike, own, there_alike}
use Rattle.hv_security.proofs.SameReads.{NamedAlike, ReadsAlike, asked_alike}
use Rattle.hv_security.proofs.AgreedConnections.{on_aim_alike, on_room_alike, on_taker_alike, on_target_alike}
use Rattle.hv_security.specs.Agreed.{Agrees, AgreesOnNamed}
use Rattle.hv_security.specs.Same.{HasSame}

module _ (caller : ℕ) (f g : Flat) (a : Agrees caller f g) where
  -- P8 to P10, whatever the target
  pub targets_alike : (call : Call) → target_asks f caller call ≡ target_asks g caller call
  targets_alike call = λ i.
      (Privilege, ap (test_row (λ row. contains row.mask (needs_of call).privilege)) (own caller f g a).part i)
      ∷ (TargetExists, there_alike caller f g a (target_of call caller) i)
      ∷ (TargetScope, kin_alike caller f g a (needs_of call).kin (target_of call caller) i) ∷ []

  own_conn : (connection : ℕ) → get f.conn (caller, connection) ≡ get g.conn (caller, connection)
  own_conn connection = (own caller f g a).conns connection

  depth_left_alike : is_depth_left f caller ≡ is_depth_left g caller
  depth_left_alike = λ i. test_row (λ row. nat_le (depth_alike caller f g a caller caller i + 1) MAX_DEPTH) ((own caller f g a).part i)

  -- what a call reads, where they have the same of the target
  pub reads : (target : ℕ) → HasSame target f g → ReadsAlike caller target f g
  reads target t =
      reads_alike f g caller target (own caller f g a).part (own caller f g a).pages t.part t.pages t.vps (λ port. ap is_some (t.ports port)) (λ connection. ap is_some (t.conns connection))
      (child_alike caller f g a target)

  named : (call : Call) → AgreesOnNamed call caller f g → NamedAlike caller (target_of call caller) (needs_of call).states (charge_of call) f g call
  named (CreatePartition flags) n = depth_left_alike
  named (PostMessage connection message_type payload) n = λ i.
      first_unmet ((Connection, ap is_some (own_conn connection) i)
      ∷ (Port, on_aim_alike f g (caller, connection) (own_conn connection) n.0 is_same_birth i)
      ∷ (VpExists, on_target_alike f g (caller, connection) (own_conn connection) n.0 i)
      ∷ (Operand, on_aim_alike f g (caller, connection) (own_conn connection) n.0 is_for_messages i)
      ∷ (VpReady, on_taker_alike f g (caller, connection) (own_conn connection) n.0 is_ready_for_messages i)
      ∷ (PortRoom, on_room_alike f g (caller, connection) (own_conn connection) n.0 n.1 i) ∷ [])
  named (SignalEvent connection flag) n = λ i.
      first_unmet ((Connection, ap is_some (own_conn connection) i)
      ∷ (Port, on_aim_alike f g (caller, connection) (own_conn connection) n is_same_birth i)
      ∷ (VpExists, on_target_alike f g (caller, connection) (own_conn connection) n i)
      ∷ (Operand, on_aim_alike f g (caller, connection) (own_conn connection) n (has_flag flag) i)
      ∷ (VpReady, on_taker_alike f g (caller, connection) (own_conn connection) n is_ready_for_flags i) ∷ [])
  named (CreatePort partition port peer port_kind sint vp base count) n = there_alike caller f g a (resolved_id caller peer)
  named (ConnectPort partition connection port_partition port port_kind) n = (
    there_alike caller f g a (resolved_id caller port_partition),
    (
      ap is_some n,
      λ there. (
        ap (λ row. option_map_or (λ row. row.peer == resolved_id caller partition) row false) n,
        λ peer. (ap (λ row. option_map_or (λ row. is_kind row.kind port_kind) row false) n, λ kind. tt),
      ),
    ),
  )
  named call n = tt

  -- P11 to P24
  pub further_alike : (call : Call) → HasSame (target_of call caller) f g → AgreesOnNamed call caller f g → first_unmet (further_asks f caller call) ≡ first_unmet (further_asks g caller call)
  further_alike call t n =
      asked_alike caller (target_of call caller) f g (reads (target_of call caller) t) (needs_of call).states (charge_of call) call (named call n)
