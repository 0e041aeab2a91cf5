-- Messages and event flags that are sent through connections.
use Rattle.std.specs.Prelude.{ℕ, true, false, List, [], ◌∷◌, None, Some}
use Rattle.std.specs.FinMap.{contains_key}
use Rattle.hv_abi.specs.declared.call_kind.TheConstants.{POST_MESSAGE, SIGNAL_EVENT}
use Rattle.hv_policy.specs.Aim.{aim_of, is_same_birth, on_aim}
use Rattle.hv_policy.specs.Change.{post_to, signal_to}
use Rattle.hv_policy.specs.Met.{has_flag, has_flag_taker, has_message_room, has_message_taker, is_aimed_at_vp}
use Rattle.hv_policy.specs.Met.{is_for_messages}
use Rattle.hv_policy.specs.Policy.{CallPolicy, needs}
use Rattle.hv_policy.specs.declared.need.Kin.TheVariants as kin
use Rattle.hv_policy.specs.declared.need.States.TheVariants as states
use Rattle.hv_policy.specs.declared.rule.Rule.TheVariants.{Connection, Port, PortRoom, Operand, VpExists}
use Rattle.hv_policy.specs.declared.rule.Rule.TheVariants.{VpReady}
use Rattle.hv_privs.specs.declared.TheConstants.Privileges as privilege

-- HvPostMessage: posts a message through a connection of the caller, to the SINT that the port aims at.
abbrev pub post_message : ℕ → ℕ → List ℕ → CallPolicy
post_message connection message_type payload = record {
  row = POST_MESSAGE;
  need = needs privilege.POST_MESSAGES kin.Caller None states.Any 0;
  memory = true;
  asks = λ f caller target states charge.
      (Connection, contains_key f.conn (target, connection)) ∷
      (Port, on_aim f (target, connection) is_same_birth)
      ∷ (VpExists, on_aim f (target, connection) (is_aimed_at_vp f)) ∷
      (Operand, on_aim f (target, connection) is_for_messages)
      ∷ (VpReady, on_aim f (target, connection) (has_message_taker f))
      ∷ (PortRoom, on_aim f (target, connection) (has_message_room f)) ∷ [];
  output = λ f caller target. [];
  effect = Some (λ f caller target. post_to (aim_of f (target, connection)) message_type payload f);
}

-- HvSignalEvent: sets an event flag of the port through a connection of the caller.
abbrev pub signal_event : ℕ → ℕ → CallPolicy
signal_event connection flag = record {
  row = SIGNAL_EVENT;
  need = needs privilege.SIGNAL_EVENTS kin.Caller None states.Any 0;
  memory = false;
  asks = λ f caller target states charge.
      (Connection, contains_key f.conn (target, connection)) ∷
      (Port, on_aim f (target, connection) is_same_birth)
      ∷ (VpExists, on_aim f (target, connection) (is_aimed_at_vp f)) ∷
      (Operand, on_aim f (target, connection) (has_flag flag))
      ∷ (VpReady, on_aim f (target, connection) (has_flag_taker f)) ∷ [];
  output = λ f caller target. [];
  effect = Some (λ f caller target. signal_to (aim_of f (target, connection)) flag f);
}
