-- Integrity: what an event may change.
use Rattle.std.specs.Prelude.{◌≡◌, ℕ, ◌+◌, ◌&&◌, if◌then◌else◌, Bool, false, List, Option}
use Rattle.std.specs.Option.{option_map_or}
use Rattle.hv_calls.specs.declared.call.Call.{Call}
use Rattle.hv_calls.specs.declared.call.Call.TheVariants.{SetPartitionProperty, PostMessage, SignalEvent}
use Rattle.hv_policy.specs.Aim.{ResolvedPort, aim_of, flag_taker, is_same_birth, message_taker}
use Rattle.hv_policy.specs.Call.{called}
use Rattle.hv_policy.specs.Effect.{narrows}
use Rattle.hv_policy.specs.Flat.{Flat, MailRow}
use Rattle.hv_policy.specs.Mail.{Place}
use Rattle.hv_policy.specs.Met.{has_flag, is_for_messages}
use Rattle.hv_policy.specs.Needs.{resolved_id}
use Rattle.hv_policy.specs.Property.{property_of}
use Rattle.hv_policy.specs.Subtree.{is_in_subtree}
use Rattle.hv_policy.specs.declared.event.Action.{Action}
use Rattle.hv_policy.specs.declared.event.Action.TheVariants.{Hypercall}
use Rattle.hv_policy.specs.declared.event.Event.{Event}
use Rattle.hv_privs.specs.Privileges.{of}
use Rattle.hv_privs.specs.declared.Privileges.{Privileges}
use Rattle.hv_security.specs.Same.{Gain, HasSame, HasSameBut, HasSameButMask, OneFlag, OneMessage, OnlyGains}
use Rattle.hv_security.specs.Same.{is_relative}

-- the reach of an event: only the caller's relatives; also the place to which the event sends, and what it
-- sends; or also the masks in a partition's subtree, which the event restricts to a value
pub data Reach : Type 0 where
  CallerAndChildren : Reach
  AndPlace : (at : Place) (gain : Gain) → Reach
  AndMasks : (top : ℕ) (value : Privileges) → Reach

-- the place to which a connection sends at a processor: the SINT at which the connection's port aims
abbrev pub aimed_place : ResolvedPort → ℕ → Place
aimed_place aim vp = record { part = aim.conn.part; vp = vp; sint = aim.port.sint }

-- a message with this type and payload at that place, from the connection's port
abbrev pub aimed_message : ℕ → List ℕ → ResolvedPort → ℕ → MailRow
aimed_message type payload aim vp = record {
  part = aim.conn.part;
  vp = vp;
  sint = aim.port.sint;
  port = aim.conn.port;
  born = aim.conn.born;
  type = type;
  payload = payload;
  shown = false;
}

-- the reach of an event that sends through a connection: the place at the processor that takes what is sent,
-- or no place if no processor does, or the port does not take it
abbrev pub reach_to : (ℕ → Gain) → ResolvedPort → Option ℕ → Reach
reach_to gain aim vp = option_map_or (λ vp. AndPlace (aimed_place aim vp) (gain vp)) vp CallerAndChildren

abbrev pub reach_through : (ResolvedPort → Bool) → (ResolvedPort → Option ℕ) → (ResolvedPort → ℕ → Gain)
    → Option ResolvedPort → Reach
reach_through takes taker gain aim =
    option_map_or (λ aim. if takes aim then reach_to (gain aim) aim (taker aim) else CallerAndChildren) aim
    CallerAndChildren

-- the port is the one to which the connection was made, and takes messages, or has a flag with this number
abbrev pub takes_message : ResolvedPort → Bool
takes_message aim = is_same_birth aim && is_for_messages aim

abbrev pub takes_flag : ℕ → ResolvedPort → Bool
takes_flag flag aim = is_same_birth aim && has_flag flag aim

-- the reach of a call. A post sends its message through a connection of the caller, to the processor that
-- takes it in this state. A signal sends a flag, which counts from the port's first. A mask that is given to
-- an Active partition narrows its subtree
abbrev pub reach_of_call : Flat → ℕ → Call → Reach
reach_of_call f caller (PostMessage connection message_type payload) =
    reach_through takes_message (message_taker f)
    (λ aim vp. OneMessage (aimed_message message_type payload aim vp)) (aim_of f (caller, connection))
reach_of_call f caller (SignalEvent connection flag) =
    reach_through (takes_flag flag) (flag_taker f) (λ aim vp. OneFlag (aim.port.base + flag))
    (aim_of f (caller, connection))
reach_of_call f caller (SetPartitionProperty partition code value) =
    if narrows (property_of code) f (resolved_id caller partition)
    then AndMasks (resolved_id caller partition) (of value)
    else CallerAndChildren
reach_of_call f caller call = CallerAndChildren

-- the reach of an action. An access reaches only its caller's relatives
abbrev pub reach_of : {A : Type 0} → Flat → ℕ → Action A → Reach
reach_of f caller (Hypercall frame) = option_map_or (reach_of_call f caller) (called frame) CallerAndChildren
reach_of f caller access = CallerAndChildren

-- a partition that is no relative of the caller, before or after
pub record IsNoRelative (caller id : ℕ) (f g : Flat) : Type 0 where
  pub before : is_relative f caller id ≡ false
  pub after : is_relative g caller id ≡ false

-- A partition that is no relative of the caller is unchanged, except as the reach allows: the place may only
-- gain what is sent, and a mask in the subtree may only be restricted to the value.
abbrev pub IntegrityWithin : Reach → ℕ → Flat → Flat → Type 0
IntegrityWithin CallerAndChildren caller f g = (id : ℕ) → IsNoRelative caller id f g → HasSame id f g
IntegrityWithin (AndPlace at gain) caller f g =
    ((id : ℕ) → IsNoRelative caller id f g → HasSameBut at id f g) × OnlyGains at gain f g
IntegrityWithin (AndMasks top value) caller f g =
    ((id : ℕ) → IsNoRelative caller id f g → is_in_subtree f top id ≡ false → HasSame id f g)
    × ((id : ℕ) → IsNoRelative caller id f g → HasSameButMask value id f g)

-- integrity of an event that leads from `f` to `g`: beyond its reach, it changes nothing of a partition that
-- is no relative of its caller
abbrev pub Integrity : {A : Type 0} → Event A → Flat → Flat → Type 0
Integrity e f g = IntegrityWithin (reach_of f e.by.part e.what) e.by.part f g
