-- Allowed flows: what an event of a member looks at outside the members, in two states.
use Rattle.std.specs.Prelude.{◌≡◌, ℕ, ◌==◌, Bool, true, false, List, [], ◌∷◌, Option, None, Some}
use Rattle.std.specs.FinMap.{contains_key, get}
use Rattle.hv_calls.specs.declared.call.Call.{Call}
use Rattle.hv_calls.specs.declared.call.Call.TheVariants.{CreatePartition, PostMessage, SignalEvent}
use Rattle.hv_calls.specs.declared.call.Call.TheVariants.{CreatePort, ConnectPort}
use Rattle.hv_defs.specs.declared.port_kind.PortKind.{PortKind}
use Rattle.hv_defs.specs.declared.sizes.TheConstants.{PARTITION_CHARGE}
use Rattle.hv_policy.specs.Aim.{ResolvedPort, is_same_birth, on_aim}
use Rattle.hv_policy.specs.Call.{called}
use Rattle.hv_policy.specs.Flat.{ConnRow, Flat}
use Rattle.hv_policy.specs.Met.{has_available, has_flag, has_flag_taker, has_message_room, has_message_taker}
use Rattle.hv_policy.specs.Met.{has_privilege, is_aimed_at_vp, is_depth_left, is_for_messages, is_kind}
use Rattle.hv_policy.specs.Met.{on_port}
use Rattle.hv_policy.specs.Needs.{resolved_id, needs_of, target_of}
use Rattle.hv_policy.specs.declared.event.Action.{Action}
use Rattle.hv_policy.specs.declared.event.Action.TheVariants.{Hypercall}
use Rattle.hv_privs.specs.declared.TheConstants.Privileges as privilege

-- Two states answer some tests alike, in order, up to the first that fails. A pair has one test's answers in
-- both states.
abbrev pub AnswerAlike : List (Bool × Bool) → Type 0
AnswerAlike [] = Unit {0}
AnswerAlike (test ∷ tests) = (test.0 ≡ test.1) × (test.0 ≡ true → AnswerAlike tests)

-- a test of a connection and its port, in two states
abbrev pub at_end : ℕ × ℕ → (Flat → ResolvedPort → Bool) → Flat → Flat → Bool × Bool
at_end key test f g = (on_aim f key (test f), on_aim g key (test g))

-- two states agree on what a post reads of the end of its connection, in order: whether the port has the
-- birth that the connection keeps, whether the processor at which it aims exists, whether it takes messages,
-- whether a processor takes one, and whether there is room for one more
abbrev pub PostEndsAlike : ℕ × ℕ → Flat → Flat → Type 0
PostEndsAlike key f g = AnswerAlike (
    at_end key (λ h. is_same_birth) f g ∷ at_end key is_aimed_at_vp f g
    ∷ at_end key (λ h. is_for_messages) f g ∷ at_end key has_message_taker f g
    ∷ at_end key has_message_room f g ∷ [])

-- and on what a signal reads: the same of the port's birth and processor, whether it has an event flag with
-- the number, and whether a processor takes one. A signal reads no message
abbrev pub SignalEndsAlike : ℕ → ℕ × ℕ → Flat → Flat → Type 0
SignalEndsAlike flag key f g = AnswerAlike (
    at_end key (λ h. is_same_birth) f g ∷ at_end key is_aimed_at_vp f g
    ∷ at_end key (λ h. has_flag flag) f g ∷ at_end key has_flag_taker f g ∷ [])

-- a proposition holds if a connection leads to no member
abbrev pub IfOutside : (ℕ → Bool) → Option ConnRow → Type 0 → Type 0
IfOutside members conn P = (row : ConnRow) → conn ≡ Some row → members row.part ≡ false → P

-- a partition that is no member exists in both states or in neither
abbrev pub IsThereAlike : (ℕ → Bool) → ℕ → Flat → Flat → Type 0
IsThereAlike members id f g = members id ≡ false → contains_key f.part id ≡ contains_key g.part id

-- two states agree on what HvConnectPort reads of a port, in order: whether it exists, whether its peer is
-- the target, and whether it is of the type that the call names. Its SINT, processor, flags and birth may
-- differ, and so may a peer that is another partition than the target
abbrev pub PortsAlike : ℕ × ℕ → ℕ → PortKind → Flat → Flat → Type 0
PortsAlike key target port_kind f g = AnswerAlike (
    (contains_key f.port key, contains_key g.port key)
    ∷ (on_port f key (λ row. row.peer == target), on_port g key (λ row. row.peer == target))
    ∷ (
      on_port f key (λ row. is_kind row.kind port_kind),
      on_port g key (λ row. is_kind row.kind port_kind),
    ) ∷ [])

-- two states agree on what HvCreatePartition looks at: whether its caller is too deep, and, if it is served,
-- the next id
abbrev pub NextAlike : ℕ → Flat → Flat → Type 0
NextAlike caller f g =
    (is_depth_left f caller ≡ is_depth_left g caller)
    × (is_depth_left f caller ≡ true → has_available f caller PARTITION_CHARGE ≡ true → f.next ≡ g.next)

-- two states agree on what a call looks at outside the members. HvCreatePartition looks at what `NextAlike`
-- has. A post and a signal look at the end of a connection that leads outside. Every other call looks at
-- whether the partitions that it names exist, and HvConnectPort also at what `PortsAlike` has of the port
-- that it names
abbrev pub LooksAlike : (ℕ → Bool) → Call → ℕ → Flat → Flat → Type 0
LooksAlike members (CreatePartition flags) caller f g = NextAlike caller f g
LooksAlike members (PostMessage connection message_type payload) caller f g =
    IfOutside members (get f.conn (caller, connection)) (PostEndsAlike (caller, connection) f g)
LooksAlike members (SignalEvent connection flag) caller f g =
    IfOutside members (get f.conn (caller, connection)) (SignalEndsAlike flag (caller, connection) f g)
LooksAlike members (CreatePort partition port peer port_kind sint vp base count) caller f g =
    IsThereAlike members (resolved_id caller partition) f g × IsThereAlike members (resolved_id caller peer) f
    g
LooksAlike members (ConnectPort partition connection port_partition port port_kind) caller f g =
    IsThereAlike members (resolved_id caller partition) f g × IsThereAlike members
    (resolved_id caller port_partition) f g
    × (members (resolved_id caller port_partition) ≡ false → PortsAlike
    (resolved_id caller port_partition, port) (resolved_id caller partition) port_kind f g)
LooksAlike members call caller f g = IsThereAlike members (target_of call caller) f g

-- a call looks outside only if its caller has the call's privilege. An access looks at nothing
abbrev pub CallLooksAlike : (ℕ → Bool) → Option Call → ℕ → Flat → Flat → Type 0
CallLooksAlike members None caller f g = Unit {0}
CallLooksAlike members (Some call) caller f g = has_privilege f caller (needs_of call).privilege ≡ true →
    LooksAlike members call caller f g

abbrev pub ActionLooksAlike : {A : Type 0} → (ℕ → Bool) → Action A → ℕ → Flat → Flat → Type 0
ActionLooksAlike members (Hypercall frame) caller f g = CallLooksAlike members (called frame) caller f g
ActionLooksAlike members access caller f g = Unit {0}

-- a partition has none of the privileges that allow it to look up others
pub record LooksUpNothing (f : Flat) (id : ℕ) : Type 0 where
  pub partitions : has_privilege f id privilege.CREATE_PARTITIONS ≡ false
  pub pools : has_privilege f id privilege.ACCESS_MEMORY_POOL ≡ false
  pub ports : has_privilege f id privilege.CREATE_PORT ≡ false
  pub connections : has_privilege f id privilege.CONNECT_PORT ≡ false
