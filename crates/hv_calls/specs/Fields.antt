-- Tests of fields by themselves, for rule P7.
use Rattle.std.specs.Prelude.{ℕ, ◌+◌, ◌==◌, ◌&&◌, ◌||◌, not, nat_le, Bool}
use Rattle.hv_defs.specs.declared.sizes.TheConstants.{EVENT_FLAGS, MAX_MESSAGE_TYPE, MAX_PORT_ID}

-- the id of a port or of a connection: 24 bits, the upper 8 of 32 being zero
abbrev pub is_id : ℕ → Bool
is_id id = nat_le id MAX_PORT_ID

-- a PortType: 1 for messages, 2 for event flags
abbrev pub is_port_type : ℕ → Bool
is_port_type type = (type == 1) || (type == 2)

-- the flags of a port: an event port has at least one, and all lie among those of a SINT
abbrev pub are_flags : ℕ → ℕ → ℕ → Bool
are_flags type base count = not (type == 2) || (nat_le 1 count && nat_le (base + count) EVENT_FLAGS)

-- a MessageType: not 0, and bit 31 is clear
abbrev pub is_message_type : ℕ → Bool
is_message_type type = nat_le 1 type && nat_le type MAX_MESSAGE_TYPE
