-- Where a connection leads, and which processor takes its messages and event flags.
use Rattle.std.specs.Prelude.{ℕ, ◌==◌, ◌&&◌, Bool, true, false, if◌then◌else◌, Option, None, Some, find}
use Rattle.std.specs.Prelude.{option_and_then, option_map}
use Rattle.std.specs.FinMap.{contains_key, entries, get}
use Rattle.std.specs.Option.{option_map_or}
use Rattle.hv_defs.specs.Registers as register
use Rattle.hv_defs.specs.declared.aim.Aim.{Aim}
use Rattle.hv_defs.specs.declared.aim.Aim.TheVariants.{One, Any}
use Rattle.hv_policy.specs.Flat.{Flat, ConnRow, PortRow, VpRow}

-- a resolved connection: the connection, and the port with the id that it keeps, whatever that port's birth
pub record ResolvedPort : Type 0 where
  pub conn : ConnRow
  pub port : PortRow

abbrev pub aim_with : ConnRow → Option PortRow → Option ResolvedPort
aim_with conn port = option_map (λ port. record { conn = conn; port = port }) port

abbrev pub aim_by : Flat → Option ConnRow → Option ResolvedPort
aim_by f conn = option_and_then (λ conn. aim_with conn (get f.port (conn.part, conn.port))) conn

-- the connection with this key and its port, if both exist
abbrev pub aim_of : Flat → ℕ × ℕ → Option ResolvedPort
aim_of f key = aim_by f (get f.conn key)

-- both exist, and pass a test
abbrev pub on_aim : Flat → ℕ × ℕ → (ResolvedPort → Bool) → Bool
on_aim f key test = option_map_or test (aim_of f key) false

-- the port is the one that existed when the connection was made
abbrev pub is_same_birth : ResolvedPort → Bool
is_same_birth aim = aim.port.born == aim.conn.born

-- an aim includes the processor with this index
abbrev pub aims_at : Aim → ℕ → Bool
aims_at (One index) vp = vp == index
aims_at Any vp = true

-- the one processor of a partition that a port aims at exists. For `Any`, none needs to exist
abbrev pub has_target : Flat → ℕ → Aim → Bool
has_target f id (One vp) = contains_key f.vp (id, vp)
has_target f id Any = true

-- a processor exists, and its row passes a test
abbrev pub on_vp : Flat → ℕ × ℕ → (VpRow → Bool) → Bool
on_vp f key test = option_map_or test (get f.vp key) false

-- the lowest processor of a partition that passes a test. The rows are sorted by partition, and then by index
abbrev pub lowest_vp : (VpRow → Bool) → Flat → ℕ → Option ℕ
lowest_vp test f id = option_map (λ e. e.0.1) (find (λ e. (e.0.0 == id) && test e.1) (entries f.vp))

-- the processor of a partition that a port with this aim delivers to: the one that it aims at, if it is
-- ready, or for `Any` the lowest ready one. A test says which processors are ready
abbrev pub select_vp : (VpRow → Bool) → Flat → ℕ → Aim → Option ℕ
select_vp is_ready f id (One vp) = if on_vp f (id, vp) is_ready then Some vp else None
select_vp is_ready f id Any = lowest_vp is_ready f id

-- a processor is ready for messages, or for event flags
abbrev pub is_ready_for_messages : VpRow → Bool
is_ready_for_messages row = register.takes_messages row.registers

abbrev pub is_ready_for_flags : VpRow → Bool
is_ready_for_flags row = register.takes_flags row.registers

-- the processor of the port's partition that takes a message, or an event flag, if there is one
abbrev pub message_taker : Flat → ResolvedPort → Option ℕ
message_taker f aim = select_vp is_ready_for_messages f aim.conn.part aim.port.vp

abbrev pub flag_taker : Flat → ResolvedPort → Option ℕ
flag_taker f aim = select_vp is_ready_for_flags f aim.conn.part aim.port.vp
