-- The tests of the rules. Each fails if its object does not exist.
use Rattle.std.specs.Prelude.{ℕ, ◌+◌, ◌==◌, ◌&&◌, ◌||◌, not, nat_le, nat_lt, Bool, true, false, is_ok}
use Rattle.std.specs.Prelude.{is_some, Option, None, Some}
use Rattle.std.specs.FinMap.{get, contains_key}
use Rattle.std.specs.Option.{option_map_or}
use Rattle.hv_defs.specs.Registers as register
use Rattle.hv_defs.specs.declared.life.Life.{Life}
use Rattle.hv_defs.specs.declared.life.Life.TheVariants.{Active}
use Rattle.hv_defs.specs.declared.port_kind.PortKind.{PortKind}
use Rattle.hv_defs.specs.declared.port_kind.PortKind.TheVariants.{Message, Event}
use Rattle.hv_defs.specs.declared.registers.RegisterRow.{RegisterRow}
use Rattle.hv_defs.specs.declared.sizes.TheConstants.{MAX_DEPTH, MAX_MESSAGES, MAX_VPS}
use Rattle.hv_privs.specs.Privileges.{contains, of}
use Rattle.hv_privs.specs.declared.Privileges.{Privileges}
use Rattle.hv_policy.specs.Aim.{ResolvedPort, flag_taker, has_target, message_taker}
use Rattle.hv_policy.specs.Count.{available, child_count, depth, is_parent}
use Rattle.hv_policy.specs.Flat.{Flat, PartRow, PageRow, PortRow}
use Rattle.hv_policy.specs.Mail.{kept_of}
use Rattle.hv_policy.specs.Target.{is_among}
use Rattle.hv_policy.specs.Property.{takes_value}
use Rattle.hv_policy.specs.declared.need.Kin.{Kin}
use Rattle.hv_policy.specs.declared.need.Kin.TheVariants as kin
use Rattle.hv_policy.specs.declared.need.States.{States}
use Rattle.hv_policy.specs.declared.property.Property.{Property}
use Rattle.hv_policy.specs.declared.property.Property.TheVariants.{PrivilegeFlags, CpuReserve, CpuCap}
use Rattle.hv_policy.specs.declared.property.Property.TheVariants.{CpuWeight}

-- a test of a partition's row
abbrev pub test_row : (PartRow → Bool) → Option PartRow → Bool
test_row test None = false
test_row test (Some row) = test row

abbrev pub on_part : Flat → ℕ → (PartRow → Bool) → Bool
on_part f id test = test_row test (get f.part id)

-- a partition is Active
abbrev pub is_active : Life → Bool
is_active Active = true
is_active life = false

abbrev pub is_running : Flat → ℕ → Bool
is_running f id = on_part f id (λ row. is_active row.life)

-- its mask has a privilege
abbrev pub has_privilege : Flat → ℕ → Privileges → Bool
has_privilege f id privilege = on_part f id (λ row. contains row.mask privilege)

-- `id` is a child of `caller`
abbrev pub is_child : Flat → ℕ → ℕ → Bool
is_child f caller id = on_part f id (λ row. is_parent caller row.parent)

-- a call that allows this kin may name `id`
abbrev pub is_kin : Kin → Flat → ℕ → ℕ → Bool
is_kin kin.Caller f caller id = id == caller
is_kin kin.CallerOrChild f caller id = (id == caller) || is_child f caller id
is_kin kin.Child f caller id = is_child f caller id

-- a partition's life state is one of these
abbrev pub is_in : Flat → ℕ → States → Bool
is_in f id states = on_part f id (λ row. is_among row.life states)

abbrev pub is_childless : Flat → ℕ → Bool
is_childless f id = on_part f id (λ row. child_count f id == 0)

-- a child of it would not be too deep
abbrev pub is_depth_left : Flat → ℕ → Bool
is_depth_left f id = on_part f id (λ row. nat_le (depth f id + 1) MAX_DEPTH)

-- its pool has enough available pages for a charge
abbrev pub has_available : Flat → ℕ → ℕ → Bool
has_available f id charge = nat_le charge (available f id)

-- a new processor may have this index: it is below the limit and free
abbrev pub is_vp_free : Flat → ℕ → ℕ → Bool
is_vp_free f id vp = nat_lt vp MAX_VPS && not (contains_key f.vp (id, vp))

-- the page with this row is a loose page of a partition
abbrev pub is_loose : ℕ → Option PageRow → Bool
is_loose id page = option_map_or (λ page. (page.owner == id) && not page.pooled) page false

-- a caller may give this value to a property. A mask must lie within the caller's own
abbrev pub may_give : Option Property → ℕ → Flat → ℕ → Bool
may_give None value f caller = false
may_give (Some PrivilegeFlags) value f caller = has_privilege f caller (of value)
may_give (Some CpuReserve) value f caller = true
may_give (Some CpuCap) value f caller = true
may_give (Some CpuWeight) value f caller = true

-- a value is in the property's range
abbrev pub is_in_range : Option Property → ℕ → Bool
is_in_range property value = option_map_or (λ property. takes_value property value) property false

-- a partition may access the register with this row: its mask has the register's privilege. An unknown
-- register needs none
abbrev pub may_access : Flat → ℕ → Option RegisterRow → Bool
may_access f id None = true
may_access f id (Some row) = has_privilege f id (of row.privilege)

-- a partition may access the model-specific register with this name in a call, if there is one
abbrev pub may_access_msr : Flat → ℕ → Option ℕ → Bool
may_access_msr f id name = option_map_or (λ name. may_access f id (register.row_of name)) name false

-- that register takes a value
abbrev pub takes_msr : Option ℕ → ℕ → Bool
takes_msr name value = option_map_or (λ name. is_ok (register.kept (register.row_of name) value)) name false

-- the port with this key exists and passes a test
abbrev pub on_port : Flat → ℕ × ℕ → (PortRow → Bool) → Bool
on_port f key test = option_map_or test (get f.port key) false

-- a port is of a type
abbrev pub is_kind : PortKind → PortKind → Bool
is_kind Message Message = true
is_kind Event Event = true
is_kind kind other = false

-- the port of a resolved connection takes messages, or has an event flag with this number
abbrev pub is_for_messages : ResolvedPort → Bool
is_for_messages aim = is_kind aim.port.kind Message

abbrev pub has_flag : ℕ → ResolvedPort → Bool
has_flag flag aim = is_kind aim.port.kind Event && nat_lt flag aim.port.count

-- the processor that the port aims at exists, if it aims at one
abbrev pub is_aimed_at_vp : Flat → ResolvedPort → Bool
is_aimed_at_vp f aim = has_target f aim.conn.part aim.port.vp

-- a processor takes a message, or an event flag, from a resolved connection: the one that the port aims at is
-- ready, or for `Any` some processor of its partition
abbrev pub has_message_taker : Flat → ResolvedPort → Bool
has_message_taker f aim = is_some (message_taker f aim)

abbrev pub has_flag_taker : Flat → ResolvedPort → Bool
has_flag_taker f aim = is_some (flag_taker f aim)

-- the kept messages of the port and its birth, at all processors together, are fewer than the limit
abbrev pub has_message_room : Flat → ResolvedPort → Bool
has_message_room f aim = nat_lt (kept_of aim.conn.part aim.conn.port aim.conn.born f.mail) MAX_MESSAGES
