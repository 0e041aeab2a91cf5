-- The changes that calls and accesses make, each over the flat state.
use Rattle.std.specs.Prelude.{ℕ, zero, suc, ◌+◌, ◌==◌, ◌&&◌, not, true, false, Bool, cond, if◌then◌else◌}
use Rattle.std.specs.Prelude.{List, [], ◌∷◌, ◌++◌, map, Option, None, Some}
use Rattle.std.specs.Option.{option_map_or}
use Rattle.std.specs.Ordering.{nat_cmp}
use Rattle.std.specs.declared.cmp.Ordering.{Ordering}
use Rattle.std.specs.FinSet as set
use Rattle.std.specs.FinMap.{FinMap, get, insert, entries, from_entries, retain_keys}
use Rattle.hv_defs.specs.Registers as register
use Rattle.hv_defs.specs.Vectors as vectors
use Rattle.hv_defs.specs.declared.life.Life.TheVariants.{Created}
use Rattle.hv_defs.specs.declared.port_kind.PortKind.{PortKind}
use Rattle.hv_defs.specs.declared.port_kind.PortKind.TheVariants as port_type
use Rattle.hv_defs.specs.declared.sizes.TheConstants.{CPU_RESERVE_START, CPU_CAP_START, CPU_WEIGHT_START}
use Rattle.hv_defs.specs.declared.sizes.TheConstants.{SINTS}
use Rattle.hv_defs.specs.declared.registers.TheConstants.{EOM}
use Rattle.hv_privs.specs.declared.Privileges.{Privileges}
use Rattle.hv_privs.specs.declared.TheConstants.Privileges as privilege
use Rattle.hv_privs.specs.Privileges.{of, restrict}
use Rattle.hv_policy.specs.Aim.{ResolvedPort, flag_taker, is_ready_for_messages, message_taker, on_vp}
use Rattle.hv_defs.specs.Flags.{pair_cmp}
use Rattle.hv_policy.specs.Flat.{Flat, PartRow, PageRow, VpRow, PortRow, MailRow}
use Rattle.hv_policy.specs.Mail as mail
use Rattle.hv_policy.specs.Mail.{Place}
use Rattle.hv_policy.specs.Met.{is_running}
use Rattle.hv_policy.specs.Property.{with_property}
use Rattle.hv_policy.specs.Subtree.{is_in_subtree}
use Rattle.hv_policy.specs.declared.property.Property.{Property}
use Rattle.hv_policy.specs.declared.property.Property.TheVariants.{PrivilegeFlags, CpuReserve, CpuCap}
use Rattle.hv_policy.specs.declared.property.Property.TheVariants.{CpuWeight}

-- the mask of a partition's row, or no privileges without a row
abbrev pub mask_of : Option PartRow → Privileges
mask_of row = option_map_or (λ row. row.mask) row (of 0)

-- a new partition: Created, with its parent's mask restricted and the start properties
abbrev pub new_row : ℕ → Privileges → PartRow
new_row parent mask = record {
  parent = Some parent;
  life = Created;
  mask = restrict mask privilege.NEW_PARTITION;
  reserve = CPU_RESERVE_START;
  cap = CPU_CAP_START;
  weight = CPU_WEIGHT_START;
}

abbrev pub changed_at : {K X : Type 0} {cmp : K → K → Ordering} → FinMap cmp X → K → (X → X) → Option X →
    FinMap cmp X
changed_at rows key change None = rows
changed_at rows key change (Some row) = insert rows key (change row)

-- the partitions with the row of one of them changed
abbrev pub with_row : FinMap nat_cmp PartRow → ℕ → (PartRow → PartRow) → FinMap nat_cmp PartRow
with_row part id change = changed_at part id change (get part id)

-- the rows of all other partitions, by (partition, number)
abbrev pub rows_but : {X : Type 0} → ℕ → FinMap pair_cmp X → FinMap pair_cmp X
rows_but id rows = retain_keys rows (λ key. not (key.0 == id))

-- a processor's row after a write to the register with this name, unchanged if the register does not take the
-- value
abbrev pub written : ℕ → ℕ → VpRow → VpRow
written name value row = record row {
  registers = register.after_write row.registers name
      (register.kept (register.row_of name) value);
}

-- the processors with the row of one of them changed
abbrev pub with_vp : FinMap pair_cmp VpRow → ℕ × ℕ → (VpRow → VpRow) → FinMap pair_cmp VpRow
with_vp vps key change = changed_at vps key change (get vps key)

-- the first flag of a port, or the count of its flags. A message port has no flags
abbrev pub flags_of : PortKind → ℕ → ℕ
flags_of port_type.Message number = 0
flags_of port_type.Event number = number

-- the birth of a port, or 0 without a port
abbrev pub born_of : Option PortRow → ℕ
born_of row = option_map_or (λ row. row.born) row 0

-- a page after `new_owner` inherits from `id`: a loose page of `new_owner` if `id` owned it, else unchanged
abbrev pub inherited : ℕ → ℕ → PageRow → PageRow
inherited id new_owner row = if row.owner == id then record { owner = new_owner; pooled = false } else row

-- the pages after one of them becomes a loose page of `id`
abbrev pub withdrawn : ℕ → Option ℕ → FinMap nat_cmp PageRow → FinMap nat_cmp PageRow
withdrawn id None pages = pages
withdrawn id (Some page) pages = insert pages page (record { owner = id; pooled = false })

-- the row with a new value of a property, unchanged for an unknown property
abbrev pub given : Option Property → ℕ → PartRow → PartRow
given None value row = row
given (Some property) value row = with_property property value row

-- a processor's row after a SINT raised its vector, if it did
abbrev pub row_raised : Bool → ℕ → VpRow → VpRow
row_raised did sint row = record row {
  pending = cond did (vectors.raised row.registers sint row.pending)
      row.pending;
}

-- a partition's row with its mask restricted to a value, which adds no bit
abbrev pub narrowed_row : Privileges → PartRow → PartRow
narrowed_row value row = record row { mask = restrict row.mask value }

-- the partitions with every mask in the subtree of `top` restricted to a value
abbrev pub narrowed : Flat → ℕ → Privileges → FinMap nat_cmp PartRow
narrowed f top value =
    from_entries (map (λ e. (e.0, if is_in_subtree f top e.0 then narrowed_row value e.1 else e.1))
    (entries f.part))

-- whether a property is the mask
abbrev pub is_mask : Option Property → Bool
is_mask None = false
is_mask (Some PrivilegeFlags) = true
is_mask (Some CpuReserve) = false
is_mask (Some CpuCap) = false
is_mask (Some CpuWeight) = false

-- whether a new value of a property narrows a subtree: the property is the mask, and the partition is Active
abbrev pub narrows : Option Property → Flat → ℕ → Bool
narrows property f id = is_mask property && is_running f id

-- the partitions after a property of one of them is set: its row gets the value, or the value narrows its
-- subtree
abbrev pub property_set : Flat → ℕ → Option Property → ℕ → FinMap nat_cmp PartRow
property_set f id property value =
    if narrows property f id then narrowed f id (of value) else with_row f.part id (given property value)

-- Show at a place: if no message is shown and one waits, the oldest is shown and the SINT raises its vector
abbrev pub show : Place → Flat → Flat
show place f = record f {
  mail = mail.shown_next place f.mail;
  vp = with_vp f.vp (place.part, place.vp) (row_raised (mail.has_next place f.mail) place.sint);
}

-- Show at each SINT of a processor below a bound
unfoldable pub show_each : ℕ → ℕ → ℕ → Flat → Flat
show_each part vp zero f = f
show_each part vp (suc sint) f = show (record { part = part; vp = vp; sint = sint })
    (show_each part vp sint f)

-- the end of a message: if the processor takes messages, Show at each of its SINTs
abbrev pub end_message : ℕ → ℕ → Flat → Flat
end_message part vp f = cond (on_vp f (part, vp) is_ready_for_messages) (show_each part vp SINTS f) f

abbrev pub end_if : Bool → ℕ → ℕ → Flat → Flat
end_if is part vp f = cond is (end_message part vp f) f

-- a write to a register of a processor. The write of EOM ends a message
abbrev pub write_register : ℕ → ℕ → ℕ → ℕ → Flat → Flat
write_register part vp name value f = end_if (name == EOM) part vp
    (record f { vp = with_vp f.vp (part, vp) (written name value) })

-- a write to a model-specific register of a processor, by the register's name in a call
abbrev pub write_msr : ℕ → ℕ → Option ℕ → ℕ → Flat → Flat
write_msr part vp None value f = f
write_msr part vp (Some name) value f = write_register part vp name value f

-- the posting of a message: it goes last, and then Show at its place
abbrev pub post : MailRow → Flat → Flat
post row f = show (mail.place_of row) (record f { mail = f.mail ++ row ∷ [] })

-- the posting of a message through a connection, to the port's SINT of the processor that takes it
abbrev pub post_at : ResolvedPort → Option ℕ → ℕ → List ℕ → Flat → Flat
post_at aim None type payload f = f
post_at aim (Some vp) type payload f =
    post (record {
      part = aim.conn.part;
      vp = vp;
      sint = aim.port.sint;
      port = aim.conn.port;
      born = aim.conn.born;
      type = type;
      payload = payload;
      shown = false;
    }) f

abbrev pub post_to : Option ResolvedPort → ℕ → List ℕ → Flat → Flat
post_to None type payload f = f
post_to (Some aim) type payload f = post_at aim (message_taker f aim) type payload f

-- a processor's row after a flag of a SINT is set. The SINT raises its vector if the flag was clear
abbrev pub row_signalled : ℕ → ℕ → VpRow → VpRow
row_signalled sint flag row =
    row_raised (not (set.contains row.flags (sint, flag))) sint
    (record row { flags = set.insert row.flags (sint, flag) })

-- the setting of a flag through a connection, at the processor that takes it. The flag counts from the port's
-- first flag
abbrev pub signal_at : ResolvedPort → Option ℕ → ℕ → Flat → Flat
signal_at aim None flag f = f
signal_at aim (Some vp) flag f =
    record f { vp = with_vp f.vp (aim.conn.part, vp) (row_signalled aim.port.sint (aim.port.base + flag)) }

abbrev pub signal_to : Option ResolvedPort → ℕ → Flat → Flat
signal_to None flag f = f
signal_to (Some aim) flag f = signal_at aim (flag_taker f aim) flag f
