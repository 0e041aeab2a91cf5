-- What looks show of a flat state. A look is not an event: it needs no privilege, and changes nothing.
use Rattle.std.specs.Prelude.{◌≡◌, ℕ, ◌^◌, ◌/◌, ◌%◌, nat_lt, if◌then◌else◌, List, [], ◌∷◌, Option, None, Some}
use Rattle.std.specs.Prelude.{IsSomeAnd, option_and_then, option_map}
use Rattle.std.specs.FinMap.{get}
use Rattle.std.specs.Option.{option_map_or}
use Rattle.hv_defs.specs.Flags.{flag_bytes}
use Rattle.hv_defs.specs.Registers.{name_of_msr}
use Rattle.hv_defs.specs.Vectors.{VectorSet, highest}
use Rattle.hv_defs.specs.declared.sizes.TheConstants.{SINTS}
use Rattle.hv_policy.specs.Answer.{next_child, register_of}
use Rattle.hv_policy.specs.Count.{child_count, conn_count, depth, in_use, pooled_count, port_count, vp_count}
use Rattle.hv_policy.specs.Flat.{Flat, PartRow, VpRow}
use Rattle.hv_policy.specs.Mail.{place_at, slot_at}
use Rattle.hv_policy.specs.Rules.{unmet}
use Rattle.hv_policy.specs.Step.{step}
use Rattle.hv_policy.specs.declared.event.Caller.{Caller}
use Rattle.hv_policy.specs.declared.event.Event.{Event}
use Rattle.hv_policy.specs.declared.reply.Reply.TheVariants.{Served}
use Rattle.hv_privs.specs.Privileges.{bits_of}
use Rattle.hv_privs.specs.declared.Privileges.{Privileges}
use Rattle.hv_looks.specs.declared.partitions.PartitionLook.{PartitionLook}

-- the row of a processor, if it exists
abbrev pub vp_at : Flat → Caller → Option VpRow
vp_at f of = get f.vp (of.part, of.vp)

-- what is shown at a SINT, if it is one of a processor's 16
abbrev pub at_sint : {X : Type 0} → ℕ → Option X → Option X
at_sint sint shown = if nat_lt sint SINTS then shown else None

-- the bytes of a processor's message slot
abbrev pub slot_seen : Flat → Caller → ℕ → Option (List ℕ)
slot_seen f of sint = at_sint sint (option_map (λ row. slot_at (place_at of sint) f.mail) (vp_at f of))

-- the bytes of a processor's event flags at a SINT
abbrev pub flags_seen : Flat → Caller → ℕ → Option (List ℕ)
flags_seen f of sint = at_sint sint (option_map (λ row. flag_bytes row.flags sint) (vp_at f of))

-- the value of a processor's model-specific register, if one has this number
abbrev pub msr_seen : Flat → Caller → ℕ → Option ℕ
msr_seen f of msr = option_and_then (λ row. option_map (register_of (Some row)) (name_of_msr msr))
    (vp_at f of)

-- the vectors that are pending at a processor
abbrev pub pending_seen : Flat → Caller → Option VectorSet
pending_seen f of = option_map (λ row. row.pending) (vp_at f of)

-- the output of an access that takes the highest vector: 0 if there is none
abbrev pub highest_of : VectorSet → List ℕ
highest_of vectors = option_map_or (λ vector. vector) (highest vectors) 0 ∷ []

-- if the access would be served, the look shows the bytes that the access would output
abbrev pub ShowsServed : {A : Type 0} → Flat → Event A → Option (List ℕ) → Type 0
ShowsServed f event seen = unmet f event ≡ None → IsSomeAnd seen (λ bytes. (step f event).1 ≡ Served bytes)

-- a partition with this row, and its counts over all rows of the state
abbrev pub look_of : Flat → ℕ → PartRow → PartitionLook
look_of f id row = record {
  life = row.life;
  mask = row.mask;
  parent = row.parent;
  depth = depth f id;
  pooled = pooled_count f id;
  in_use = in_use f id;
  children = child_count f id;
  vps = vp_count f id;
  ports = port_count f id;
  conns = conn_count f id;
}

abbrev pub partition_seen : Flat → ℕ → Option PartitionLook
partition_seen f id = option_map (look_of f id) (get f.part id)

-- the least id above `previous` among a partition's children, 0 if there is none; `None` if the partition
-- does not exist
abbrev pub child_seen : Flat → ℕ → ℕ → Option ℕ
child_seen f parent previous = option_map (λ row. next_child f parent previous) (get f.part parent)

-- the partition that has a page
abbrev pub owner_seen : Flat → ℕ → Option ℕ
owner_seen f page = option_map (λ row. row.owner) (get f.page page)

-- a mask as EAX to EDX of CPUID leaf 0x40000003: its low half, its high half, 0 and 0
abbrev pub leaf_of : Privileges → List ℕ
leaf_of mask = bits_of mask % 2 ^ 32 ∷ bits_of mask / 2 ^ 32 ∷ 0 ∷ 0 ∷ []

abbrev pub features_seen : Flat → ℕ → Option (List ℕ)
features_seen f id = option_map (λ row. leaf_of row.mask) (get f.part id)
