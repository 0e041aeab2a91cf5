-- The values of a flat state that calls and accesses read for their outputs. A missing value reads as 0.
use Rattle.std.specs.Prelude.{ℕ, ◌&&◌, Bool, false, nat_lt, List, find, Option, None, Some}
use Rattle.std.specs.FinMap.{get, entries}
use Rattle.std.specs.FinSet as set
use Rattle.std.specs.Option.{option_map_or}
use Rattle.hv_defs.specs.Flags.{flag_bytes}
use Rattle.hv_defs.specs.Slot.{zeros}
use Rattle.hv_defs.specs.Vectors.{highest}
use Rattle.hv_policy.specs.Count.{is_parent}
use Rattle.hv_policy.specs.Flat.{Flat, PartRow, VpRow}
use Rattle.hv_policy.specs.Property.{property_value}
use Rattle.hv_policy.specs.declared.property.Property.{Property}

abbrev pub first_id : Option (ℕ × PartRow) → ℕ
first_id e = option_map_or (λ e. e.0) e 0

-- the lowest id above `previous` among the children of `parent`, or 0 if there is none. Ids are in rising
-- order
abbrev pub next_child : Flat → ℕ → ℕ → ℕ
next_child f parent previous = first_id (find (λ e. is_parent parent e.1.parent && nat_lt previous e.0)
    (entries f.part))

abbrev pub page_or_0 : Option ℕ → ℕ
page_or_0 page = option_map_or (λ page. page) page 0

-- the value of a property in a partition's row, or 0 if either is missing
abbrev pub value_of : Option Property → Option PartRow → ℕ
value_of None row = 0
value_of (Some property) None = 0
value_of (Some property) (Some row) = property_value property row

-- the value of a register of the processor with this row, or 0 if either is missing
abbrev pub register_of : Option VpRow → ℕ → ℕ
register_of row name = option_map_or (λ row. option_map_or (λ value. value) (get row.registers name) 0) row 0

-- the value of a model-specific register of that processor, by the register's name in a call
abbrev pub msr_of : Option VpRow → Option ℕ → ℕ
msr_of row name = option_map_or (register_of row) name 0

-- whether an event flag is set at the processor with this row, and whether a vector is pending there
abbrev pub has_flag : Option VpRow → ℕ → ℕ → Bool
has_flag None sint flag = false
has_flag (Some row) sint flag = set.contains row.flags (sint, flag)

abbrev pub has_vector : Option VpRow → ℕ → Bool
has_vector None vector = false
has_vector (Some row) vector = set.contains row.pending vector

-- the bytes of the event flags of a SINT of the processor with this row, or zeros if it is missing
abbrev pub flags_at : Option VpRow → ℕ → List ℕ
flags_at row sint = option_map_or (λ row. flag_bytes row.flags sint) row (zeros 256)

-- the highest pending vector, or 0 if none is pending
abbrev pub vector_of : Option VpRow → ℕ
vector_of row = option_map_or (λ row. option_map_or (λ vector. vector) (highest row.pending) 0) row 0
