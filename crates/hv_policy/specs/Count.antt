-- Counts in a flat state, each over all rows.
use Rattle.std.specs.Prelude.{ℕ, zero, suc, ◌+◌, ◌*◌, ◌-◌, ◌==◌, ◌&&◌, Bool, false, Option, None, Some}
use Rattle.std.specs.Prelude.{count_by, find, option_and_then, option_map}
use Rattle.std.specs.FinMap.{get, entries}
use Rattle.std.specs.Option.{option_map_or}
use Rattle.hv_defs.specs.declared.sizes.TheConstants.{PARTITION_CHARGE, VP_CHARGE, PORT_CHARGE}
use Rattle.hv_defs.specs.declared.sizes.TheConstants.{CONNECTION_CHARGE}
use Rattle.hv_policy.specs.Flat.{Flat}

-- whether a parent is this partition
abbrev pub is_parent : ℕ → Option ℕ → Bool
is_parent id parent = option_map_or (λ parent. parent == id) parent false

-- the number of a partition's children
abbrev pub child_count : Flat → ℕ → ℕ
child_count f id = count_by (λ e. is_parent id e.1.parent) (entries f.part)

-- the numbers of its virtual processors, ports and connections
abbrev pub vp_count : Flat → ℕ → ℕ
vp_count f id = count_by (λ e. e.0.0 == id) (entries f.vp)

abbrev pub port_count : Flat → ℕ → ℕ
port_count f id = count_by (λ e. e.0.0 == id) (entries f.port)

abbrev pub conn_count : Flat → ℕ → ℕ
conn_count f id = count_by (λ e. e.0.0 == id) (entries f.conn)

-- the number of pages in its pool
abbrev pub pooled_count : Flat → ℕ → ℕ
pooled_count f id = count_by (λ e. (e.1.owner == id) && e.1.pooled) (entries f.page)

abbrev pub number_of : {X : Type 0} → Option (ℕ × X) → Option ℕ
number_of e = option_map (λ e. e.0) e

-- its lowest pooled page, if it has one. Pages are in rising order
abbrev pub lowest_pooled : Flat → ℕ → Option ℕ
lowest_pooled f id = number_of (find (λ e. (e.1.owner == id) && e.1.pooled) (entries f.page))

-- the number of pages that it uses
abbrev pub in_use : Flat → ℕ → ℕ
in_use f id =
    PARTITION_CHARGE * child_count f id + VP_CHARGE * vp_count f id + PORT_CHARGE * port_count f id
    + CONNECTION_CHARGE * conn_count f id

-- the number of pages of its pool that it may still use
abbrev pub available : Flat → ℕ → ℕ
available f id = pooled_count f id - in_use f id

-- the parent of a partition, if it has one
abbrev pub parent_of : Flat → ℕ → Option ℕ
parent_of f id = option_and_then (λ row. row.parent) (get f.part id)

abbrev pub one_more : (ℕ → ℕ) → Option ℕ → ℕ
one_more depth_of None = 0
one_more depth_of (Some parent) = 1 + depth_of parent

-- the number of a partition's ancestors, counted in at most this many steps up
abbrev pub depth_within : ℕ → Flat → ℕ → ℕ
depth_within zero f id = 0
depth_within (suc steps) f id = one_more (depth_within steps f) (parent_of f id)

-- the depth of a partition: 0 without a parent, else one more than its parent's. A parent's id is below its
-- child's, so `id` steps reach the root
abbrev pub depth : Flat → ℕ → ℕ
depth f id = depth_within id f id
