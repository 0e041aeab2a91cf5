-- Equality of rows up to the room of their page sets, processors, ports and connections.
use Rattle.std.specs.Prelude.{◌≡◌, ℕ, map, option_map}
use Rattle.std.specs.FinMap.{get, entries, from_entries}
use Rattle.hv_partition.specs.Partition.{PartitionState}
use Rattle.hv_tree.specs.Rows.{Row, Rows}

-- a row with all its room set to 0
abbrev pub bare : Row PartitionState → Row PartitionState
bare r = (
  r.0,
  record r.1 {
    loose = record r.1.loose { room = 0 };
    pooled = record r.1.pooled { room = 0 };
    vps = record r.1.vps { room = 0 };
    ports = record r.1.ports { room = 0 };
    conns = record r.1.conns { room = 0 };
  },
)

-- the old and the new rows are equal up to room
abbrev pub IsSameButRoom : Rows PartitionState → Rows PartitionState → Type 0
IsSameButRoom old new = (id : ℕ) → option_map bare (get new id) ≡ option_map bare (get old id)

-- the rows, each with all its room set to 0
abbrev pub roomless : Rows PartitionState → Rows PartitionState
roomless rows = from_entries (map (λ e. (e.0, bare e.1)) (entries rows))
