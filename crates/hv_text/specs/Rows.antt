-- The bytes of a table, over the rows of the tree and the counts that these keep.
use Rattle.std.specs.Prelude.{ℕ, ◌+◌, List, [], ◌∷◌, length, map}
use Rattle.std.specs.FinMap as map
use Rattle.std.specs.FinSet as set
use Rattle.hv_partition.specs.Partition.{PartitionState, in_use}
use Rattle.hv_admit.specs.Tie.{part_row}
use Rattle.hv_tree.specs.Rows.{Row, Rows, children}
use Rattle.hv_text.specs.Table.{Counts, Line, text_of}

-- the counts of a partition with this number of children
abbrev pub kept_counts : ℕ → PartitionState → Counts
kept_counts children p = record {
  loose = set.len p.loose.pages;
  pooled = set.len p.pooled.pages;
  in_use = in_use children p;
  vps = map.len p.vps.vps;
  ports = map.len p.ports.rows;
  conns = map.len p.conns.rows;
}

-- a partition of a tree, as its line shows it
abbrev pub row_line : Rows PartitionState → ℕ × Row PartitionState → Line
row_line tree e = (e.0, (part_row e.1, kept_counts (length (children tree e.0)) e.1.1))

-- the number of pages of a partition, and of these rows of a tree
abbrev pub pages_of : PartitionState → ℕ
pages_of p = set.len p.loose.pages + set.len p.pooled.pages

abbrev pub pages_in : List (ℕ × Row PartitionState) → ℕ
pages_in [] = 0
pages_in (row ∷ rows) = pages_of row.1.1 + pages_in rows

-- the table of a tree
unfoldable pub rows_text : Rows PartitionState → List ℕ
rows_text tree = text_of (map (row_line tree) (map.entries tree)) (pages_in (map.entries tree))
