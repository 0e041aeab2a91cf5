-- The text of a graph.
use Rattle.std.specs.Prelude.{ℕ, ◌≡◌, ◌==◌, List, [], ◌∷◌, ◌++◌, length, codes, decimal, Option, None, Some}
use Rattle.std.specs.Prelude.{if◌then◌else◌, nat_lt}
use Rattle.std.specs.FinMap.{get}
use Rattle.std.specs.FinSet as set
use Rattle.std.specs.Option.{option_map_or}
use Rattle.hv_defs.specs.declared.life.Life.{Life}
use Rattle.hv_defs.specs.declared.life.Life.TheVariants.{Created, Active, Finalized}
use Rattle.hv_partition.specs.Partition.{PartitionState, in_use}
use Rattle.hv_privs.specs.Privileges.{bits_of}
use Rattle.hv_tree.specs.Rows.{HasDepth, Row, Rows, children}
use Rattle.hv_text.specs.Audit.{hex_64}
use Rattle.hv_text.specs.Table.{life_text}

-- the direction of a graph of this many partitions: from left to right if there are more than 8, and
-- otherwise from top to bottom
abbrev pub direction_text : ℕ → List ℕ
direction_text partitions = if nat_lt 8 partitions then codes "  rankdir=LR;\n" else []

-- the head of a graph of this many partitions: its direction and its style
abbrev pub head_text : ℕ → List ℕ
head_text partitions =
    codes "digraph hvpm {\n  graph [newrank=true style=rounded color=gray];\n" ++ direction_text partitions ++
    codes "  node [fontname=\"Helvetica\" fontsize=10 shape=box];\n"
    ++ codes "  edge [fontname=\"Helvetica\" fontsize=9];\n"

-- after a number of events
abbrev pub events_text : ℕ → List ℕ
events_text events = if events == 1 then codes " event" else codes " events"

-- the end of a graph, with its title: the number of events before this state
abbrev pub end_text : ℕ → List ℕ
end_text events =
    codes "  label=\"after " ++ decimal events ++ events_text events
    ++ codes "\" labelloc=t fontname=\"Helvetica\";\n}\n"

-- the edge from a parent; the root has none
abbrev pub edge_text : Option ℕ → ℕ → List ℕ
edge_text None id = []
edge_text (Some parent) id = codes "  p" ++ decimal parent ++ codes " -> p" ++ decimal id ++ codes ";\n"

-- the beginning of a cluster, up to the name of its first node, which is the partition's
abbrev pub opening_text : ℕ → List ℕ
opening_text id = codes "  subgraph cluster_" ++ decimal id ++ codes " {\n    p" ++ decimal id

-- the label of that node: the partition's id and its life state, ..
abbrev pub name_text : ℕ → PartitionState → List ℕ
name_text id p = codes " [label=\"partition " ++ decimal id ++ codes "\\n" ++ life_text p.life

-- .. its depth and its mask, ..
abbrev pub rank_text : ℕ → PartitionState → List ℕ
rank_text depth p = codes ", depth " ++ decimal depth ++ codes "\\nmask 0x" ++ hex_64 (bits_of p.mask)

-- .. the number of its pages, ..
abbrev pub pages_text : PartitionState → List ℕ
pages_text p = codes "\\npages: " ++ decimal (set.len p.loose.pages) ++ codes " loose, " ++ decimal
    (set.len p.pooled.pages)

-- .. and the number of them in use, with this number of children ..
abbrev pub use_text : ℕ → PartitionState → List ℕ
use_text children p = codes " pooled, " ++ decimal (in_use children p) ++ codes " in use\""

-- .. and its color, which tells its life state
abbrev pub color_text : Life → List ℕ
color_text Created = codes "lightyellow"
color_text Active = codes "palegreen"
color_text Finalized = codes "gray60"

abbrev pub fill_text : PartitionState → List ℕ
fill_text p = codes " style=filled fillcolor=" ++ color_text p.life ++ codes "];\n"

-- the edge to a partition and its node, with this depth and this number of children
abbrev pub node_text : ℕ → ℕ → ℕ → Row PartitionState → List ℕ
node_text id depth children row =
    edge_text row.0 id ++ opening_text id ++ name_text id row.1 ++ rank_text depth row.1 ++ pages_text row.1
    ++ use_text children row.1 ++ fill_text row.1

-- the block of a partition begins with its edge and its node
pub record IsBlock (tree : Rows PartitionState) (e : ℕ × Row PartitionState) (block : List ℕ) : Type 0 where
  pub depth : ℕ
  pub is_depth : HasDepth tree e.0 depth
  pub more : List ℕ
  pub all : block ≡ node_text e.0 depth (length (children tree e.0)) e.1 ++ more

-- the blocks of partitions, one after another
abbrev pub AreBlocks : Rows PartitionState → List (ℕ × Row PartitionState) → List ℕ → Type 0
AreBlocks tree [] text = text ≡ []
AreBlocks tree (e ∷ es) text =
    (own : List ℕ) × (rest : List ℕ) × (text ≡ own ++ rest) × IsBlock tree e own × AreBlocks tree es rest

-- the text gains the block of a partition
pub record HasBlock (tree : Rows PartitionState) (e : ℕ × Row PartitionState) (old new : List ℕ) : Type 0
  where
    pub own : List ℕ
    pub block : IsBlock tree e own
    pub added : new ≡ old ++ own

-- the text gains the blocks of these partitions
pub record HasBlocks (tree : Rows PartitionState) (rows : List (ℕ × Row PartitionState)) (old new : List ℕ) :
    Type 0 where
  pub own : List ℕ
  pub blocks : AreBlocks tree rows own
  pub added : new ≡ old ++ own

-- the rows with these ids, in this order
abbrev pub rows_in : Rows PartitionState → List ℕ → List (ℕ × Row PartitionState)
rows_in tree [] = []
rows_in tree (id ∷ ids) = option_map_or (λ row. (id, row) ∷ rows_in tree ids) (get tree id) (rows_in tree ids)
