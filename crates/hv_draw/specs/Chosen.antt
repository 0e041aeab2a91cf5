-- The graph of a choice: a partition and those above it.
use Rattle.std.specs.Prelude.{ℕ, ◌≡◌, ◌↔◌, ◌-◌, Bool, true, List, ◌++◌, length, codes, decimal}
use Rattle.std.specs.FinMap.{keys}
use Rattle.std.specs.List.{filter}
use Rattle.std.specs.declared.alloc.Global.{Global}
use Rattle.hv_admit.specs.Room.{roomless}
use Rattle.hv_history.specs.Kept.{Kept}
use Rattle.hv_partition.specs.Partition.{PartitionState}
use Rattle.hv_tree.specs.Rows.{Rows}
use Rattle.hv_tree.specs.Subtree.{IsInSubtree}
use Rattle.hv_draw.specs.Graph.{AreBlocks, end_text, head_text, rows_in}
use Rattle.hv_draw.specs.declared.choice.Only.{Only}

-- of these ids, those of a partition and of the partitions above it, in their order
pub record AreAbove (tree : Rows PartitionState) (part : ℕ) (ids above : List ℕ) : Type 0 where
  pub is_above : ℕ → Bool
  pub exact : (id : ℕ) → (is_above id ≡ true) ↔ IsInSubtree tree id part
  pub all : above ≡ filter is_above ids

-- the beginning of the note on what is left out: the number of partitions
abbrev pub left_text : ℕ → List ℕ
left_text partitions = codes "  x [label=\"left out\\npartitions: " ++ decimal partitions

-- the text gains this note
pub record HasNote (partitions : ℕ) (old new : List ℕ) : Type 0 where
  pub more : List ℕ
  pub added : new ≡ old ++ left_text partitions ++ more

-- the text is the graph of a choice: the head of the whole graph, the block of the chosen partition and of
-- each one above it, by rising id, some text after the blocks, the note with the number of all others, and
-- the end
pub record IsChosenGraph (only : Only) (kept : Kept Global) (text : List ℕ) : Type 0 where
  pub tree : Rows PartitionState
  pub shown : roomless tree ≡ kept.machine.rows
  pub above : List ℕ
  pub chosen : AreAbove tree only.part (keys tree) above
  pub blocks : List ℕ
  pub are : AreBlocks tree (rows_in tree above) blocks
  pub behind : List ℕ
  pub more : List ℕ
  pub all : text ≡ head_text (length (keys tree)) ++ blocks ++ behind ++ left_text
      (length (keys tree) - length above) ++ more ++ end_text (length kept.history)
