-- The graph of a choice.
use Rattle.std.proofs.Common.{◌≡◌, ℕ, ◌-◌, List, ◌++◌, All, sym, append_assoc, codes, decimal, length, ap, ◌∙◌, subst, Global}
use Rattle.hv_admit.specs.Room.{roomless}
use Rattle.hv_history.specs.Kept.{Kept}
use Rattle.hv_partition.specs.Partition.{PartitionState}
use Rattle.hv_tree.specs.Rows.{Rows}
use Rattle.std.specs.FinMap.{get, keys}
use Rattle.std.specs.Option.{IsSome}
use Rattle.std.proofs.lemmas.List.Elements.{All-filter}
use Rattle.hv_draw.proofs.Blocks.{all_there}
use Rattle.hv_draw.specs.Chosen.{AreAbove, HasNote, IsChosenGraph, left_text}
use Rattle.hv_draw.specs.Graph.{HasBlocks, end_text, head_text, rows_in}
use Rattle.hv_draw.specs.declared.choice.Only.{Only}

-- the graph of a choice, with what stands behind its blocks and its note
pub chosen_of : (only : Only) (kept : Kept Global) (tree : Rows PartitionState) (ids above : List ℕ) (count left events : ℕ) (t0 t1 t2 t3 t4 links : List ℕ) → roomless tree ≡ kept.machine.rows
    → ids ≡ keys tree → AreAbove tree only.part ids above → count ≡ length ids → left ≡ count - length above → events ≡ length kept.history → t0 ≡ head_text count
    → HasBlocks tree (rows_in tree above) t0 t1 → t2 ≡ t1 ++ links → HasNote left t2 t3 → t4 ≡ t3 ++ end_text events → IsChosenGraph only kept t4
chosen_of only kept tree ids above count left events t0 t1 t2 t3 t4 links shown are chosen many rest all head has e2 note e4 = record {
  tree = tree;
  shown = shown;
  above = above;
  chosen = subst (λ ids. AreAbove tree only.part ids above) are chosen;
  blocks = has.own;
  are = has.blocks;
  behind = links;
  more = note.more;
  all = e4 ∙ ap (λ (l : List ℕ). l ++ end_text events) (note.added ∙ ap (λ (l : List ℕ). l ++ left_text left ++ note.more) (e2 ∙ ap (λ (l : List ℕ). l ++ links) has.added))
      ∙ ap (λ (l : List ℕ). l ++ has.own ++ links ++ left_text left ++ note.more ++ end_text events) head
      ∙ ap (λ (n : ℕ). head_text count ++ has.own ++ links ++ left_text n ++ note.more ++ end_text events) rest
      ∙ ap (λ (n : ℕ). head_text n ++ has.own ++ links ++ left_text (n - length above) ++ note.more ++ end_text events) (many ∙ ap (length {A = ℕ}) are)
      ∙ ap (λ (n : ℕ). head_text (length (keys tree)) ++ has.own ++ links ++ left_text (length (keys tree) - length above) ++ note.more ++ end_text n) all;
}

-- the note is its beginning, the number of partitions and more
pub note_of : (t0 t1 t2 t3 more : List ℕ) (partitions : ℕ) → t1 ≡ t0 ++ codes "  x [label=\"left out\\npartitions: " → t2 ≡ t1 ++ decimal partitions → t3 ≡ t2 ++ more → HasNote partitions t0 t3
note_of t0 t1 t2 t3 more partitions e1 e2 e3 =
    let mark = codes "  x [label=\"left out\\npartitions: " in
    record { more = more; added = e3 ∙ ap (λ (l : List ℕ). l ++ more) (e2 ∙ ap (λ (l : List ℕ). l ++ decimal partitions) e1 ∙ append_assoc t0 mark (decimal partitions)) }

-- each partition of the graph is there
pub all_shown : (tree : Rows PartitionState) (part : ℕ) (ids above : List ℕ) → ids ≡ keys tree → AreAbove tree part ids above → All (λ id. IsSome (get tree id)) above
all_shown tree part ids above are chosen =
    let P : ℕ → Type 0 = λ id. IsSome (get tree id) in
    subst (All P) (sym chosen.all) (All-filter chosen.is_above P ids (all_there tree ids are))
