-- Lists of runs: at most 8 in the list itself, or any number in blocks.
use Rattle.std.specs.Prelude.{[], ◌∷◌, ◌≡◌, ℕ, ◌+◌, ◌≤◌, ◌++◌, List, length, take, drop, slice_index_or}
use Rattle.hv_pages.specs.declared.runs.Run.{Run}
use Rattle.hv_pages.specs.declared.blocks.Place.{Place}
use Rattle.hv_pages.specs.declared.run_list.RunList.{RunList}
use Rattle.hv_pages.specs.Blocks.{Block, AreBlocks, IsPlace, IsPlaceOrEnd, before, flat}

-- few runs as a block, if there are any
abbrev pub as_block : List Run → List Block
as_block [] = []
as_block (run ∷ runs) = record { items = run ∷ runs } ∷ []

module _ {A : Type 0} where
  -- the blocks, of which few runs are one
  abbrev pub blocks_in : RunList A → List Block
  blocks_in s = as_block s.few.items ++ s.blocks.blocks.items

  -- all runs, one block after another
  abbrev pub runs_in : RunList A → List Run
  runs_in s = flat (blocks_in s)

  -- the number of further runs that are sure to find a place
  abbrev pub room_of : RunList A → ℕ
  room_of s = s.spare + s.blocks.room

  -- the position of a place among all runs
  abbrev pub index_of : RunList A → Place → ℕ
  index_of s place = before (blocks_in s) place

  -- the runs above a place, and those from it on
  abbrev pub runs_above : RunList A → Place → List Run
  runs_above s place = take (index_of s place) (runs_in s)

  abbrev pub runs_from : RunList A → Place → List Run
  runs_from s place = drop (index_of s place) (runs_in s)

  -- the run at a place that has one
  abbrev pub run_at : RunList A → Place → Run → Run
  run_at s place r = slice_index_or (runs_in s) (index_of s place) r

  -- there is a run at a place
  abbrev pub HasRun : RunList A → Place → Type 0
  HasRun s place = IsPlace (blocks_in s) place

  -- there is a run at a place, or it is the end
  abbrev pub HasPlace : RunList A → Place → Type 0
  HasPlace s place = IsPlaceOrEnd (blocks_in s) place

  -- the few runs and those that may come to them are at most 8, and there are no blocks beside them
  pub record AreFew (s : RunList A) : Type 0 where
    pub fits : length s.few.items + s.spare ≤ 8
    pub alone : 1 ≤ length s.few.items + s.spare → s.blocks.blocks.items ≡ []

  -- the invariant: also, the blocks are in order, and only one of the two has room
  pub record AreKept (s : RunList A) : Type 0 where
    pub few : AreFew s
    pub blocks : AreBlocks s.blocks
    pub one : 1 ≤ length s.few.items + s.spare → s.blocks.room ≡ 0
