-- A merge of the runs of blocks with those of others, in the memory of the blocks.
use Rattle.std.specs.Prelude.{◌≡◌, ◌⊎◌, ℕ, ◌+◌, ◌*◌, ◌<◌, ◌≤◌, List, ◌∷◌, ◌++◌, length, take, drop, All}
use Rattle.hv_pages.specs.declared.blocks.Place.{Place}
use Rattle.hv_pages.specs.declared.merge.Written.{Written}
use Rattle.hv_pages.specs.declared.runs.Run.{Run}
use Rattle.hv_pages.specs.Blocks.{Block, IsBlock, IsPlaceOrEnd, flat}
use Rattle.hv_pages.specs.Runs.{AreRuns, run_pages, spread}

-- the runs from a place on
abbrev pub left : List Block → Place → List Run
left blocks place = drop place.at (flat (drop place.block blocks))

-- the number of places before a place, if each block has 256
abbrev pub places_before : Place → ℕ
places_before place = 256 * place.block + place.at

-- there is a run at the place, or it is the end, and the blocks from there on have runs
pub record IsCursor (blocks : List Block) (place : Place) : Type 0 where
  pub inside : IsPlaceOrEnd blocks place
  pub each : All IsBlock (drop place.block blocks)

-- the first of the runs, if there are any, does not begin above the page
abbrev pub BeginsBelow : List Run → ℕ → Type 0
BeginsBelow runs page = All (λ (run : Run). run.first ≤ page) (take 1 runs)

-- a run is taken from the first of two lists, and doesn't begin below those of the second
pub record IsTaken (run : Run) (old new others others_new : List Run) : Type 0 where
  pub taken : old ≡ run ∷ new
  pub same : others_new ≡ others
  pub above : BeginsBelow others run.first

-- the higher of the first runs of two lists is taken
abbrev pub IsNext : Run → List Run → List Run → List Run → List Run → Type 0
IsNext run old new others others_new = IsTaken run old new others others_new
    ⊎ IsTaken run others others_new old new

-- the runs that are written
abbrev pub written : List Block → Written → List Run
written blocks w = flat (take w.full blocks) ++ w.last.items

-- the number of runs that are written
abbrev pub count_of : Written → ℕ
count_of w = 256 * w.full + length w.last.items

-- the blocks that are written are full, and the next one has runs once there are any
pub record IsWritten (blocks : List Block) (w : Written) : Type 0 where
  pub within : w.full ≤ length blocks
  pub full : All (λ block. length block.items ≡ 256) (take w.full blocks)
  pub few : length w.last.items ≤ 256
  pub begun : length w.last.items ≡ 0 → w.full ≡ 0

-- the run is below each of the runs, and shares no page with it
abbrev pub IsUnder : List Run → Run → Type 0
IsUnder uppers run = All (λ (upper : Run). run.last < upper.first) uppers

-- a run is added below the others, and joins the last one if they touch
pub record IsPushed (old : List Run) (run : Run) (new : List Run) : Type 0 where
  pub runs : AreRuns new
  pub from : All (λ (upper : Run). run.first ≤ upper.first) new
  pub pages : spread new ≡ spread old ++ run_pages run
