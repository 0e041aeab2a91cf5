-- Slots in blocks of at most 16, each an id with its row.
use Rattle.std.specs.Prelude.{◌≡◌, ℕ, ◌+◌, ◌<◌, ◌≤◌, List, length, take, All, AllPairs, Option, Vec}
use Rattle.std.specs.Prelude.{IfSome, vec_len, vec_capacity, flat_map, slice_index_or}
use Rattle.hv_ports.specs.declared.blocks.Place.{Place}
use Rattle.hv_ports.specs.declared.table.TheConstants.{MOST}

-- each id is below all later ones
abbrev pub IsRising : {R : Type 0} → List (ℕ × R) → Type 0
IsRising slots = AllPairs (λ slot later. slot.0 < later.0) slots

abbrev pub Block : Type 0 → Type 0 → Type 0
Block R A = Vec (ℕ × R) A

module _ {R A : Type 0} where
  -- the slots of all blocks, one block after another
  abbrev pub flat : List (Block R A) → List (ℕ × R)
  flat blocks = flat_map (λ block. block.items) blocks

  -- the first slot of a block that has one
  abbrev pub first_of : Block R A → ℕ × R → ℕ × R
  first_of block s = slice_index_or block.items 0 s

  -- a block has 1 to 16 slots, and memory for 16
  abbrev pub IsBlock : Block R A → Type 0
  IsBlock block = (1 ≤ length block.items) × (length block.items ≤ 16) × (16 ≤ vec_capacity block)

  -- the number of slots before a place
  abbrev pub before : List (Block R A) → Place → ℕ
  before blocks place = length (flat (take place.block blocks)) + place.at

  -- there is a slot at a place
  abbrev pub IsPlace : List (Block R A) → Place → Type 0
  IsPlace blocks place = (place.block < length blocks)
      × ((block : Block R A) → place.at < length (slice_index_or blocks place.block block).items)

  -- a slot can come to a place: in a block, or behind all blocks
  abbrev pub IsPlaceOrEnd : List (Block R A) → Place → Type 0
  IsPlaceOrEnd blocks place = (place.block ≤ length blocks)
      × (place.block < length blocks → (block : Block R A) → place.at ≤ length
      (slice_index_or blocks place.block block).items)
      × (length blocks ≤ place.block → place.at ≡ 0)

  -- a block without slots, with memory for 16
  abbrev pub IsBlank : Block R A → Type 0
  IsBlank block = (length block.items ≡ 0) × (16 ≤ vec_capacity block)

  -- the invariant: each block has slots, the ids rise through all blocks, the count is right, and a spare
  -- block finds a place
  pub record AreBlocks (blocks : Vec (Block R A) A) (spare : Option (Block R A)) (count : ℕ) : Type 0 where
    pub each : All IsBlock blocks.items
    pub rising : IsRising (flat blocks.items)
    pub counted : count ≡ length (flat blocks.items)
    pub few : count ≤ MOST
    pub blank : IfSome spare IsBlank
    pub fits : IfSome spare (λ _. vec_len blocks < vec_capacity blocks)
