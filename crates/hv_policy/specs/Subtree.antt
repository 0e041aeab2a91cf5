-- The subtree of a partition: that partition itself, and all of its descendants.
use Rattle.std.specs.Prelude.{◌≡◌, ℕ, zero, suc, ◌==◌, ◌||◌, Bool, false, Option, Some}
use Rattle.std.specs.Option.{option_map_or}
use Rattle.hv_policy.specs.Count.{parent_of}
use Rattle.hv_policy.specs.Flat.{Flat}

-- this many steps up, each from a partition to its parent, lead from `id` to `top`
abbrev pub LeadsUp : (ℕ → Option ℕ) → ℕ → ℕ → ℕ → Type 0
LeadsUp parent_of top zero id = id ≡ top
LeadsUp parent_of top (suc steps) id = (parent : ℕ) × (parent_of id ≡ Some parent) × LeadsUp parent_of top
    steps parent

-- a partition is in the subtree of another: a chain of parents leads from it to that one
abbrev pub IsInSubtree : Flat → ℕ → ℕ → Type 0
IsInSubtree f top id = (steps : ℕ) × LeadsUp (parent_of f) top steps id

-- at most this many steps up lead from `id` to `top`, as a test
abbrev pub leads_within : ℕ → (ℕ → Option ℕ) → ℕ → ℕ → Bool
leads_within zero parent_of top id = id == top
leads_within (suc steps) parent_of top id = (id == top) || option_map_or (leads_within steps parent_of top)
    (parent_of id) false

-- `IsInSubtree` as a test. A parent's id is below its child's, so `id` steps reach the root
abbrev pub is_in_subtree : Flat → ℕ → ℕ → Bool
is_in_subtree f top id = leads_within id (parent_of f) top id
