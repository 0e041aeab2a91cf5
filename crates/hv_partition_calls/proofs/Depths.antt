-- How many partitions stand above one, in a state that a machine stands for.
use Rattle.std.proofs.Common.{◌≡◌, ℕ, zero, suc, ◌+◌, ◌≤◌, ◌<◌, Option, Some, None, is_some, IfSome, refl, sym, ap, ◌∙◌, arith, option_map, option_and_then}
use Rattle.std.specs.FinMap.{get, contains_key}
use Rattle.hv_partition.specs.Partition.{PartitionState}
use Rattle.hv_policy.specs.Count.{parent_of, one_more, depth_within, depth}
use Rattle.hv_policy.specs.Flat.{Flat}
use Rattle.hv_tree.specs.Rows.{Row, Rows, parent, HasDepth}
use Rattle.hv_admit.specs.Tie.{Refines, part_row}

parent_in : (r : Option (Row PartitionState)) → option_and_then (λ row. row.parent) (option_map part_row r) ≡ option_and_then (λ r. r.0) r
parent_in None = refl
parent_in (Some r) = refl

rootless : (r : Option (Row PartitionState)) → option_map (λ r. r.0) r ≡ Some None → option_and_then (λ r. r.0) r ≡ None
rootless None e = refl
rootless (Some r) e = cc

module _ (rows : Rows PartitionState) (f : Flat) (flat : Refines rows f) (above : (id p : ℕ) → parent rows id ≡ Some p → p < id) where
  parent_is : (id : ℕ) → parent_of f id ≡ parent rows id
  parent_is id = ap (option_and_then (λ row. row.parent)) (flat.rows id).part ∙ parent_in (get rows id)

  depth_is : (steps id d : ℕ) → id ≤ steps → HasDepth rows id d → depth_within steps f id ≡ d
  depth_is zero id zero le h = refl
  depth_is (suc steps) id zero le h = ap (one_more (depth_within steps f)) (parent_is id ∙ rootless (get rows id) h)
  depth_is zero id (suc d) le (p, e, h) = absurd (let lt = above id p e in omega arith)
  depth_is (suc steps) id (suc d) le (p, e, h) =
      let rest = depth_is steps p d (let lt = above id p e in omega arith) h in
      ap (one_more (depth_within steps f)) (parent_is id ∙ e) ∙ ap (λ n. 1 + n) rest ∙ (omega arith)

  pub has_depth : (id d : ℕ) → HasDepth rows id d → depth f id ≡ d
  has_depth id d h = depth_is id id d (omega arith) h

  -- the depth that the tree tells, if the partition is there
  pub told_depth : (id : ℕ) (told : Option ℕ) → is_some told ≡ contains_key rows id → IfSome told (HasDepth rows id) → told ≡ option_map (λ row. depth f id) (get f.part id)
  told_depth id told there h = by told (get rows id) there h (flat.rows id).part
    where
      by : (told : Option ℕ) (r : Option (Row PartitionState)) → is_some told ≡ is_some r → IfSome told (HasDepth rows id) → get f.part id ≡ option_map part_row r → told ≡ option_map
          (λ row. depth f id) (get f.part id)
      by None None there h is = rw is refl
      by None (Some r) there h is = cc
      by (Some d) None there h is = cc
      by (Some d) (Some r) there h is = rw is (ap Some (sym (has_depth id d h)))
