-- What the model counts over all rows, in a state that the tree is tied to.
use Rattle.std.proofs.Common.{◌≡◌, ℕ, ◌==◌, Bool, true, ◌&&◌, List, [], ◌∷◌, length, Option, Some, is_some, refl, sym, ap, ◌∙◌, arith, inl, inr, filter, count_by, option_map, option_and_then}
use Rattle.std.proofs.Common.{nat_cmp}
use Rattle.std.proofs.lemmas.List.{length-map}
use Rattle.std.proofs.lemmas.Bool.{cases_Bool}
use Rattle.std.proofs.lemmas.Map.Made.{IsDistinct-keys_filter}
use Rattle.std.specs.Cmp.{nat_cmp_total}
use Rattle.std.specs.FinMap as map
use Rattle.std.specs.FinMap.{FinMap, contains_key-keys, get, get-entries, entries, entries_sorted, keys, len-entries, nat_cmp-IsAntisymmetric}
use Rattle.std.specs.FinSet as set
use Rattle.std.specs.Map.{keys_of}
use Rattle.std.specs.Ordering.{eq_by_cmp}
use Rattle.hv_defs.proofs.Counts.{passes, passing_keys, count_by-keys, count_by-set, distinct_keys, len-from_list}
use Rattle.hv_partition.specs.Partition.{PartitionState, in_use as uses, available as may_use}
use Rattle.hv_policy.proofs.Pairs.{count_by-pairs}
use Rattle.hv_policy.specs.Count.{is_parent, child_count, vp_count, port_count, conn_count, pooled_count, in_use, available}
use Rattle.hv_defs.specs.Flags.{pair_cmp}
use Rattle.hv_policy.specs.Flat.{Flat, PageRow}
use Rattle.hv_tree.specs.Rows as tree
use Rattle.hv_tree.specs.Rows.{Row, Rows, children, children_in, parent}
use Rattle.hv_admit.specs.Tie.{Refines, conn_row, conn_row_of, is_held, holds, part_row, port_row, port_row_of, vp_row, vp_row_of}

-- the children of a row are the keys of the rows that name it
children_keys : {C : Type 0} (id : ℕ) (es : List (ℕ × (Option ℕ × C))) → children_in id es ≡ keys_of (filter (λ e. tree.is_parent id e.1.0) es)
children_keys id [] = refl
children_keys id (e ∷ es) = elim (cases_Bool (tree.is_parent id e.1.0)) [
  | inl s ↦ rw s (ap (λ ks. e.0 ∷ ks) (children_keys id es))
  | inr s ↦ rw s (children_keys id es)
]

pub named : (id : ℕ) (o : Option ℕ) → is_parent id o ≡ true → o ≡ Some id
named id o e = grind arith

module _ {X : Type 0} (id : ℕ) (m : FinMap pair_cmp X) where
  -- where a map has under an id what a partition holds by its numbers, it has as many rows there
  count_by-numbers : {Y : Type 0} (g : Y → X) (held : FinMap nat_cmp Y) → ((i : ℕ) → get m (id, i) ≡ option_map g (get held i)) → count_by (λ e. e.0.0 == id) (entries m) ≡ map.len held
  count_by-numbers {Y} g held alike =
      count_by-pairs id m (set.from_list (keys held)) (λ i. ap (passes {K = ℕ × ℕ} (λ e. e.0.0 == id) (id, i)) (alike i) ∙ by i (get held i) ∙ contains_key-keys held i ∙ sym
      (set.contains-from_list nat_cmp_total (keys held) i))
      ∙ len-from_list nat_cmp nat_cmp_total (keys held) (distinct_keys nat_cmp (entries held) (entries_sorted held))
      ∙ length-map (entries held) (λ e. e.0)
      ∙ sym (len-entries held)
    where
      by : (i : ℕ) (y : Option Y) → passes {K = ℕ × ℕ} (λ e. e.0.0 == id) (id, i) (option_map g y) ≡ is_some y
      by i y = grind arith

module _ (rows : Rows PartitionState) (f : Flat) (flat : Refines rows f) where
  pub child_at : (id q : ℕ) → passes (λ e. is_parent id e.1.parent) q (get f.part q) ≡ is_parent id (parent rows q)
  child_at id q = ap (passes (λ e. is_parent id e.1.parent) q) ((flat.rows q).part) ∙ by (get rows q)
    where
      by : (r : Option (Row PartitionState)) → passes (λ e. is_parent id e.1.parent) q (option_map part_row r) ≡ is_parent id (option_and_then (λ r. r.0) r)
      by r = grind arith

  pub children_counted : (id : ℕ) → child_count f id ≡ length (children rows id)
  children_counted id =
      let apart = distinct_keys nat_cmp (entries rows) (entries_sorted rows) in
      count_by-keys nat_cmp nat_cmp_total nat_cmp-IsAntisymmetric f.part (λ e. is_parent id e.1.parent) (keys_of (filter is_child (entries rows)))
      (IsDistinct-keys_filter (eq_by_cmp nat_cmp) is_child (entries rows) apart)
      (λ q. child_at id q ∙ by q (get rows q) ∙ ap (passes is_child q) (get-entries rows q) ∙ sym (passing_keys nat_cmp nat_cmp-IsAntisymmetric is_child q (entries rows) apart))
      ∙ ap length (sym (children_keys id (entries rows)))
    where
      is_child : ℕ × Row PartitionState → Bool
      is_child e = tree.is_parent id e.1.0

      by : (q : ℕ) (r : Option (Row PartitionState)) → is_parent id (option_and_then (λ r. r.0) r) ≡ passes is_child q r
      by q r = grind arith

  -- a page's row, as the count of a pool sees it
  pool_test : (id q : ℕ) (page : Option PageRow) → passes (λ e. e.1.owner == id && e.1.pooled) q page ≡ is_held id true page
  pool_test id q page = grind arith

  pub pooled_at : (id q : ℕ) → passes (λ e. e.1.owner == id && e.1.pooled) q (get f.page q) ≡ holds true q (get rows id)
  pooled_at id q = pool_test id q (get f.page q) ∙ (flat.rows id).page q true

  module _ (id : ℕ) (r : Row PartitionState) (is : get rows id ≡ Some r) where
    pub vps_counted : vp_count f id ≡ map.len r.1.vps.vps
    vps_counted = count_by-numbers id f.vp vp_row_of r.1.vps.vps (λ i. (flat.rows id).vp i ∙ ap (vp_row i) is)

    pub ports_counted : port_count f id ≡ map.len r.1.ports.rows
    ports_counted = count_by-numbers id f.port port_row_of r.1.ports.rows (λ i. (flat.rows id).port i ∙ ap (port_row i) is)

    pub conns_counted : conn_count f id ≡ map.len r.1.conns.rows
    conns_counted = count_by-numbers id f.conn conn_row_of r.1.conns.rows (λ i. (flat.rows id).conn i ∙ ap (conn_row i) is)

    pub pool_counted : pooled_count f id ≡ set.len r.1.pooled.pages
    pool_counted = count_by-set nat_cmp nat_cmp_total nat_cmp-IsAntisymmetric f.page (λ e. e.1.owner == id && e.1.pooled) r.1.pooled.pages (λ q. pooled_at id q ∙ ap (holds true q) is)

    -- what a partition uses, and what it may still use
    pub use_counted : in_use f id ≡ uses (length (children rows id)) r.1
    use_counted = omega (arith, children_counted id, vps_counted, ports_counted, conns_counted)

    pub available_counted : available f id ≡ may_use (length (children rows id)) r.1
    available_counted = let pool = pool_counted in let used = use_counted in rw (pool, used) refl
