-- What the laws of the flat state tell of the tree's rows.
use Rattle.std.proofs.Common.{◌≡◌, ℕ, ◌<◌, ◌≤◌, ◌==◌, Bool, true, false, ◌&&◌, not, List, length, Option, Some, is_some, inl, inr, sym, ap, subst, ◌∙◌, arith, ltb-true, le-ltb}
use Rattle.std.proofs.Common.{count_by, option_map, nat_cmp}
use Rattle.std.proofs.lemmas.Bool.{cases_lt}
use Rattle.std.proofs.lemmas.List.{length-map}
use Rattle.std.proofs.lemmas.List.Sums.{count_by-le-length}
use Rattle.std.proofs.lemmas.Map.Steps.{length-le_from_distinct_below}
use Rattle.std.specs.Cmp.{nat_cmp_total, unsigned_tied}
use Rattle.std.specs.FinMap as map
use Rattle.std.specs.FinMap.{get, entries, entries_sorted, contains_key-keys, nat_cmp-IsAntisymmetric}
use Rattle.std.specs.FinSet as set
use Rattle.std.specs.List.{IsDistinct, list_any}
use Rattle.std.specs.Map.{keys_of}
use Rattle.std.specs.Ordering.{eq_by_cmp}
use Rattle.hv_defs.proofs.Counts.{passes, count_by-set, distinct_keys}
use Rattle.hv_invariants.specs.StateInvariant.{StateInvariant}
use Rattle.hv_partition.specs.Partition.{PartitionState, in_use as uses}
use Rattle.hv_policy.specs.Count.{in_use}
use Rattle.hv_policy.specs.Flat.{Flat, PageRow}
use Rattle.hv_policy.specs.Met.{is_active, test_row}
use Rattle.hv_tree.specs.Rows.{Row, Rows, children, parent}
use Rattle.hv_admit.proofs.CountedRows.{children_counted, conns_counted, pool_counted, ports_counted, use_counted, vps_counted}
use Rattle.hv_admit.proofs.FoundRow.{parent_there}
use Rattle.hv_admit.specs.Tie.{Refines, is_held, holds, part_row}

-- a partition that uses nothing of its pool has no children, processors, ports and connections
pub record UsesNothing (rows : Rows PartitionState) (id : ℕ) (p : PartitionState) : Type 0 where
  pub childless : length (children rows id) ≡ 0
  pub vps : p.vps.vps ≡ map.empty
  pub ports : p.ports.rows ≡ map.empty
  pub conns : p.conns.rows ≡ map.empty

-- there are no more pages than boot gave
all_pages : (pages : ℕ) (f : Flat) → StateInvariant pages f → length (entries f.page) ≤ pages
all_pages pages f l =
    let ks : List ℕ = keys_of (entries f.page) in
    let equal : eq_by_cmp nat_cmp ≡ (λ x y. x == y) = (λ i x y. unsigned_tied x y i) in
    let apart = subst (λ eq. IsDistinct eq ks) equal (distinct_keys nat_cmp (entries f.page) (entries_sorted f.page)) in
    let below : (q : ℕ) → list_any (λ y. q == y) ks ≡ true → q < pages =
    (λ q h. ltb-true q pages (sym (l.paged q) ∙ contains_key-keys f.page q ∙ ap (λ eq. list_any (eq q) ks) equal ∙ h)) in
    let few = length-le_from_distinct_below ks pages apart below in
    let same = length-map (entries f.page) (λ e. e.0) in
    omega arith

loose_test : (id q : ℕ) (page : Option PageRow) → passes (λ e. e.1.owner == id && not e.1.pooled) q page ≡ is_held id false page
loose_test id q page = grind arith

unheld : (id : ℕ) (kind : Bool) (page : Option PageRow) → is_some page ≡ false → is_held id kind page ≡ false
unheld id kind page h = grind arith

module _ (rows : Rows PartitionState) (f : Flat) (flat : Refines rows f) (pages : ℕ) (l : StateInvariant pages f) where
  row_at : (id : ℕ) (r : Row PartitionState) → get rows id ≡ Some r → get f.part id ≡ Some (part_row r)
  row_at id r is = (flat.rows id).part ∙ ap (option_map part_row) is

  -- a parent's id is below its child's
  pub parents_below : (id p : ℕ) → parent rows id ≡ Some p → p < id
  parents_below id p h = let (r, is, named) = parent_there rows id p h in l.above id p (part_row r) (row_at id r is) named

  -- a page that no partition can hold
  pub beyond : (id page : ℕ) (kind : Bool) → pages ≤ page → holds kind page (get rows id) ≡ false
  beyond id page kind le = sym ((flat.rows id).page page kind) ∙ unheld id kind (get f.page page) (l.paged page ∙ le-ltb page pages le)

  -- so one that is held is a boot page
  pub page_below : (id page : ℕ) (kind : Bool) → holds kind page (get rows id) ≡ true → page < pages
  page_below id page kind held = elim (cases_lt page pages) [
    | inl lt ↦ lt
    | inr le ↦ (let none = sym held ∙ beyond id page kind le in cc)
  ]

  module _ (id : ℕ) (r : Row PartitionState) (is : get rows id ≡ Some r) where
    -- a partition uses no more than its pool has
    pub uses_within : uses (length (children rows id)) r.1 ≤ set.len r.1.pooled.pages
    uses_within = omega (arith, use_counted rows f flat id r is, pool_counted rows f flat id r is, l.within id)

    -- one that isn't Active uses nothing of its pool
    pub quiet : is_active r.1.life ≡ false → UsesNothing rows id r.1
    quiet still =
        let none : in_use f id ≡ 0 = l.idle id (ap (test_row (λ row. is_active row.life)) (row_at id r is) ∙ still) in
        let kids = children_counted rows f flat id in
        let staff = vps_counted rows f flat id r is in
        let ports = ports_counted rows f flat id r is in
        let conns = conns_counted rows f flat id r is in
        record {
          childless = omega arith;
          vps = map.empty_of_len r.1.vps.vps (omega arith);
          ports = map.empty_of_len r.1.ports.rows (omega arith);
          conns = map.empty_of_len r.1.conns.rows (omega arith);
        }

    few : (test : ℕ × PageRow → Bool) → count_by test (entries f.page) ≤ pages
    few test = omega (arith, count_by-le-length test (entries f.page), all_pages pages f l)

    pub few_pooled : set.len r.1.pooled.pages ≤ pages
    few_pooled = subst (λ n. n ≤ pages) (pool_counted rows f flat id r is) (few (λ e. e.1.owner == id && e.1.pooled))

    pub few_loose : set.len r.1.loose.pages ≤ pages
    few_loose =
        let counted = count_by-set nat_cmp nat_cmp_total nat_cmp-IsAntisymmetric f.page (λ e. e.1.owner == id && not e.1.pooled) r.1.loose.pages
        (λ q. loose_test id q (get f.page q) ∙ (flat.rows id).page q false ∙ ap (holds false q) is) in
        subst (λ n. n ≤ pages) counted (few (λ e. e.1.owner == id && not e.1.pooled))
