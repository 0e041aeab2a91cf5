-- The table of a tree is that of each flat state that it is tied to.
use Rattle.std.proofs.Common.{◌≡◌, ℕ, suc, ◌+◌, ◌==◌, Bool, true, false, cond, ◌&&◌, not, T, List, [], ◌∷◌, length, map, Option, Some, None, inr, is_some, refl, sym, ap, ap₂, subst, ◌∙◌, arith}
use Rattle.std.proofs.Common.{eqb-true, count_by, slice_get, option_map, is_lt, nat_cmp}
use Rattle.std.proofs.lemmas.List.{length-map}
use Rattle.std.proofs.lemmas.List.Sums.{sum_by-cons}
use Rattle.std.specs.Cmp.{nat_cmp_total, unsigned_tied}
use Rattle.std.specs.FinMap.{contains_key-keys, entries, entries_sorted, find, get, get-entries, is_sorted, keys, len, len-entries, nat_cmp-IsAntisymmetric}
use Rattle.std.specs.FinMap.Entries.{below_all, same_entries}
use Rattle.std.specs.FinSet as set
use Rattle.std.specs.Ordering.{eq_by_cmp}
use Rattle.hv_defs.proofs.Counts.{both_parts, count_by-keys, count_by-set, distinct_keys, passes}
use Rattle.hv_machine.specs.IsFlat.{IsFlat}
use Rattle.hv_machine.specs.State.{State}
use Rattle.hv_partition.specs.Partition.{PartitionState}
use Rattle.hv_policy.specs.Flat.{Flat, PageRow, PartRow}
use Rattle.hv_admit.proofs.CountedRows.{conns_counted, pool_counted, ports_counted, use_counted, vps_counted}
use Rattle.hv_admit.proofs.PageHolders.{held_by_owner}
use Rattle.hv_admit.proofs.RoomIsNoState.{tied_roomless}
use Rattle.hv_admit.specs.Room.{roomless}
use Rattle.hv_admit.specs.Tie.{Refines, holds, is_held, part_row}
use Rattle.hv_tree.proofs.ChildLaws.{unfound}
use Rattle.hv_tree.specs.Rows.{Row, Rows, children}
use Rattle.hv_text.specs.Rows.{kept_counts, pages_in, row_line, rows_text}
use Rattle.hv_text.specs.Table.{Counts, counts_of, loose_count, table_text, text_of}
use Rattle.hv_text.proofs.Rows.{entry-found}

-- counts over one list, where each element that passes one test passes one of three others alone
count-parts : {X : Type 0} (p a b c : X → Bool) → ((x : X) → cond (p x) 1 0 ≡ cond (a x) 1 0 + cond (b x) 1 0 + cond (c x) 1 0)
    → (xs : List X) → count_by p xs ≡ count_by a xs + count_by b xs + count_by c xs
count-parts p a b c parts [] = refl
count-parts {X} p a b c parts (x ∷ xs) =
    let one = λ (q : X → Bool). sum_by-cons (λ x. cond (q x) 1 0) x xs in
    omega (arith, one p, one a, one b, one c, parts x, count-parts p a b c parts xs)

count-none : {X : Type 0} (xs : List X) → count_by (λ x. false) xs ≡ 0
count-none [] = refl
count-none (x ∷ xs) = omega (arith, sum_by-cons (λ x. 0) x xs, count-none xs)

-- what is found after the entries were changed, each by its key
module _ {X Y : Type 0} (g : ℕ → X → Y) where
  abbrev changed : ℕ × X → ℕ × Y
  changed e = (e.0, g e.0 e.1)

  find-changed : (q : ℕ) (es : List (ℕ × X)) → find nat_cmp q (map changed es) ≡ option_map (g q) (find nat_cmp q es)
  find-changed q [] = refl
  find-changed q (e ∷ es) = by (eq_by_cmp nat_cmp q e.0) refl (find-changed q es)
    where
      by : (b : Bool) → eq_by_cmp nat_cmp q e.0 ≡ b → find nat_cmp q (map changed es) ≡ option_map (g q) (find nat_cmp q es)
          → cond b (Some (g e.0 e.1)) (find nat_cmp q (map changed es)) ≡ option_map (g q) (cond b (Some e.1) (find nat_cmp q es))
      by true is rest = ap (λ k. Some (g k e.1)) (sym (eqb-true q e.0 (sym (unsigned_tied q e.0) ∙ is)))
      by false is rest = rest

  below-changed : (k : ℕ) (es : List (ℕ × X)) → below_all nat_cmp k es ≡ below_all nat_cmp k (map changed es)
  below-changed k [] = refl
  below-changed k (e ∷ es) = ap (λ b. is_lt (nat_cmp k e.0) && b) (below-changed k es)

  sorted-changed : (es : List (ℕ × X)) → is_sorted nat_cmp es ≡ is_sorted nat_cmp (map changed es)
  sorted-changed [] = refl
  sorted-changed (e ∷ es) = ap₂ (λ a b. a && b) (below-changed e.0 es) (sorted-changed es)

module _ (tree : Rows PartitionState) (f : Flat) (flat : Refines tree f) where
  -- the loose pages of a partition, counted over all pages
  loose_test : (id q : ℕ) (page : Option PageRow) → passes (λ e. (e.1.owner == id) && not e.1.pooled) q page ≡ is_held id false page
  loose_test id q None = refl
  loose_test id q (Some page) = refl

  loose_counted : (id : ℕ) (r : Row PartitionState) → get tree id ≡ Some r → loose_count f id ≡ set.len r.1.loose.pages
  loose_counted id r is =
      count_by-set nat_cmp nat_cmp_total nat_cmp-IsAntisymmetric f.page (λ e. (e.1.owner == id) && not e.1.pooled) r.1.loose.pages
      (λ q. loose_test id q (get f.page q) ∙ (flat.rows id).page q false ∙ ap (holds false q) is)

  -- all counts of a partition are those that its row keeps
  counts_kept : (id : ℕ) (r : Row PartitionState) → get tree id ≡ Some r → counts_of f id ≡ kept_counts (length (children tree id)) r.1
  counts_kept id r is = λ i. record {
    loose = loose_counted id r is i;
    pooled = pool_counted tree f flat id r is i;
    in_use = use_counted tree f flat id r is i;
    vps = vps_counted tree f flat id r is i;
    ports = ports_counted tree f flat id r is i;
    conns = conns_counted tree f flat id r is i;
  }

  -- the lines of the flat state are those of the rows
  lines_alike : map (λ e. (e.0, (e.1, counts_of f e.0))) (entries f.part) ≡ map (row_line tree) (entries tree)
  lines_alike =
      same_entries nat_cmp nat_cmp_total nat_cmp-IsAntisymmetric _ _ (subst T (sorted-changed flat_line (entries f.part)) (entries_sorted f.part))
      (subst T (sorted-changed tree_line (entries tree)) (entries_sorted tree))
      (λ q. find-changed flat_line q (entries f.part) ∙ ap (option_map (flat_line q)) (sym (get-entries f.part q) ∙ (flat.rows q).part)
      ∙ by q (get tree q) refl ∙ ap (option_map (tree_line q)) (get-entries tree q) ∙ sym (find-changed tree_line q (entries tree)))
    where
      flat_line : ℕ → PartRow → PartRow × Counts
      flat_line id row = (row, counts_of f id)

      tree_line : ℕ → Row PartitionState → PartRow × Counts
      tree_line id r = (part_row r, kept_counts (length (children tree id)) r.1)

      by : (q : ℕ) (r : Option (Row PartitionState)) → get tree q ≡ r → option_map (flat_line q) (option_map part_row r) ≡ option_map (tree_line q) r
      by q None is = refl
      by q (Some r) is = ap (λ counts. Some (part_row r, counts)) (counts_kept q r is)

  -- the pages that partitions own, over all pages and over their rows
  owned : (es : List (ℕ × Row PartitionState)) → T (is_sorted nat_cmp es) → ((i : ℕ) (e : ℕ × Row PartitionState) → slice_get es i ≡ Some e → get tree e.0 ≡ Some e.1)
      → count_by (λ (page : ℕ × PageRow). is_some (find nat_cmp page.1.owner es)) (entries f.page) ≡ pages_in es
  owned [] h there = count-none (entries f.page)
  owned (e ∷ es) h there =
      let parts = both_parts (below_all nat_cmp e.0 es) (is_sorted nat_cmp es) h in
      let is = there 0 e refl in
      let split = count-parts (λ (page : ℕ × PageRow). is_some (find nat_cmp page.1.owner (e ∷ es))) (λ page. (page.1.owner == e.0) && not page.1.pooled)
      (λ page. page.1.owner == e.0 && page.1.pooled) (λ page. is_some (find nat_cmp page.1.owner es))
      (λ page. ap (λ b. cond (is_some (cond b (Some e.1) (find nat_cmp page.1.owner es))) 1 0) (unsigned_tied page.1.owner e.0)
      ∙ by (page.1.owner == e.0) page.1.pooled (find nat_cmp page.1.owner es) (λ own. unfound page.1.owner e.0 es parts.0 (inr (eqb-true page.1.owner e.0 own)))) (entries f.page) in
      omega (arith, split, owned es parts.1 (λ i. there (suc i)), loose_counted e.0 e.1 is, pool_counted tree f flat e.0 e.1 is)
    where
      by : (own pooled : Bool) (later : Option (Row PartitionState)) → (own ≡ true → later ≡ None)
          → cond (is_some (cond own (Some e.1) later)) 1 0 ≡ cond (own && not pooled) 1 0 + cond (own && pooled) 1 0 + cond (is_some later) 1 0
      by true true None h = refl
      by true false None h = refl
      by true pooled (Some r) h = let wrong = h refl in cc
      by false pooled later h = omega arith

  -- each page's owner is there
  owner_there : (q : ℕ) (page : Option PageRow) → get f.page q ≡ page → passes (λ (page : ℕ × PageRow). is_some (find nat_cmp page.1.owner (entries tree))) q page ≡ is_some page
  owner_there q None is = refl
  owner_there q (Some page) is =
      ap is_some (sym (get-entries tree page.owner))
      ∙ by page.pooled (get tree page.owner) (sym ((flat.rows page.owner).page q page.pooled) ∙ ap (is_held page.owner page.pooled) is ∙ held_by_owner page)
    where
      by : (pooled : Bool) (r : Option (Row PartitionState)) → holds pooled q r ≡ true → is_some r ≡ true
      by true None held = cc
      by false None held = cc
      by pooled (Some r) held = refl

  pages_alike : len f.page ≡ pages_in (entries tree)
  pages_alike =
      len-entries f.page ∙ sym (length-map (entries f.page) (λ e. e.0))
      ∙ sym (count_by-keys nat_cmp nat_cmp_total nat_cmp-IsAntisymmetric f.page (λ page. is_some (find nat_cmp page.1.owner (entries tree))) (keys f.page)
      (distinct_keys nat_cmp (entries f.page) (entries_sorted f.page)) (λ q. owner_there q (get f.page q) refl ∙ contains_key-keys f.page q))
      ∙ owned (entries tree) (entries_sorted tree) (entry-found tree)

  table_alike : rows_text tree ≡ table_text f
  unfolding rows_text table_text
  table_alike = sym (ap₂ text_of lines_alike pages_alike)

-- the table of a machine's tree is that of its state
pub table_of : (tree : Rows PartitionState) (m : State) → roomless tree ≡ m.rows → (f : Flat) → IsFlat m f → rows_text tree ≡ table_text f
table_of tree m seen f flat = table_alike tree f (tied_roomless tree f (subst (λ (rows : Rows PartitionState). Refines rows f) (sym seen) flat.tied))
