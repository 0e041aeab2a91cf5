-- The rows of a tree, each where its id stands among the ids.
use Rattle.std.proofs.Common.{◌≡◌, ℕ, zero, suc, ◌<◌, cond, T, List, [], ◌∷◌, length, get_or, Option, None, Some, inr, refl, sym, ap, ◌∙◌, eq-eqb, ne_eqb, slice_get, option_map, nat_cmp}
use Rattle.std.proofs.lemmas.Option.{slice_get-get_or, slice_get-map}
use Rattle.std.specs.Cmp.{unsigned_tied}
use Rattle.std.specs.FinMap.{FinMap, entries, entries_sorted, find, get, get-entries, is_sorted, keys}
use Rattle.std.specs.FinMap.Entries.{below_all}
use Rattle.hv_defs.proofs.Counts.{both_parts}
use Rattle.hv_partition.specs.Partition.{PartitionState}
use Rattle.hv_tree.proofs.ChildLaws.{unfound}
use Rattle.hv_tree.specs.Rows.{Row, Rows}

-- an entry is found by its key
found-at : {X : Type 0} (es : List (ℕ × X)) → T (is_sorted nat_cmp es) → (i : ℕ) (e : ℕ × X) → slice_get es i ≡ Some e → find nat_cmp e.0 es ≡ Some e.1
found-at [] h i e is = absurd (cc)
found-at (x ∷ es) h zero e is =
    let same : x ≡ e = cc in
    ap (λ b. cond b (Some x.1) (find nat_cmp e.0 es)) (unsigned_tied e.0 x.0 ∙ eq-eqb e.0 x.0 (ap (λ e. e.0) (sym same))) ∙ ap (λ e. Some e.1) same
found-at (x ∷ es) h (suc i) e is =
    let parts = both_parts (below_all nat_cmp x.0 es) (is_sorted nat_cmp es) h in
    let rest = found-at es parts.1 i e is in
    let apart = ne_eqb e.0 x.0 (λ same. let none = unfound e.0 x.0 es parts.0 (inr same) in cc) in
    ap (λ b. cond b (Some x.1) (find nat_cmp e.0 es)) (unsigned_tied e.0 x.0 ∙ apart) ∙ rest

pub entry-found : {X : Type 0} (m : FinMap nat_cmp X) (i : ℕ) (e : ℕ × X) → slice_get (entries m) i ≡ Some e → get m e.0 ≡ Some e.1
entry-found m i e is = get-entries m e.0 ∙ found-at (entries m) (entries_sorted m) i e is

-- the row of the partition whose id stands there
pub row-of : (tree : Rows PartitionState) (ids : List ℕ) (i : ℕ) → ids ≡ keys tree → i < length ids
    → (row : Row PartitionState) × (slice_get (entries tree) i ≡ Some (get_or ids i 0, row)) × (get tree (get_or ids i 0) ≡ Some row)
row-of tree ids i is lt = by (slice_get (entries tree) i) refl (sym (slice_get-map (λ e. e.0) (entries tree) i) ∙ ap (λ ids. slice_get ids i) (sym is) ∙ slice_get-get_or ids i 0 lt)
  where
    by : (e : Option (ℕ × Row PartitionState)) → slice_get (entries tree) i ≡ e → option_map (λ e. e.0) e ≡ Some (get_or ids i 0)
        → (row : Row PartitionState) × (slice_get (entries tree) i ≡ Some (get_or ids i 0, row)) × (get tree (get_or ids i 0) ≡ Some row)
    by None at key = absurd (cc)
    by (Some e) at key =
        let same : e.0 ≡ get_or ids i 0 = cc in
        (e.1, at ∙ ap (λ id. Some (id, e.1)) same, ap (get tree) (sym same) ∙ entry-found tree i e at)
