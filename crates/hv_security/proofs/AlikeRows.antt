-- Rows that are alike in two maps stay so where both change alike.
use Rattle.std.proofs.Common.{◌≡◌, ℕ, ◌==◌, not, map, Bool, true, false, cond, Option, Some, None, refl, sym, ap, ◌∙◌, eqb-true, option_map, nat_cmp}
use Rattle.std.specs.Cmp.{Equal-is}
use Rattle.std.specs.FinMap.{FinMap, get, insert, remove, from_entries, entries, get-insert, get-remove}
use Rattle.std.specs.Ordering.{eq_by_cmp}
use Rattle.hv_defs.proofs.Maps.{get_at-insert, get_at-remove, get-mapped}
use Rattle.hv_defs.specs.Flags.{pair_cmp}
use Rattle.hv_policy.proofs.Pairs.{pair_cmp_total, pair_cmp_exact}
use Rattle.hv_policy.proofs.Rows.{get-rows_but, get-with_row, get-with_vp}
use Rattle.hv_policy.specs.Effect.{inherited, rows_but, with_row, with_vp}
use Rattle.hv_policy.specs.Flat.{PageRow, PartRow, VpRow}
use Rattle.hv_security.specs.Same.{held_by}

-- partitions
module _ (part others : FinMap nat_cmp PartRow) (id : ℕ) (same : get part id ≡ get others id) where
  pub row_alike : (target : ℕ) (h : PartRow → PartRow) → get (with_row part target h) id ≡ get (with_row others target h) id
  row_alike target h = get-with_row part target h id ∙ by (id == target) refl ∙ sym (get-with_row others target h id)
    where
      by : (b : Bool) → id == target ≡ b → cond b (option_map h (get part target)) (get part id) ≡ cond b (option_map h (get others target)) (get others id)
      by true is = ap (option_map h) (ap (get part) (sym (eqb-true id target is)) ∙ same ∙ ap (get others) (eqb-true id target is))
      by false is = same

  pub gone_alike : (target : ℕ) → get (remove part target) id ≡ get (remove others target) id
  gone_alike target = get_at-remove part target id ∙ ap (λ r. cond (id == target) None r) same ∙ sym (get_at-remove others target id)

  pub new_alike : (at to : ℕ) → at ≡ to → (row other : PartRow) → row ≡ other → get (insert part at row) id ≡ get (insert others to other) id
  new_alike at to is row other rows =
      get_at-insert part at row id ∙ (λ i. cond (id == is i) (Some (rows i)) (same i)) ∙ sym (get_at-insert others to other id)

-- pages, of which a partition sees its own
module _ (pages others : FinMap nat_cmp PageRow) (id : ℕ) (same : (q : ℕ) → held_by id (get pages q) ≡ held_by id (get others q)) where
  pub page_alike : (page : ℕ) (row : PageRow) (q : ℕ) → held_by id (get (insert pages page row) q) ≡ held_by id (get (insert others page row) q)
  page_alike page row q =
      ap (held_by id) (get_at-insert pages page row q) ∙ by (q == page) ∙ sym (ap (held_by id) (get_at-insert others page row q))
    where
      by : (b : Bool) → held_by id (cond b (Some row) (get pages q)) ≡ held_by id (cond b (Some row) (get others q))
      by true = refl
      by false = same q

  -- all of one's pages go to an heir
  module _ (target new_owner : ℕ) (own : (q : ℕ) → held_by target (get pages q) ≡ held_by target (get others q)) where
    abbrev pick : Option PageRow → Option PageRow → Option PageRow
    pick None held = held
    pick (Some row) held = held_by id (Some (record { owner = new_owner; pooled = false }))

    picked : (r : Option PageRow) → held_by id (option_map (inherited target new_owner) r) ≡ pick (held_by target r) (held_by id r)
    picked None = refl
    picked (Some row) = by (row.owner == target)
      where
        by : (b : Bool) → held_by id (Some (cond b (record { owner = new_owner; pooled = false }) row)) ≡ pick (cond b (Some row) None) (held_by id (Some row))
        by true = refl
        by false = refl

    pub new_owner_alike : (q : ℕ) → held_by id (get (from_entries {R = nat_cmp} (map (λ e. (e.0, inherited target new_owner e.1)) (entries pages))) q) ≡ held_by id
        (get (from_entries {R = nat_cmp} (map (λ e. (e.0, inherited target new_owner e.1)) (entries others))) q)
    new_owner_alike q =
        ap (held_by id) (get-mapped (inherited target new_owner) pages q) ∙ picked (get pages q) ∙ (λ i. pick (own q i) (same q i))
        ∙ sym (picked (get others q)) ∙ sym (ap (held_by id) (get-mapped (inherited target new_owner) others q))

-- rows by (partition, number), each seen in some way
module _ {X Y : Type 0} (u v : Option X → Y) (rows others : FinMap pair_cmp X) (key : ℕ × ℕ) (same : u (get rows key) ≡ v (get others key)) where
  pub inserted_alike : (at : ℕ × ℕ) (x y : X) → u (Some x) ≡ v (Some y) → u (get (insert rows at x) key) ≡ v (get (insert others at y) key)
  inserted_alike at x y is = ap u (get-insert pair_cmp_total rows at x key) ∙ by (eq_by_cmp pair_cmp key at) ∙ sym (ap v (get-insert pair_cmp_total others at y key))
    where
      by : (b : Bool) → u (cond b (Some x) (get rows key)) ≡ v (cond b (Some y) (get others key))
      by true = is
      by false = same

  module _ (none : u None ≡ v None) where
    pub removed_alike : (at : ℕ × ℕ) → u (get (remove rows at) key) ≡ v (get (remove others at) key)
    removed_alike at = ap u (get-remove pair_cmp_total rows at key) ∙ by (eq_by_cmp pair_cmp key at) ∙ sym (ap v (get-remove pair_cmp_total others at key))
      where
        by : (b : Bool) → u (cond b None (get rows key)) ≡ v (cond b None (get others key))
        by true = none
        by false = same

    pub left_alike : (target : ℕ) → u (get (rows_but target rows) key) ≡ v (get (rows_but target others) key)
    left_alike target = ap u (get-rows_but rows target key) ∙ by (not (key.0 == target)) ∙ sym (ap v (get-rows_but others target key))
      where
        by : (b : Bool) → u (cond b (get rows key) None) ≡ v (cond b (get others key) None)
        by true = same
        by false = none

-- processors
module _ (vps others : FinMap pair_cmp VpRow) (key : ℕ × ℕ) (same : get vps key ≡ get others key) where
  pub vp_alike : (at : ℕ × ℕ) (h k : VpRow → VpRow) → h ≡ k → get (with_vp vps at h) key ≡ get (with_vp others at k) key
  vp_alike at h k is =
      get-with_vp vps at h key ∙ by (eq_by_cmp pair_cmp key at) refl ∙ ap (λ h. cond (eq_by_cmp pair_cmp key at) (option_map h (get others at)) (get others key)) is
      ∙ sym (get-with_vp others at k key)
    where
      by : (b : Bool) → eq_by_cmp pair_cmp key at ≡ b → cond b (option_map h (get vps at)) (get vps key) ≡ cond b (option_map h (get others at)) (get others key)
      by true is =
          let here : key ≡ at = pair_cmp_exact key at ((Equal-is (pair_cmp key at)).0 is) in
          ap (option_map h) (ap (get vps) (sym here) ∙ same ∙ ap (get others) here)
      by false is = same
