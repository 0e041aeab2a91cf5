-- Pages that go into a pool, and come back from it.
use Rattle.std.proofs.Common.{◌≡◌, ℕ, ◌+◌, ◌≤◌, ◌==◌, Bool, true, false, cond, ◌&&◌, ◌||◌, not, nat_lt, find, Option, Some, None, is_some, refl, sym, ap, subst, ◌∙◌, arith, eqb-true, eq-eqb, count_by}
use Rattle.std.proofs.Common.{nat_cmp}
use Rattle.std.proofs.lemmas.Bool.{and_parts}
use Rattle.std.specs.Cmp.{nat_cmp_total, unsigned_tied}
use Rattle.std.specs.FinMap.{FinMap, get, insert, contains_key, entries, nat_cmp-IsAntisymmetric}
use Rattle.hv_defs.proofs.Counts.{passes}
use Rattle.hv_policy.specs.Count.{available, in_use, lowest_pooled, number_of, pooled_count}
use Rattle.hv_policy.specs.Effect.{withdrawn}
use Rattle.hv_policy.specs.Flat.{Flat, PageRow}
use Rattle.hv_policy.specs.Met.{is_loose}
use Rattle.hv_defs.proofs.Maps.{found_row, get_at-insert}
use Rattle.hv_defs.proofs.Tallies.{count-more}
use Rattle.hv_invariants.proofs.RowCounts.{numbers-fewer}
use Rattle.hv_invariants.specs.StateInvariant.{StateInvariant}

-- whether an entry is a page of a pool
abbrev pub is_own : ℕ → ℕ × PageRow → Bool
is_own id e = (e.1.owner == id) && e.1.pooled

module _ (pages : ℕ) (f : Flat) (l : StateInvariant pages f) where
  -- a page that is there, with another row
  module _ (page : ℕ) (old row : PageRow) (was : get f.page page ≡ Some old) (there : contains_key f.part row.owner ≡ true) where
    abbrev new : FinMap nat_cmp PageRow
    new = insert f.page page row

    at : (q : ℕ) → get new q ≡ cond (q == page) (Some row) (get f.page q)
    at q = get_at-insert f.page page row q

    paged : (q : ℕ) → contains_key new q ≡ nat_lt q pages
    paged q = ap is_some (at q) ∙ by (q == page) refl ∙ l.paged q
      where
        by : (b : Bool) → q == page ≡ b → is_some (cond b (Some row) (get f.page q)) ≡ is_some (get f.page q)
        by true here = sym (ap is_some (ap (get f.page) (eqb-true q page here) ∙ was))
        by false off = refl

    owned : (q : ℕ) (r : PageRow) → get new q ≡ Some r → contains_key f.part r.owner ≡ true
    owned q r is = by (q == page) (sym (at q) ∙ is)
      where
        by : (b : Bool) → cond b (Some row) (get f.page q) ≡ Some r → contains_key f.part r.owner ≡ true
        by true e = let same : row ≡ r = cc in subst (λ r. contains_key f.part r.owner ≡ true) same there
        by false e = l.owned q r e

    -- a pool that loses no page
    kept_pool : (id : ℕ) → (is_own id (page, old) ≡ true → is_own id (page, row) ≡ true) → pooled_count f id ≤ count_by (is_own id) (entries new)
    kept_pool id stays = numbers-fewer (is_own id) f.page new (λ q h. ap (passes (is_own id) q) (at q) ∙ by q (q == page) refl h)
      where
        by : (q : ℕ) (b : Bool) → q == page ≡ b → passes (is_own id) q (get f.page q) ≡ true → passes (is_own id) q (cond b (Some row) (get f.page q)) ≡ true
        by q true here h = stays (sym (ap (passes (is_own id) page) was) ∙ ap (λ n. passes (is_own id) n (get f.page n)) (sym (eqb-true q page here)) ∙ h)
        by q false off h = h

    -- a pool that loses this page
    less_pool : (id : ℕ) → is_own id (page, old) ≡ true → is_own id (page, row) ≡ false → pooled_count f id ≡ count_by (is_own id) (entries new) + 1
    less_pool id had left =
        count-more nat_cmp_total nat_cmp-IsAntisymmetric (is_own id) (is_own id) f.page new page
        (ap (passes (is_own id) page) (at page) ∙ ap (λ b. passes (is_own id) page (cond b (Some row) (get f.page page))) (eq-eqb page page refl) ∙ left)
        (λ q. by q (q == page) refl ∙ ap (λ r. (q == page) || passes (is_own id) q r) (sym (at q)) ∙ ap (λ t. t || passes (is_own id) q (get new q)) (sym (unsigned_tied q page)))
      where
        by : (q : ℕ) (b : Bool) → q == page ≡ b → passes (is_own id) q (get f.page q) ≡ b || passes (is_own id) q (cond b (Some row) (get f.page q))
        by q true here = ap (λ n. passes (is_own id) n (get f.page n)) (eqb-true q page here) ∙ ap (passes (is_own id) page) was ∙ had
        by q false off = refl

    repaged : ((id : ℕ) → in_use f id ≤ count_by (is_own id) (entries new)) → StateInvariant pages (record f { page = new })
    repaged within = record {
      below = l.below;
      above = l.above;
      within = within;
      idle = l.idle;
      masks = l.masks;
      paged = paged;
      owned = owned;
      few = l.few;
      ports = l.ports;
      placed = l.placed;
    }

  module _ (caller target : ℕ) (there : contains_key f.part caller ≡ true) where
    -- a loose page of the caller goes into the target's pool
    pub deposited : (page : ℕ) → contains_key f.part target ≡ true → is_loose caller (get f.page page) ≡ true → StateInvariant pages
        (record f { page = insert f.page page (record { owner = target; pooled = true }) })
    deposited page lender loose = by (get f.page page) refl loose
      where
        unpooled : (a b : Bool) → (a && not b) ≡ true → (c : Bool) → (c && b) ≡ true → ⊥
        unpooled true true h c e = cc
        unpooled true false h true e = cc
        unpooled true false h false e = cc
        unpooled false b h c e = cc

        by : (r : Option PageRow) → get f.page page ≡ r → is_loose caller r ≡ true → StateInvariant pages (record f { page = insert f.page page (record { owner = target; pooled = true }) })
        by None was h = cc
        by (Some old) was h = repaged page old (record { owner = target; pooled = true }) was lender (λ id.
            let keeps = kept_pool page old (record { owner = target; pooled = true }) was lender id (λ own. absurd (unpooled (old.owner == caller) old.pooled h (old.owner == id) own)) in
            let within = l.within id in
            omega arith)

    -- the lowest page of the target's pool goes to the caller
    pub withdrawn_pages : 1 ≤ available f target → StateInvariant pages (record f { page = withdrawn caller (lowest_pooled f target) f.page })
    withdrawn_pages room = by (find (is_own target) (entries f.page)) refl
      where
        unpooled : (a : Bool) → (a && false) ≡ false
        unpooled true = refl
        unpooled false = refl

        by : (found : Option (ℕ × PageRow)) → find (is_own target) (entries f.page) ≡ found → StateInvariant pages (record f { page = withdrawn caller (number_of found) f.page })
        by None is = l
        by (Some e) is =
            let (was, had) = found_row (is_own target) f.page e is in
            let loose : PageRow = record { owner = caller; pooled = false } in
            repaged e.0 e.1 loose was there (λ id. one id (target == id) refl was had)
          where
            one : (id : ℕ) (b : Bool) → target == id ≡ b → get f.page e.0 ≡ Some e.1 → is_own target e ≡ true → in_use f id ≤ count_by (is_own id)
                (entries (insert f.page e.0 (record { owner = caller; pooled = false })))
            one id true same was had =
                let is_target = eqb-true target id same in
                let less = less_pool e.0 e.1 (record { owner = caller; pooled = false }) was there id (subst (λ n. is_own n e ≡ true) is_target had) (unpooled (caller == id)) in
                let room : 1 ≤ available f id = subst (λ n. 1 ≤ available f n) is_target room in
                omega arith
            one id false other was had =
                let keeps = kept_pool e.0 e.1 (record { owner = caller; pooled = false }) was there id
                (λ own. (let both = sym (ap (λ n. n == id) (eqb-true e.1.owner target (and_parts (e.1.owner == target) e.1.pooled had).0)) ∙ (and_parts (e.1.owner == id) e.1.pooled own).0 in cc)) in
                let within = l.within id in
                omega arith
