-- A partition that goes, and its pages with its heir.
use Rattle.std.proofs.Common.{◌≡◌, ℕ, ◌≤◌, ◌==◌, Bool, true, false, cond, Option, Some, None, is_some, map, refl, sym, ap, subst, ◌∙◌, arith, eqb-true, option_map}
use Rattle.std.proofs.lemmas.Bool.{and_parts}
use Rattle.std.specs.FinMap.{get, remove, contains_key, entries, from_entries}
use Rattle.hv_defs.proofs.Counts.{passes}
use Rattle.hv_policy.specs.Count.{child_count, in_use, is_parent, pooled_count}
use Rattle.hv_policy.specs.Effect.{inherited}
use Rattle.hv_policy.specs.Flat.{Flat, PartRow, PageRow}
use Rattle.hv_policy.specs.Met.{is_active, test_row}
use Rattle.hv_invariants.proofs.PoolPages.{is_own}
use Rattle.hv_defs.proofs.Maps.{get-mapped, get_at-remove}
use Rattle.hv_invariants.proofs.RowCounts.{numbers-fewer}
use Rattle.hv_invariants.specs.StateInvariant.{StateInvariant}

module _ (pages : ℕ) (f : Flat) (l : StateInvariant pages f) (new_owner target : ℕ) (apart : new_owner == target ≡ false) (there : contains_key f.part new_owner ≡ true) (unused : in_use f target ≡ 0)
  where
    abbrev g : Flat
    g = record f { part = remove f.part target; page = from_entries (map (λ e. (e.0, inherited target new_owner e.1)) (entries f.page)) }

    at : (id : ℕ) → get g.part id ≡ cond (id == target) None (get f.part id)
    at id = get_at-remove f.part target id

    page_at : (q : ℕ) → get g.page q ≡ option_map (inherited target new_owner) (get f.page q)
    page_at q = get-mapped (inherited target new_owner) f.page q

    was : (id : ℕ) (row : PartRow) → get g.part id ≡ Some row → get f.part id ≡ Some row
    was id row is = by (id == target) (sym (at id) ∙ is)
      where
        by : (b : Bool) → cond b None (get f.part id) ≡ Some row → get f.part id ≡ Some row
        by true e = cc
        by false e = e

    fewer_children : (id : ℕ) → child_count g id ≤ child_count f id
    fewer_children id = numbers-fewer (λ e. is_parent id e.1.parent) g.part f.part (λ q h. by q (q == target) (sym (ap (passes (λ (e : ℕ × PartRow). is_parent id e.1.parent) q) (at q)) ∙ h))
      where
        by : (q : ℕ) (b : Bool) → passes (λ (e : ℕ × PartRow). is_parent id e.1.parent) q (cond b None (get f.part q)) ≡ true → passes (λ (e : ℕ × PartRow). is_parent id e.1.parent) q (get f.part q) ≡
            true
        by q true h = cc
        by q false h = h

    fewer_uses : (id : ℕ) → in_use g id ≤ in_use f id
    fewer_uses id = let fewer = fewer_children id in omega arith

    other_pool : (id : ℕ) → target == id ≡ false → pooled_count f id ≤ pooled_count g id
    other_pool id other = numbers-fewer (is_own id) f.page g.page (λ q h. ap (passes (is_own id) q) (page_at q) ∙ one q (get f.page q) h)
      where
        one : (q : ℕ) (r : Option PageRow) → passes (is_own id) q r ≡ true → passes (is_own id) q (option_map (inherited target new_owner) r) ≡ true
        one q None h = cc
        one q (Some row) h = by (row.owner == target) refl
          where
            by : (b : Bool) → row.owner == target ≡ b → is_own id (q, cond b (record { owner = new_owner; pooled = false }) row) ≡ true
            by true mine = (let owner = eqb-true row.owner target mine in let both = sym (ap (λ n. n == id) owner) ∙ (and_parts (row.owner == id) row.pooled h).0 in cc)
            by false mine = h

    owned : (page : ℕ) (row : PageRow) → get g.page page ≡ Some row → contains_key g.part row.owner ≡ true
    owned page row is = one (get f.page page) refl (sym (page_at page) ∙ is)
      where
        still : (id : ℕ) → id == target ≡ false → contains_key f.part id ≡ true → contains_key g.part id ≡ true
        still id off h = ap is_some (at id) ∙ ap (λ b. is_some (cond b None (get f.part id))) off ∙ h

        one : (r : Option PageRow) → get f.page page ≡ r → option_map (inherited target new_owner) r ≡ Some row → contains_key (remove f.part target) row.owner ≡ true
        one None was e = cc
        one (Some old) was e = by (old.owner == target) refl e
          where
            by : (b : Bool) → old.owner == target ≡ b → Some (cond b (record { owner = new_owner; pooled = false }) old) ≡ Some row → contains_key (remove f.part target) row.owner ≡ true
            by true mine e = let same : record { owner = new_owner; pooled = false } ≡ row = cc in subst (λ (r : PageRow). contains_key (remove f.part target) r.owner ≡ true) same
                (still new_owner apart there)
            by false other e = let same : old ≡ row = cc in subst (λ (r : PageRow). contains_key (remove f.part target) r.owner ≡ true) same (still old.owner other (l.owned page old was))

    pub deleted : StateInvariant pages g
    deleted = record {
      below = λ id row is. l.below id row (was id row is);
      above = λ id parent row is named. l.above id parent row (was id row is) named;
      within = λ id. within id (target == id) refl;
      idle = λ id still. idle id (id == target) refl (sym (ap (test_row (λ row. is_active row.life)) (at id)) ∙ still);
      masks = λ id parent child above is named up. l.masks id parent child above (was id child is) named (was parent above up);
      paged = λ q. ap is_some (page_at q) ∙ one (get f.page q) ∙ l.paged q;
      owned = owned;
      few = l.few;
      ports = l.ports;
      placed = l.placed;
    }
      where
        one : (r : Option PageRow) → is_some (option_map (inherited target new_owner) r) ≡ is_some r
        one None = refl
        one (Some r) = refl

        within : (id : ℕ) (b : Bool) → target == id ≡ b → in_use g id ≤ pooled_count g id
        within id true is = let none = ap (in_use f) (sym (eqb-true target id is)) ∙ unused in let fewer = fewer_uses id in omega arith
        within id false off = let fewer = fewer_uses id in let kept = other_pool id off in let within = l.within id in omega arith

        idle : (id : ℕ) (b : Bool) → id == target ≡ b → test_row (λ row. is_active row.life) (cond b None (get f.part id)) ≡ false → in_use g id ≡ 0
        idle id true is e = let none = ap (in_use f) (eqb-true id target is) ∙ unused in let fewer = fewer_uses id in omega arith
        idle id false off e = let none = l.idle id e in let fewer = fewer_uses id in omega arith
