-- A partition that comes in.
use Rattle.std.proofs.Common.{◌≡◌, ℕ, ◌+◌, ◌*◌, ◌≤◌, ◌<◌, ◌==◌, Bool, true, false, cond, Option, Some, None, is_some, refl, sym, ap, subst, ◌∙◌, arith, eqb-true, ne_eqb}
use Rattle.std.specs.Cmp.{nat_cmp_total}
use Rattle.std.specs.FinMap.{get, insert, nat_cmp-IsAntisymmetric}
use Rattle.hv_policy.specs.Count.{is_parent, available, child_count, in_use, pooled_count}
use Rattle.hv_policy.specs.Effect.{counted, mask_of, new_row}
use Rattle.hv_policy.specs.Flat.{Flat, PartRow}
use Rattle.hv_policy.specs.Met.{is_active, is_running, test_row}
use Rattle.hv_privs.proofs.PrivilegesLemmas.{restrict-HasBit}
use Rattle.hv_privs.specs.Privileges.{IsSubset, restrict}
use Rattle.hv_privs.specs.declared.TheConstants.Privileges as privilege
use Rattle.hv_defs.proofs.Maps.{get_at-insert}
use Rattle.hv_defs.proofs.Tallies.{count-insert}
use Rattle.hv_policy.proofs.Rows.{row_of}
use Rattle.hv_invariants.proofs.PortMessages.{AreMailed, mail_counted, mailed_of}
use Rattle.hv_invariants.specs.StateInvariant.{StateInvariant}

module _ (pages : ℕ) (f : Flat) (l : StateInvariant pages f) where
  -- the next id is free
  pub free_next : get f.part f.next ≡ None
  free_next = by (get f.part f.next) refl
    where
      by : (r : Option PartRow) → get f.part f.next ≡ r → r ≡ None
      by None is = refl
      by (Some row) is = absurd (let below = l.below f.next row is in omega arith)

  module _ (caller : ℕ) (running : is_running f caller ≡ true) (room : 2 ≤ available f caller) where
    abbrev new : PartRow
    new = new_row caller (mask_of (get f.part caller))

    abbrev g : Flat
    g = counted (record f { part = insert f.part f.next new; next = f.next + 1 })

    at : (id : ℕ) → get g.part id ≡ cond (id == f.next) (Some new) (get f.part id)
    at id = get_at-insert f.part f.next new id

    caller_below : caller < f.next
    caller_below = let (row, there, active) = row_of f caller (λ row. is_active row.life) running in l.below caller row there

    more_children : (id : ℕ) → child_count g id ≡ child_count f id + cond (caller == id) 1 0
    more_children id = count-insert nat_cmp_total nat_cmp-IsAntisymmetric (λ e. is_parent id e.1.parent) f.part f.next new free_next

    uses : (id : ℕ) → in_use g id ≡ in_use f id + 2 * cond (caller == id) 1 0
    uses id = let more = more_children id in omega arith

    below : (id : ℕ) (row : PartRow) → get g.part id ≡ Some row → id < f.next + 1
    below id row is = by (id == f.next) refl (sym (at id) ∙ is)
      where
        by : (b : Bool) → id == f.next ≡ b → cond b (Some new) (get f.part id) ≡ Some row → id < f.next + 1
        by true here e = let same = eqb-true id f.next here in omega arith
        by false off e = let lt = l.below id row e in omega arith

    above : (id parent : ℕ) (row : PartRow) → get g.part id ≡ Some row → row.parent ≡ Some parent → parent < id
    above id parent row is named = by (id == f.next) refl (sym (at id) ∙ is)
      where
        by : (b : Bool) → id == f.next ≡ b → cond b (Some new) (get f.part id) ≡ Some row → parent < id
        by true here e =
            let made : new ≡ row = cc in
            let same : caller ≡ parent = (let both = ap {A = PartRow} (λ r. r.parent) made ∙ named in cc) in
            let lt = caller_below in
            omega (arith, same, lt, eqb-true id f.next here)
        by false off e = l.above id parent row e named

    within : (id : ℕ) → in_use g id ≤ pooled_count f id
    within id = by (caller == id) refl (uses id)
      where
        by : (b : Bool) → caller == id ≡ b → in_use g id ≡ in_use f id + 2 * cond b 1 0 → in_use g id ≤ pooled_count f id
        by true is used =
            let room : 2 ≤ available f id = subst (λ n. 2 ≤ available f n) (eqb-true caller id is) room in
            omega arith
        by false is used = let within = l.within id in omega arith

    idle : (id : ℕ) → is_running g id ≡ false → in_use g id ≡ 0
    idle id still = by (id == f.next) refl (sym (ap (test_row (λ row. is_active row.life)) (at id)) ∙ still)
      where
        none : caller == id ≡ false → is_running f id ≡ false → in_use g id ≡ 0
        none off quiet = let used = uses id ∙ ap (λ b. in_use f id + 2 * cond b 1 0) off in let before = l.idle id quiet in omega arith

        by : (b : Bool) → id == f.next ≡ b → test_row (λ row. is_active row.life) (cond b (Some new) (get f.part id)) ≡ false → in_use g id ≡ 0
        by true here e =
            let is = eqb-true id f.next here in
            let lt = caller_below in
            none (ne_eqb caller id (λ same. omega (arith, same, lt, is))) (ap (λ n. is_running f n) is ∙ ap (test_row (λ row. is_active row.life)) free_next)
        by false off e = none (ne_eqb caller id (λ same. (let both = sym running ∙ ap (λ n. is_running f n) same ∙ e in cc))) e

    masks : (id parent : ℕ) (child above : PartRow) → get g.part id ≡ Some child → child.parent ≡ Some parent → get g.part parent ≡ Some above → IsSubset child.mask above.mask
    masks id parent child above is named there = by (id == f.next) (parent == f.next) refl refl (sym (at id) ∙ is) (sym (at parent) ∙ there)
      where
        by : (s t : Bool) → id == f.next ≡ s → parent == f.next ≡ t → cond s (Some new) (get f.part id) ≡ Some child → cond t (Some new) (get f.part parent) ≡ Some above → IsSubset child.mask
            above.mask
        by true t here up e h =
            let made : new ≡ child = cc in
            let same : caller ≡ parent = (let both = ap {A = PartRow} (λ r. r.parent) made ∙ named in cc) in
            let lt = caller_below in
            let off : parent == f.next ≡ false = ne_eqb parent f.next (λ e. omega (arith, e, same, lt)) in
            let found : get f.part caller ≡ Some above = ap (get f.part) same ∙ subst (λ b. cond b (Some new) (get f.part parent) ≡ Some above) (sym up ∙ off) h in
            let mask : restrict above.mask privilege.NEW_PARTITION ≡ child.mask = ap (λ r. restrict (mask_of r) privilege.NEW_PARTITION) (sym found) ∙ ap {A = PartRow} (λ r. r.mask) made in
            subst (λ mask. IsSubset mask above.mask) mask (λ k set. ((restrict-HasBit above.mask privilege.NEW_PARTITION k).0 set).0)
        by false true off up e h = absurd (let lt = l.below id child e in let less = l.above id parent child e named in omega (arith, eqb-true parent f.next up, lt, less))
        by false false off up e h = l.masks id parent child above e named h

    there : (b : Bool) (r : Option PartRow) → is_some r ≡ true → is_some (cond b (Some new) r) ≡ true
    there true r h = refl
    there false r h = h

    mailed : AreMailed (f.served + 1) f.port f.mail
    mailed = mail_counted f.served f.port f.mail (mailed_of pages f l)

    pub created : StateInvariant pages g
    created = record {
      below = below;
      above = above;
      within = within;
      idle = idle;
      masks = masks;
      paged = l.paged;
      owned = λ page row is. ap is_some (at row.owner) ∙ there (row.owner == f.next) (get f.part row.owner) (l.owned page row is);
      few = let few = l.few in omega arith;
      ports = mailed.ports;
      placed = mailed.placed;
    }
