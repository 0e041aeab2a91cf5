-- A partition with another row.
use Rattle.std.proofs.Common.{◌≡◌, ℕ, ◌<◌, ◌≤◌, ◌==◌, Bool, true, false, cond, if◌then◌else◌, not, Option, Some, None, is_some, refl, sym, ap, subst, ◌∙◌, arith, eqb-true, ne_eqb, eq-eqb, count_by}
use Rattle.std.proofs.Common.{option_and_then, option_map, nat_cmp}
use Rattle.std.specs.Cmp.{nat_cmp_total}
use Rattle.std.specs.FinMap.{FinMap, get, contains_key, entries, nat_cmp-IsAntisymmetric}
use Rattle.hv_defs.proofs.Counts.{passes, count_by-none}
use Rattle.hv_defs.specs.declared.life.Life.TheVariants.{Active, Finalized}
use Rattle.hv_policy.proofs.Pairs.{pair_cmp_total, pair_cmp_exact}
use Rattle.hv_policy.specs.Count.{child_count, in_use, is_parent, parent_of}
use Rattle.hv_policy.specs.Effect.{given, narrowed, narrowed_row, narrows, property_set, rows_but, with_row}
use Rattle.hv_defs.specs.Flags.{pair_cmp}
use Rattle.hv_policy.specs.Flat.{Flat, PartRow}
use Rattle.hv_policy.specs.Mail.{mail_but}
use Rattle.hv_policy.specs.Met.{is_active, is_running, test_row}
use Rattle.hv_policy.specs.declared.property.Property.{Property}
use Rattle.hv_policy.specs.declared.property.Property.TheVariants.{PrivilegeFlags, CpuReserve, CpuCap, CpuWeight}
use Rattle.hv_privs.specs.Privileges.{IsSubset, of}
use Rattle.hv_policy.proofs.Rows.{get-narrowed, get-with_row, get-rows_but}
use Rattle.hv_policy.proofs.Subtrees.{child_within}
use Rattle.hv_policy.specs.Subtree.{is_in_subtree}
use Rattle.hv_privs.proofs.PrivilegesLemmas.{restrict-HasBit}
use Rattle.hv_privs.specs.declared.Privileges.{Privileges}
use Rattle.hv_defs.proofs.Tallies.{count-alike, none-counted}
use Rattle.hv_invariants.proofs.PortMessages.{mail_left, mailed_of, ports_but}
use Rattle.hv_invariants.proofs.OwnedRows.{no_more, owned}
use Rattle.hv_invariants.proofs.ProcessorsAndPorts.{less}
use Rattle.hv_invariants.specs.StateInvariant.{StateInvariant}

-- what uses nothing is nobody's parent
pub childless : (f : Flat) (id q : ℕ) (row : PartRow) → in_use f id ≡ 0 → get f.part q ≡ Some row → row.parent ≡ Some id → ⊥
childless f id q row none is named =
    let none : child_count f id ≡ 0 = omega arith in
    let apart = sym (ap (passes (λ e. is_parent id e.1.parent) q) is) ∙ none-counted nat_cmp_total nat_cmp-IsAntisymmetric (λ e. is_parent id e.1.parent) f.part none q in
    let own : is_parent id row.parent ≡ true = ap (is_parent id) named ∙ eq-eqb id id refl in
    let both = sym own ∙ apart in
    cc

-- each mask is within that of the parent
abbrev AreWithin : FinMap nat_cmp PartRow → Type 0
AreWithin part = (id up : ℕ) (child above : PartRow) → get part id ≡ Some child → child.parent ≡ Some up → get part up ≡ Some above → IsSubset child.mask above.mask

-- the partitions with another row each, which has the parent of the one before
module _ (pages : ℕ) (f : Flat) (l : StateInvariant pages f) (part : FinMap nat_cmp PartRow) (h : ℕ → PartRow → PartRow) (at : (id : ℕ) → get part id ≡ option_map (h id) (get f.part id))
    (parents : (id : ℕ) (row : PartRow) → (h id row).parent ≡ row.parent) where
  abbrev g : Flat
  g = record f { part = part }

  -- each row was there, as one with the same parent
  was : (id : ℕ) (row : PartRow) → get part id ≡ Some row → (old : PartRow) × (get f.part id ≡ Some old) × (row ≡ h id old) × (row.parent ≡ old.parent)
  was id row is = by (get f.part id) refl (sym (at id) ∙ is)
    where
      by : (r : Option PartRow) → get f.part id ≡ r → option_map (h id) r ≡ Some row → (old : PartRow) × (get f.part id ≡ Some old) × (row ≡ h id old) × (row.parent ≡ old.parent)
      by None is e = cc
      by (Some old) is e = (old, is, cc, let made : h id old ≡ row = cc in ap {A = PartRow} (λ row. row.parent) (sym made) ∙ parents id old)

  same_children : (id : ℕ) → child_count g id ≡ child_count f id
  same_children id = count-alike nat_cmp_total nat_cmp-IsAntisymmetric p p part f.part (λ q. ap (passes p q) (at q) ∙ one q (get f.part q))
    where
      p : ℕ × PartRow → Bool
      p e = is_parent id e.1.parent

      one : (q : ℕ) (r : Option PartRow) → passes (λ (e : ℕ × PartRow). is_parent id e.1.parent) q (option_map (h q) r) ≡ passes (λ (e : ℕ × PartRow). is_parent id e.1.parent) q r
      one q None = refl
      one q (Some row) = ap (is_parent id) (parents q row)

  same_use : (id : ℕ) → in_use g id ≡ in_use f id
  same_use id = let same = same_children id in omega arith

  still_there : (id : ℕ) → contains_key part id ≡ contains_key f.part id
  still_there id = ap is_some (at id) ∙ one (get f.part id)
    where
      one : (r : Option PartRow) → is_some (option_map (h id) r) ≡ is_some r
      one None = refl
      one (Some row) = refl

  -- what isn't Active any more uses nothing
  abbrev IsQuiet : Type 0
  IsQuiet = (id : ℕ) (row : PartRow) → get f.part id ≡ Some row → is_active (h id row).life ≡ false → in_use f id ≡ 0

  idle : IsQuiet → (id : ℕ) → is_running g id ≡ false → in_use f id ≡ 0
  idle quiet id still = by (get f.part id) refl (sym (ap (test_row (λ row. is_active row.life)) (at id)) ∙ still)
    where
      by : (r : Option PartRow) → get f.part id ≡ r → test_row (λ row. is_active row.life) (option_map (h id) r) ≡ false → in_use f id ≡ 0
      by None is e = l.idle id (ap (test_row (λ row. is_active row.life)) is)
      by (Some row) is e = quiet id row is e

  changed : IsQuiet → AreWithin part → StateInvariant pages g
  changed quiet masks = record {
    below = λ id row is. (let (old, there, made, same) = was id row is in l.below id old there);
    above = λ id parent row is named. (let (old, there, made, same) = was id row is in l.above id parent old there (sym same ∙ named));
    within = λ id. (let same = same_use id in let within = l.within id in omega arith);
    idle = λ id still. same_use id ∙ idle quiet id still;
    masks = masks;
    paged = l.paged;
    owned = λ page row is. still_there row.owner ∙ l.owned page row is;
    few = l.few;
    ports = l.ports;
    placed = l.placed;
  }

  -- a change of a row and of its parent's keeps masks within one another
  abbrev KeepsWithin : Type 0
  KeepsWithin = (id up : ℕ) (child above : PartRow) → get f.part id ≡ Some child → child.parent ≡ Some up → IsSubset child.mask above.mask → IsSubset (h id child).mask (h up above).mask

  masks_within : KeepsWithin → AreWithin part
  masks_within keeps id up child above is named there =
      let (old, was_child, made, same) = was id child is in
      let (over, was_above, made_above, _) = was up above there in
      let old_named = sym same ∙ named in
      subst (λ row. IsSubset row.mask above.mask) (sym made)
      (subst (λ row. IsSubset (h id old).mask row.mask) (sym made_above)
      (keeps id up old over was_child old_named (l.masks id up old over was_child old_named was_above)))

-- a change of the row of one partition
abbrev pub only_at : ℕ → (PartRow → PartRow) → ℕ → PartRow → PartRow
only_at target h id row = cond (id == target) (h row) row

pub row_only : (part : FinMap nat_cmp PartRow) (target : ℕ) (h : PartRow → PartRow) (id : ℕ) → get (with_row part target h) id ≡ option_map (only_at target h id) (get part id)
row_only part target h id = get-with_row part target h id ∙ by (id == target) refl
  where
    own : (r : Option PartRow) → r ≡ option_map (λ row. row) r
    own None = refl
    own (Some row) = refl

    by : (b : Bool) → id == target ≡ b → cond b (option_map h (get part target)) (get part id) ≡ option_map (λ row. cond b (h row) row) (get part id)
    by true here = ap (λ n. option_map h (get part n)) (sym (eqb-true id target here))
    by false off = own (get part id)

module _ (pages : ℕ) (f : Flat) (l : StateInvariant pages f) (target : ℕ) (h : PartRow → PartRow) (parents : (row : PartRow) → (h row).parent ≡ row.parent) where
  only_parents : (id : ℕ) (row : PartRow) → (only_at target h id row).parent ≡ row.parent
  only_parents id row = by (id == target)
    where
      by : (b : Bool) → (cond b (h row) row).parent ≡ row.parent
      by true = parents row
      by false = refl

  one_changed : ((row : PartRow) → get f.part target ≡ Some row → is_active (h row).life ≡ false → in_use f target ≡ 0) → AreWithin (with_row f.part target h) → StateInvariant pages
      (record f { part = with_row f.part target h })
  one_changed quiet = changed pages f l (with_row f.part target h) (only_at target h) (row_only f.part target h) only_parents (λ id row is. by id row is (id == target) refl)
    where
      by : (id : ℕ) (row : PartRow) → get f.part id ≡ Some row → (b : Bool) → id == target ≡ b → is_active (cond b (h row) row).life ≡ false → in_use f id ≡ 0
      by id row is true here e = let same = eqb-true id target here in ap (in_use f) same ∙ quiet row (ap (get f.part) (sym same) ∙ is) e
      by id row is false off e = l.idle id (ap (test_row (λ row. is_active row.life)) is ∙ e)

  -- where the change leaves the mask
  masks_kept : ((row : PartRow) → (h row).mask ≡ row.mask) → AreWithin (with_row f.part target h)
  masks_kept same =
      masks_within pages f l (with_row f.part target h) (only_at target h) (row_only f.part target h) only_parents
      (λ id up child above is named within. subst (λ mask. IsSubset mask (only_at target h up above).mask) (sym (mask id child)) (subst (IsSubset child.mask) (sym (mask up above)) within))
    where
      mask : (id : ℕ) (row : PartRow) → (only_at target h id row).mask ≡ row.mask
      mask id row = by (id == target)
        where
          by : (b : Bool) → (cond b (h row) row).mask ≡ row.mask
          by true = same row
          by false = refl

-- a mask that is narrowed is within one that is narrowed alike, or not at all
narrowed_within : (value : Privileges) (child above : PartRow) (s t : Bool) → (t ≡ true → s ≡ true) → IsSubset child.mask above.mask → IsSubset (if s then narrowed_row value child else child).mask
    (if t then narrowed_row value above else above).mask
narrowed_within value child above true true both within = λ k set.
    (let (own, given) = (restrict-HasBit child.mask value k).0 set in (restrict-HasBit above.mask value k).1 (within k own, given))
narrowed_within value child above true false both within = λ k set. within k ((restrict-HasBit child.mask value k).0 set).0
narrowed_within value child above false true both within = let no = both refl in cc
narrowed_within value child above false false both within = within

-- a parent's id is below its child's
pub parents_below : (pages : ℕ) (f : Flat) → StateInvariant pages f → (id up : ℕ) → parent_of f id ≡ Some up → up < id
parents_below pages f l id up h = by (get f.part id) refl h
  where
    by : (r : Option PartRow) → get f.part id ≡ r → option_and_then (λ row. row.parent) r ≡ Some up → up < id
    by None is e = cc
    by (Some row) is e = l.above id up row is e

module _ (pages : ℕ) (f : Flat) (l : StateInvariant pages f) (target : ℕ) where
  pub activated : StateInvariant pages (record f { part = with_row f.part target (λ row. record row { life = Active }) })
  activated =
      one_changed pages f l target (λ row. record row { life = Active }) (λ _. refl) (λ row is e. cc)
      (masks_kept pages f l target (λ row. record row { life = Active }) (λ _. refl) (λ _. refl))

  -- a change that leaves all but the CPU properties
  plain : (h : PartRow → PartRow) → ((r : PartRow) → (h r).parent ≡ r.parent) → ((r : PartRow) → (h r).life ≡ r.life) → ((r : PartRow) → (h r).mask ≡ r.mask) → StateInvariant pages
      (record f { part = with_row f.part target h })
  plain h parents lives masks =
      one_changed pages f l target h parents
      (λ row is e. l.idle target (ap (test_row (λ row. is_active row.life)) is ∙ ap is_active (sym (lives row)) ∙ e))
      (masks_kept pages f l target h parents masks)

  -- a subtree's masks restricted: a parent in the subtree has its children there, too
  narrowed_lawful : (value : Privileges) → StateInvariant pages (record f { part = narrowed f target value })
  narrowed_lawful value =
      changed pages f l (narrowed f target value) narrowing (get-narrowed f target value) parents
      (λ id row is. by_life id row is (is_in_subtree f target id))
      (masks_within pages f l (narrowed f target value) narrowing (get-narrowed f target value) parents (λ id up child above is named.
      narrowed_within value child above (is_in_subtree f target id) (is_in_subtree f target up) (child_within (parent_of f) target rising id up (ap (option_and_then (λ row. row.parent)) is ∙ named))))
    where
      narrowing : ℕ → PartRow → PartRow
      narrowing id row = if is_in_subtree f target id then narrowed_row value row else row

      parents : (id : ℕ) (row : PartRow) → (narrowing id row).parent ≡ row.parent
      parents id row = by (is_in_subtree f target id)
        where
          by : (b : Bool) → (if b then narrowed_row value row else row).parent ≡ row.parent
          by true = refl
          by false = refl

      by_life : (id : ℕ) (row : PartRow) → get f.part id ≡ Some row → (b : Bool) → is_active (if b then narrowed_row value row else row).life ≡ false → in_use f id ≡ 0
      by_life id row is true e = l.idle id (ap (test_row (λ row. is_active row.life)) is ∙ e)
      by_life id row is false e = l.idle id (ap (test_row (λ row. is_active row.life)) is ∙ e)

      rising : (id up : ℕ) → parent_of f id ≡ Some up → up < id
      rising = parents_below pages f l

  -- a mask is within that of the parent
  abbrev MayGive : ℕ → Type 0
  MayGive value = (giver : ℕ) × (row : PartRow) × (above : PartRow) × (get f.part target ≡ Some row) × (row.parent ≡ Some giver) × (get f.part giver ≡ Some above) × IsSubset (of value) above.mask

  -- such a mask, for a partition that uses nothing
  module _ (giver value : ℕ) (row above : PartRow) (was : get f.part target ≡ Some row) (named : row.parent ≡ Some giver) (there : get f.part giver ≡ Some above)
      (within : IsSubset (of value) above.mask) (unused : in_use f target ≡ 0) where
    abbrev masked : PartRow → PartRow
    masked = given (Some PrivilegeFlags) value

    mask_given : StateInvariant pages (record f { part = with_row f.part target masked })
    mask_given = one_changed pages f l target masked (λ _. refl) (λ _ _ _. unused) masks
      where
        masks : (id up : ℕ) (child over : PartRow) → get (with_row f.part target (given (Some PrivilegeFlags) value)) id ≡ Some child → child.parent ≡ Some up → get
            (with_row f.part target (given (Some PrivilegeFlags) value)) up ≡ Some over → IsSubset child.mask over.mask
        masks id up child over is is_up e = by (id == target) (up == target) refl refl (sym (get-with_row f.part target (given (Some PrivilegeFlags) value) id) ∙ is)
            (sym (get-with_row f.part target (given (Some PrivilegeFlags) value) up) ∙ e)
          where
            made : Option PartRow → Option PartRow
            made = option_map (given (Some PrivilegeFlags) value)

            by : (s t : Bool) → id == target ≡ s → up == target ≡ t → cond s (option_map (given (Some PrivilegeFlags) value) (get f.part target)) (get f.part id) ≡ Some child → cond t
                (option_map (given (Some PrivilegeFlags) value) (get f.part target)) (get f.part up) ≡ Some over → IsSubset child.mask over.mask
            by true t here up_is e h =
                let new : given (Some PrivilegeFlags) value row ≡ child = (let both = sym (ap (option_map (given (Some PrivilegeFlags) value)) was) ∙ e in cc) in
                let giver_up : giver ≡ up = (let both = sym named ∙ ap {A = PartRow} (λ r. r.parent) new ∙ is_up in cc) in
                let less = l.above target giver row was named in
                let off : up == target ≡ false = ne_eqb up target (λ e. omega (arith, e, giver_up, less)) in
                let found : get f.part up ≡ Some over = subst (λ b. cond b (option_map (given (Some PrivilegeFlags) value) (get f.part target)) (get f.part up) ≡ Some over) (sym up_is ∙ off) h in
                let same : above ≡ over = (let both = sym there ∙ ap (get f.part) giver_up ∙ found in cc) in
                subst (λ mask. IsSubset mask over.mask) (ap {A = PartRow} (λ r. r.mask) new)
                (subst (IsSubset (of value)) (ap {A = PartRow} (λ r. r.mask) same) within)
            by false true off up_is e h = absurd (childless f target id child unused e (is_up ∙ ap Some (eqb-true up target up_is)))
            by false false off up_is e h = l.masks id up child over e is_up h

  -- a property given; a mask only as `mask_given` has it
  given_row : (property : Option Property) (value : ℕ) → (property ≡ Some PrivilegeFlags → MayGive value × (in_use f target ≡ 0)) → StateInvariant pages
      (record f { part = with_row f.part target (given property value) })
  given_row None value may = plain (given None value) (λ _. refl) (λ _. refl) (λ _. refl)
  given_row (Some CpuReserve) value may = plain (given (Some CpuReserve) value) (λ _. refl) (λ _. refl) (λ _. refl)
  given_row (Some CpuCap) value may = plain (given (Some CpuCap) value) (λ _. refl) (λ _. refl) (λ _. refl)
  given_row (Some CpuWeight) value may = plain (given (Some CpuWeight) value) (λ _. refl) (λ _. refl) (λ _. refl)
  given_row (Some PrivilegeFlags) value may =
      let ((giver, row, above, was, named, there, within), unused) = may refl in
      mask_given giver value row above was named there within unused

  -- a property set: a mask narrows the subtree of a partition that is Active, and one that isn't uses nothing
  pub set_row : (property : Option Property) (value : ℕ) → (property ≡ Some PrivilegeFlags → MayGive value) → StateInvariant pages (record f { part = property_set f target property value })
  set_row property value may = by (narrows property f target) refl
    where
      by : (b : Bool) → narrows property f target ≡ b → StateInvariant pages (record f { part = if b then narrowed f target (of value) else with_row f.part target (given property value) })
      by true is = narrowed_lawful (of value)
      by false is = given_row property value (λ mask. (may mask, l.idle target (sym (ap (λ p. narrows p f target) mask) ∙ is)))

  -- without the processors, ports, connections and messages of one partition
  abbrev dropped : Flat
  dropped = record f { vp = rows_but target f.vp; port = rows_but target f.port; conn = rows_but target f.conn; mail = mail_but target f.mail }

  rows-fewer : {X : Type 0} (rows : FinMap pair_cmp X) (id : ℕ) → owned (rows_but target rows) id ≤ owned rows id
  rows-fewer rows = no_more rows (rows_but target rows) (λ key h. by (not (key.0 == target)) (get rows key) (sym (ap is_some (get-rows_but rows target key)) ∙ h))
    where
      by : {X : Type 0} (b : Bool) (r : Option X) → is_some (cond b r None) ≡ true → is_some r ≡ true
      by true r h = h
      by false r h = cc

  rows-none : {X : Type 0} (rows : FinMap pair_cmp X) → count_by (λ (e : (ℕ × ℕ) × X). e.0.0 == target) (entries (rows_but target rows)) ≡ 0
  rows-none {X = X} rows = count_by-none pair_cmp pair_cmp_total pair_cmp_exact (rows_but target rows) (λ e. e.0.0 == target)
      (λ key. ap (passes (λ (e : (ℕ × ℕ) × X). e.0.0 == target) key) (get-rows_but rows target key) ∙ by key (key.0 == target) refl (get rows key))
    where
      by : (key : ℕ × ℕ) (b : Bool) → key.0 == target ≡ b → (r : Option X) → passes (λ (e : (ℕ × ℕ) × X). e.0.0 == target) key (cond (not b) r None) ≡ false
      by key true is r = refl
      by key false is None = refl
      by key false is (Some x) = is

  dropped_lawful : StateInvariant pages dropped
  dropped_lawful =
      less pages f l (rows_but target f.vp) (rows_but target f.port) (rows_but target f.conn) (mail_but target f.mail) f.served (omega arith)
      (ports_but f.served f.port target (mail_but target f.mail) (mail_left f.served f.port (λ row. not (row.part == target)) f.mail (mailed_of pages f l)))
      (λ id. (let vps = rows-fewer f.vp id in let ports = rows-fewer f.port id in let conns = rows-fewer f.conn id in omega arith))

  pub closed : child_count f target ≡ 0 → StateInvariant pages (record dropped { part = with_row f.part target (λ row. record row { life = Finalized }) })
  closed none =
      one_changed pages dropped dropped_lawful target (λ row. record row { life = Finalized }) (λ _. refl)
      (λ row is e. (let vps = rows-none f.vp in let ports = rows-none f.port in let conns = rows-none f.conn in omega arith))
      (masks_kept pages dropped dropped_lawful target (λ row. record row { life = Finalized }) (λ _. refl) (λ _. refl))
