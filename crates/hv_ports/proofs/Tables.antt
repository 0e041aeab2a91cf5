-- What is seen of a list of slots, and of it after each change.
use Rattle.std.proofs.Common.{◌≡◌, ℕ, ◌-◌, ◌<◌, ◌≤◌, min, Bool, Option, true, false, cond, List, [], length, get_or, None, Some, arith, inl, inr, refl, sym, ap, ◌∙◌, is_some, IfSome}
use Rattle.std.proofs.Common.{insert, remove, nat_cmp}
use Rattle.std.specs.Cmp.{nat_cmp_total}
use Rattle.std.specs.FinMap as map
use Rattle.std.specs.FinSet.{nat_cmp-IsAntisymmetric}
use Rattle.std.specs.Ordering.{eq_by_cmp}
use Rattle.std.proofs.lemmas.Bool.{cases_eq, false≢true}
use Rattle.hv_ports.specs.Blocks.{IsRising}
use Rattle.hv_ports.specs.Table.{cleared, rows_of, seen_of}
use Rattle.hv_ports.specs.declared.table.TheConstants.{MOST}
use Rattle.hv_ports.proofs.Rising.{IsGap, counted, find-insert_gap, find-remove, find_at, find_gap, sorted_rising, tied_apart, tied_same}

at_most_one : (b : Bool) → cond b 1 0 ≤ 1
at_most_one true = omega arith
at_most_one false = omega arith

-- a vector with a place free has one still, with fewer elements
pub still_fits : {S : Type 0} (spare : Option S) (len less cap same : ℕ) → less ≤ len → same ≡ cap → IfSome spare (λ _. len < cap) → IfSome spare (λ _. less < same)
still_fits None len less cap same le is fits = tt
still_fits (Some s) len less cap same le is fits = omega (arith, le, is, fits)

module _ {R : Type 0} where
  pub rows_of_none : rows_of {R = R} [] ≡ map.empty
  unfolding rows_of
  rows_of_none = refl

  -- the entries of the rows are the slots
  pub entries-rows_of : (slots : List (ℕ × R)) → IsRising slots → map.entries (rows_of slots) ≡ slots
  unfolding rows_of
  entries-rows_of slots rising =
      let sorted = sorted_rising slots rising in
      let alike = map.same_map nat_cmp_total nat_cmp-IsAntisymmetric (map.from_entries slots) (map.from_sorted slots)
      (λ x. map.get-from_entries nat_cmp_total slots x ∙ sym (map.get-from_sorted nat_cmp slots x sorted)) in
      ap map.entries alike ∙ map.entries-from_sorted nat_cmp slots sorted

  module _ (slots : List (ℕ × R)) (q p : ℕ) where
    -- the row at a place is the one of its id
    pub some_of : (d : ℕ × R) → IsRising slots → p < length slots → (get_or slots p d).0 ≡ q → map.get (rows_of slots) q ≡ Some (get_or slots p d).1
    unfolding rows_of
    some_of d rising within is = map.get-from_entries nat_cmp_total slots q ∙ find_at slots q p d rising within is

    -- an id with a gap has no row
    pub none_of : IsGap slots q p → map.get (rows_of slots) q ≡ None
    unfolding rows_of
    none_of gap = map.get-from_entries nat_cmp_total slots q ∙ find_gap slots q p gap

    -- a slot in its gap is a row more
    pub added_of : (row : R) → IsGap slots q p → rows_of (insert slots p (q, row)) ≡ map.insert (rows_of slots) q row
    unfolding rows_of
    added_of row gap =
        map.same_map nat_cmp_total nat_cmp-IsAntisymmetric _ _ (λ x.
        map.get-from_entries nat_cmp_total (insert slots p (q, row)) x
        ∙ find-insert_gap slots q p row x gap
        ∙ sym (map.get-insert nat_cmp_total (map.from_entries slots) q row x ∙ ap (cond (eq_by_cmp nat_cmp x q) (Some row)) (map.get-from_entries nat_cmp_total slots x)))

    -- without the slot of an id its row is removed
    pub removed_of : (d : ℕ × R) → IsRising slots → p < length slots → (get_or slots p d).0 ≡ q → rows_of (remove slots p) ≡ map.remove (rows_of slots) q
    unfolding rows_of
    removed_of d rising within is =
        map.same_map nat_cmp_total nat_cmp-IsAntisymmetric _ _ (λ x.
        map.get-from_entries nat_cmp_total (remove slots p) x
        ∙ find-remove slots p d x rising within
        ∙ ap (λ k. cond (eq_by_cmp nat_cmp x k) None (map.find nat_cmp x slots)) is
        ∙ sym (map.get-remove nat_cmp_total (map.from_entries slots) q x ∙ ap (cond (eq_by_cmp nat_cmp x q) None) (map.get-from_entries nat_cmp_total slots x)))

  -- nothing is removed where there is no row
  pub unchanged : (rows : map.FinMap nat_cmp R) (q : ℕ) → map.get rows q ≡ None → rows ≡ map.remove rows q
  unchanged rows q none =
      map.same_map nat_cmp_total nat_cmp-IsAntisymmetric _ _ (λ x.
      elim (cases_eq q x) [
        | inl is ↦ rw (map.get-remove nat_cmp_total rows q x, tied_same x q is) (rw is at none)
        | inr apart ↦ rw (map.get-remove nat_cmp_total rows q x, tied_apart x q apart) refl
      ])

  -- a slot with the id tells that it isn't free
  pub not_free : (slots : List (ℕ × R)) (q p : ℕ) (d : ℕ × R) → IsRising slots → map.contains_key (rows_of slots) q ≡ false → p < length slots → (get_or slots p d).0 ≡ q → ⊥
  not_free slots q p d rising free within is = false≢true (sym free ∙ ap is_some (some_of slots q p d rising within is))

  -- as many rows as slots
  pub count_of : (slots : List (ℕ × R)) → IsRising slots → map.len (rows_of slots) ≡ length slots
  unfolding rows_of
  count_of slots rising = counted slots rising

  -- what is seen after all slots are removed: the spare block stays unless there were as many slots as there may be
  pub cleared_seen : {S : Type 0} (slots none : List (ℕ × R)) (old now : Option S) → none ≡ [] → length slots < MOST → now ≡ old → seen_of none now ≡ cleared (seen_of slots old)
  cleared_seen slots none old now empty few same =
      let one = at_most_one (is_some old) in
      let room : min (cond (is_some old) 1 0) (MOST - 0) ≡ min (cond (is_some old) 1 0) (MOST - length slots) = omega (arith, one, few) in
      rw (empty, same) (λ i. record { rows = rows_of_none i; room = room i })

  pub cleared_full : {S : Type 0} (slots none : List (ℕ × R)) (old now : Option S) → none ≡ [] → length slots ≡ MOST → now ≡ None → seen_of none now ≡ cleared (seen_of slots old)
  cleared_full slots none old now empty full gone =
      let room : min 0 (MOST - 0) ≡ min (cond (is_some old) 1 0) (MOST - length slots) = omega (arith, full) in
      rw (empty, gone) (λ i. record { rows = rows_of_none i; room = room i })
