-- The processors of a list of slots.
use Rattle.std.proofs.Common.{◌≡◌, ℕ, ◌+◌, ◌-◌, ◌<◌, ◌≤◌, min, ◌==◌, false, cond, List, [], ◌∷◌, ◌++◌, length, get_or, set as list_set, Option, None, Some, inl, inr, arith, refl, sym, ap, ◌∙◌}
use Rattle.std.proofs.Common.{is_some, remove, nat_cmp, length-append, length-set}
use Rattle.std.specs.Cmp.{nat_cmp_total, nat_eq_equiv}
use Rattle.std.specs.FinMap as map
use Rattle.std.specs.FinSet.{nat_cmp-IsAntisymmetric}
use Rattle.std.specs.List.{IsDistinct, position_from}
use Rattle.std.specs.Ordering.{eq_by_cmp}
use Rattle.std.proofs.lemmas.Bool.{cases_eq, false≢true}
use Rattle.std.proofs.lemmas.List.Edits.{length-remove}
use Rattle.std.proofs.lemmas.Map.Keys.{IsDistinct-push}
use Rattle.hv_vp.specs.Vp.{VpState}
use Rattle.hv_vp.specs.Vps.{AreDistinct, AreSlots, VpsState, cleared, entries_of, no_vps, seen_of, vps_of, with_vp}
use Rattle.hv_vp.specs.declared.vps.Slot.{Slot}
use Rattle.hv_vp.specs.declared.vps.TheConstants.{MOST}
use Rattle.hv_vp.proofs.Places.{tied_same, tied_apart}
use Rattle.hv_vp.proofs.Slots.{changed, counted, distinct_but, entries_push, keys_push, keys_set, no_slot, removed, slot_at, unlisted}

none_if : {X : Type 0} (o : Option X) → is_some o ≡ false → o ≡ None
none_if None e = refl
none_if (Some x) e = absurd (false≢true (sym e))

-- no slots
pub no_slots : (A : Type 0) → AreSlots {A = A} []
unfolding IsDistinct
no_slots A = record { distinct = tt; few = omega arith }

pub vps_of_none : (A : Type 0) → vps_of {A = A} [] ≡ map.empty
unfolding vps_of
vps_of_none A = refl

module _ {A : Type 0} (slots : List (Slot A)) (q : ℕ) where
  pub none_of : position_from (λ slot. slot.index == q) 0 slots ≡ None → map.get (vps_of slots) q ≡ None
  unfolding vps_of
  none_of scan = map.get-from_entries nat_cmp_total (entries_of slots) q ∙ no_slot (λ slot. slot.index) (λ slot. slot.vp) q slots 0 scan

  pub some_of : (place : ℕ) (d : Slot A) → position_from (λ slot. slot.index == q) 0 slots ≡ Some place
      → map.get (vps_of slots) q ≡ Some (get_or slots place d).vp
  unfolding vps_of
  some_of place d scan =
      let at = slot_at (λ slot. slot.index) (λ slot. slot.vp) q slots 0 place d scan in
      let is : at.0 ≡ place = omega (arith, at.1) in
      map.get-from_entries nat_cmp_total (entries_of slots) q ∙ rw is at at.3

  -- nothing is removed where no slot has the index
  pub unchanged : map.get (vps_of slots) q ≡ None → vps_of slots ≡ map.remove (vps_of slots) q
  unchanged none =
      map.same_map nat_cmp_total nat_cmp-IsAntisymmetric _ _ (λ p.
      elim (cases_eq q p) [
        | inl is ↦ rw (map.get-remove nat_cmp_total (vps_of slots) q p, tied_same p q is) (rw is at none)
        | inr apart ↦ rw (map.get-remove nat_cmp_total (vps_of slots) q p, tied_apart p q apart) refl
      ])

  -- without the slot of an index its processor is removed
  pub removed_of : (place : ℕ) (d : Slot A) → AreDistinct slots → position_from (λ slot. slot.index == q) 0 slots ≡ Some place
      → vps_of (remove slots place) ≡ map.remove (vps_of slots) q
  unfolding vps_of
  removed_of place d distinct scan =
      let at = slot_at (λ slot. slot.index) (λ slot. slot.vp) q slots 0 place d scan in
      let is : at.0 ≡ place = omega (arith, at.1) in
      let here = rw is at at.4 in
      map.same_map nat_cmp_total nat_cmp-IsAntisymmetric _ _ (λ p.
      map.get-from_entries nat_cmp_total (entries_of (remove slots place)) p
      ∙ removed (λ slot. slot.index) (λ slot. slot.vp) p slots place d distinct (omega (arith, at.2, is))
      ∙ ap (λ k. cond (eq_by_cmp nat_cmp p k) None (map.find nat_cmp p (entries_of slots))) here
      ∙ sym (map.get-remove nat_cmp_total (map.from_entries (entries_of slots)) q p ∙ ap (cond (eq_by_cmp nat_cmp p q) None) (map.get-from_entries nat_cmp_total (entries_of slots) p)))

-- one slot less
pub one_less : {A : Type 0} (slots : List (Slot A)) (place : ℕ) → place < length slots → AreSlots slots → AreSlots (remove slots place)
one_less slots place below are =
    record {
      distinct = distinct_but (λ slot. slot.index) (λ slot. slot.vp) slots place are.distinct;
      few = omega (arith, length-remove slots place below, are.few);
    }

-- one slot more
module _ {A : Type 0} (slots : List (Slot A)) (slot : Slot A) (free : map.contains_key (vps_of slots) slot.index ≡ false) where
  not_found : map.find nat_cmp slot.index (entries_of slots) ≡ None
  unfolding vps_of
  not_found = sym (map.get-from_entries nat_cmp_total (entries_of slots) slot.index) ∙ none_if _ free

  pub one_more : AreSlots slots → (cap : ℕ) → 1 ≤ (seen_of slots cap).room → AreSlots (slots ++ slot ∷ [])
  one_more are cap room =
      record {
        distinct =
            rw (keys_push (λ slot. slot.index) (λ slot. slot.vp) slots slot)
            (IsDistinct-push nat_eq_equiv _ slot.index are.distinct (unlisted (λ slot. slot.index) (λ slot. slot.vp) slot.index slots not_found));
        few = omega (arith, length-append slots (slot ∷ []), room);
      }

  pub added_of : vps_of (slots ++ slot ∷ []) ≡ map.insert (vps_of slots) slot.index slot.vp
  unfolding vps_of
  added_of =
      ap map.from_entries (entries_push (λ slot. slot.index) (λ slot. slot.vp) slots slot)
      ∙ map.from_entries_push nat_cmp_total nat_cmp-IsAntisymmetric (entries_of slots) slot.index slot.vp not_found

-- another state in a slot
module _ {A : Type 0} (slots : List (Slot A)) (place : ℕ) (slot : Slot A) (are : AreSlots slots) (at : slot ≡ get_or slots place slot) where
  pub still_slots : (vp : VpState) → AreSlots (list_set slots place (record { index = slot.index; vp = vp }))
  still_slots vp =
      record {
        distinct = rw (keys_set (λ slot. slot.index) (λ slot. slot.vp) slots place (record { index = slot.index; vp = vp }) slot (ap (λ (s : Slot A). s.index) at)) are.distinct;
        few = rw (length-set slots place (record { index = slot.index; vp = vp })) are.few;
      }

  pub changed_of : (vp : VpState) → place < length slots
      → vps_of (list_set slots place (record { index = slot.index; vp = vp })) ≡ map.insert (vps_of slots) slot.index vp
  unfolding vps_of
  changed_of vp below =
      map.same_map nat_cmp_total nat_cmp-IsAntisymmetric _ _ (λ p.
      map.get-from_entries nat_cmp_total (entries_of (list_set slots place (record { index = slot.index; vp = vp }))) p
      ∙ changed (λ slot. slot.index) (λ slot. slot.vp) p slots place (record { index = slot.index; vp = vp }) slot are.distinct below (ap (λ (s : Slot A). s.index) at)
      ∙ sym (map.get-insert nat_cmp_total (map.from_entries (entries_of slots)) slot.index vp p ∙ ap (cond (eq_by_cmp nat_cmp p slot.index) (Some vp))
      (map.get-from_entries nat_cmp_total (entries_of slots) p)))

-- a slot's state is that of its index
pub seen_in : {A : Type 0} (slots : List (Slot A)) (q place : ℕ) (slot : Slot A) → slot ≡ get_or slots place slot
    → position_from (λ s. s.index == q) 0 slots ≡ Some place → Some slot.vp ≡ map.get (vps_of slots) q
seen_in slots q place slot at scan = ap (λ (s : Slot _). Some s.vp) at ∙ sym (some_of slots q place slot scan)

-- what is seen once another state is written through a loan of a slot's
module _ {A : Type 0} (slots : List (Slot A)) (cap q place : ℕ) (slot : Slot A) (now : VpsState) (are : AreSlots slots) (at : slot ≡ get_or slots place slot)
    (scan : position_from (λ s. s.index == q) 0 slots ≡ Some place) where
  found : (place < length slots) × (slot.index ≡ q)
  found =
      let first = slot_at (λ s. s.index) (λ s. s.vp) q slots 0 place slot scan in
      let is : first.0 ≡ place = omega (arith, first.1) in
      (omega (arith, first.2, is), ap (λ (s : Slot A). s.index) at ∙ rw is at first.4)

  pub lent : seen_of slots cap ≡ now → (vp : VpState) → seen_of (list_set slots place (record { index = slot.index; vp = vp })) cap ≡ with_vp now q vp
  lent seen vp =
      let vps = changed_of slots place slot are at vp found.0 ∙ ap (λ k. map.insert (vps_of slots) k vp) found.1 in
      let room = ap (λ n. min cap MOST - n) (length-set slots place (record { index = slot.index; vp = vp })) in
      let both : seen_of (list_set slots place (record { index = slot.index; vp = vp })) cap ≡ with_vp (seen_of slots cap) q vp = λ i. record { vps = vps i; room = room i } in
      both ∙ ap (λ v. with_vp v q vp) seen

pub same_name : {N X Y : Type 0} {n : N} {f h : X → Y} → ((x : X) → f x ≡ h x) → ◌≡◌ {A = N × (X → Y)} (n, f) (n, h)
same_name {n = n} p = λ i. (n, λ x. p x i)

-- as many processors as slots
pub count_of : {A : Type 0} (slots : List (Slot A)) → AreDistinct slots → map.len (vps_of slots) ≡ length slots
unfolding vps_of
count_of slots distinct = counted (λ slot. slot.index) (λ slot. slot.vp) slots distinct

-- what is seen of no slots, whatever was seen in the same memory before
pub cleared_seen : {A : Type 0} (slots none : List (Slot A)) (cap : ℕ) → AreSlots slots → none ≡ [] → length slots ≤ cap → seen_of none cap ≡ cleared (seen_of slots cap)
cleared_seen {A} slots none cap are empty within =
    let room : min cap MOST - 0 ≡ min cap MOST - length slots + map.len (vps_of slots) =
    rw (count_of slots are.distinct) (omega (arith, are.few, within))
    in
    rw empty (λ i. record { vps = vps_of_none A i; room = room i })

-- what is seen of no slots and no memory for any
pub none_seen : {A : Type 0} (slots : List (Slot A)) (cap : ℕ) → slots ≡ [] → cap ≡ 0 → seen_of slots cap ≡ no_vps
none_seen {A} slots cap none room =
    let seen : record { vps = vps_of {A = A} []; room = 0 } ≡ no_vps = λ i. record { vps = vps_of_none A i; room = 0 } in
    rw (none, room) seen
