-- Slots that rise: what a search finds among them, and one slot more or less.
use Rattle.std.proofs.Common.{◌≡◌, ℕ, zero, suc, ◌+◌, ◌-◌, ◌<◌, ◌≤◌, ◌&&◌, Bool, T, true, false, cond, List, [], ◌∷◌, length, get_or, Result, Ok, Err, None, Some, arith, inl, inr, sym, refl, ap}
use Rattle.std.proofs.Common.{subst, ◌∙◌, All, IfOk, IfErr, HoldsAt, insert, remove, is_lt, nat_cmp, eq-eqb, ne_eqb}
use Rattle.std.specs.Cmp.{nat_cmp_total, unsigned_tied}
use Rattle.std.specs.FinMap as map
use Rattle.std.specs.FinMap.{find}
use Rattle.std.specs.FinMap.Entries.{below_all}
use Rattle.std.specs.List.Sorted.{IsBinarySearchResult, IsNonDecreasingBy, IsPartitionPoint}
use Rattle.std.specs.Ordering.{eq_by_cmp, ordering_index}
use Rattle.std.proofs.lemmas.Bool.{cases_eq, cases_lt}
use Rattle.std.proofs.lemmas.Bool.Decides.{nat_tests}
use Rattle.std.proofs.lemmas.Cmp.{ranked}
use Rattle.std.proofs.lemmas.List.Edits.{length-insert, get_or-insert_below, get_or-insert_at, get_or-insert_above}
use Rattle.hv_ports.specs.Blocks.{IsRising}

pub tied_same : (q n : ℕ) → n ≡ q → eq_by_cmp nat_cmp q n ≡ true
tied_same q n same = unsigned_tied q n ∙ eq-eqb q n (sym same)

pub tied_apart : (q n : ℕ) → (n ≡ q → ⊥) → eq_by_cmp nat_cmp q n ≡ false
tied_apart q n apart = unsigned_tied q n ∙ ne_eqb q n (λ e. apart (sym e))

index_rises : (q m n : ℕ) → m ≤ n → ordering_index (nat_cmp m q) ≤ ordering_index (nat_cmp n q)
index_rises q m n h = grind (arith, nat_tests)

is_lt_below : (m n : ℕ) → m < n → is_lt (nat_cmp m n) ≡ true
is_lt_below m n h = grind (arith, nat_tests)

both_hold : (a b : Bool) → T a → T b → T (a && b)
both_hold true b p q = q
both_hold false b p q = absurd p

module _ {R : Type 0} where
  -- the id would go at place p: lower ids before it, and higher ones from it on
  abbrev pub IsGap : List (ℕ × R) → ℕ → ℕ → Type 0
  IsGap slots q p = IsPartitionPoint (λ slot. slot.0 < q) (λ slot. q < slot.0) slots p

  -- no slot has the id
  abbrev IsFree : List (ℕ × R) → ℕ → Type 0
  IsFree slots q = All (λ slot. slot.0 ≡ q → ⊥) slots

  -- slots that rise can be searched
  pub searchable : (slots : List (ℕ × R)) (q : ℕ) → IsRising slots → IsNonDecreasingBy (λ slot. ordering_index (nat_cmp slot.0 q)) slots
  searchable slots q rising i j d le within =
      elim (cases_eq i j) [
        | inl same ↦ rw same (omega arith)
        | inr apart ↦ index_rises q (get_or slots i d).0 (get_or slots j d).0 (let below : (get_or slots i d).0 < (get_or slots j d).0 = rising i j d (omega arith) within in omega arith)
      ]

  -- a search ends at the id, or at the gap for it
  pub searched_found : (slots : List (ℕ × R)) (q : ℕ) (r : Result ℕ ℕ) → IsBinarySearchResult (λ slot. nat_cmp slot.0 q) slots r → IfOk r (HoldsAt (λ slot. slot.0 ≡ q) slots)
  searched_found slots q (Ok p) is = λ d. ranked _ q _ (sym (is d))
  searched_found slots q (Err p) is = tt

  pub searched_gap : (slots : List (ℕ × R)) (q : ℕ) (r : Result ℕ ℕ) → IsRising slots → IsBinarySearchResult (λ slot. nat_cmp slot.0 q) slots r → IfErr r (IsGap slots q)
  searched_gap slots q (Ok p) rising is = tt
  searched_gap slots q (Err p) rising is =
      let parted = is (searchable slots q rising) in
      (λ k d low high. ranked _ q _ (sym (parted.0 k d low high)), λ k d low high. ranked _ q _ (sym (parted.1 k d low high)))

  -- an id with a gap is free
  free_in_gap : (slots : List (ℕ × R)) (q p : ℕ) → IsGap slots q p → IsFree slots q
  free_in_gap slots q p gap k d within same =
      elim (cases_lt k p) [
        | inl below ↦ omega (arith, gap.0 k d (omega arith) below, same)
        | inr above ↦ omega (arith, gap.1 k d above within, same)
      ]

  rising_tail : (slot : ℕ × R) (slots : List (ℕ × R)) → IsRising (slot ∷ slots) → IsRising slots
  rising_tail slot slots rising i j d lt within = rising (suc i) (suc j) d (omega arith) (omega arith)

  -- the first id differs from all later ones
  free_tail : (slot : ℕ × R) (slots : List (ℕ × R)) → IsRising (slot ∷ slots) → IsFree slots slot.0
  free_tail slot slots rising k d within same = omega (arith, rising 0 (suc k) d (omega arith) (omega arith), same)

  -- a slot's row is found by its id
  pub find_at : (slots : List (ℕ × R)) (q p : ℕ) (d : ℕ × R) → IsRising slots → p < length slots → (get_or slots p d).0 ≡ q → find nat_cmp q slots ≡ Some (get_or slots p d).1
  find_at [] q p d rising within is = absurd (omega (arith, within))
  find_at (slot ∷ slots) q zero d rising within is = rw (tied_same q slot.0 is) refl
  find_at (slot ∷ slots) q (suc p) d rising within is =
      rw (tied_apart q slot.0 (λ same. free_tail slot slots rising p d (omega arith) (is ∙ sym same)))
      (find_at slots q p d (rising_tail slot slots rising) (omega arith) is)

  find_free : (slots : List (ℕ × R)) (q : ℕ) → IsFree slots q → find nat_cmp q slots ≡ None
  find_free [] q free = refl
  find_free (slot ∷ slots) q free = rw (tied_apart q slot.0 (free 0 slot (omega arith))) (find_free slots q (λ k d within. free (suc k) d (omega arith)))

  -- no row is found by an id with a gap
  pub find_gap : (slots : List (ℕ × R)) (q p : ℕ) → IsGap slots q p → find nat_cmp q slots ≡ None
  find_gap slots q p gap = find_free slots q (free_in_gap slots q p gap)

  -- what is found once a free id has a slot
  find-insert : (slots : List (ℕ × R)) (q p : ℕ) (row : R) (x : ℕ) → IsFree slots q → find nat_cmp x (insert slots p (q, row)) ≡ cond (eq_by_cmp nat_cmp x q) (Some row) (find nat_cmp x slots)
  find-insert slots q zero row x free = refl
  find-insert [] q (suc p) row x free = refl
  find-insert (slot ∷ slots) q (suc p) row x free =
      let rest = find-insert slots q p row x (λ k d within. free (suc k) d (omega arith)) in
      elim (cases_eq slot.0 x) [
        | inl is ↦ rw (tied_same x slot.0 is, tied_apart x q (λ same. free 0 slot (omega arith) (is ∙ sym same))) refl
        | inr apart ↦ rw (tied_apart x slot.0 apart) rest
      ]

  pub find-insert_gap : (slots : List (ℕ × R)) (q p : ℕ) (row : R) (x : ℕ) → IsGap slots q p → find nat_cmp x (insert slots p (q, row)) ≡ cond (eq_by_cmp nat_cmp x q) (Some row) (find nat_cmp x slots)
  find-insert_gap slots q p row x gap = find-insert slots q p row x (free_in_gap slots q p gap)

  -- what is found once a slot is removed
  pub find-remove : (slots : List (ℕ × R)) (p : ℕ) (d : ℕ × R) (x : ℕ) → IsRising slots → p < length slots → find nat_cmp x (remove slots p) ≡ cond (eq_by_cmp nat_cmp x (get_or slots p d).0) None
      (find nat_cmp x slots)
  find-remove [] p d x rising within = absurd (omega (arith, within))
  find-remove (slot ∷ slots) zero d x rising within =
      elim (cases_eq slot.0 x) [
        | inl is ↦ rw (tied_same x slot.0 is) (find_free slots x (rw is at (free_tail slot slots rising)))
        | inr apart ↦ rw (tied_apart x slot.0 apart) refl
      ]
  find-remove (slot ∷ slots) (suc p) d x rising within =
      let rest = find-remove slots p d x (rising_tail slot slots rising) (omega arith) in
      elim (cases_eq slot.0 x) [
        | inl is ↦ rw (tied_same x slot.0 is, tied_apart x (get_or slots p d).0 (λ same. free_tail slot slots rising p d (omega arith) (same ∙ sym is))) refl
        | inr apart ↦ rw (tied_apart x slot.0 apart) rest
      ]

  -- the order with a slot in its gap: each new slot is an old one before it, itself, or an old one moved up by one
  pub rising-insert : (slots : List (ℕ × R)) (q p : ℕ) (row : R) → IsRising slots → p ≤ length slots → IsGap slots q p → IsRising (insert slots p (q, row))
  rising-insert slots q p row rising within gap i j d lt below =
      let new = insert slots p (q, row) in
      let long = length-insert slots p (q, row) within in
      let at_below : (k : ℕ) → k < p → (get_or new k d).0 ≡ (get_or slots k d).0 = λ k low. ap (λ (s : ℕ × R). s.0) (get_or-insert_below slots p (q, row) d k low within) in
      let at_here : (k : ℕ) → k ≡ p → (get_or new k d).0 ≡ q = λ k here. rw here (ap (λ (s : ℕ × R). s.0) (get_or-insert_at slots p (q, row) d within)) in
      let at_above : (k : ℕ) → p < k → (get_or new k d).0 ≡ (get_or slots (k - 1) d).0 = λ k high. subst (λ n. (get_or new n d).0 ≡ (get_or slots (k - 1) d).0) {x = k - 1 + 1} (omega arith)
      (ap (λ (s : ℕ × R). s.0) (get_or-insert_above slots p (q, row) d (k - 1) (omega arith) within)) in
      let before : (k : ℕ) → k < p → (get_or slots k d).0 < q = λ k low. gap.0 k d (omega arith) low in
      let after : (k : ℕ) → p ≤ k → k < length slots → q < (get_or slots k d).0 = λ k low high. gap.1 k d low high in
      let rises : (a b : ℕ) → a < b → b < length slots → (get_or slots a d).0 < (get_or slots b d).0 = λ a b low high. rising a b d low high in
      grind (arith, at_below i, at_here i, at_above i, at_below j, at_here j, at_above j, rises i j, rises i (j - 1), rises (i - 1) (j - 1), before i, after (j - 1))

  -- as many ids as slots
  pub counted : (slots : List (ℕ × R)) → IsRising slots → map.len (map.from_entries {R = nat_cmp} slots) ≡ length slots
  counted [] rising = map.len-empty nat_cmp R
  counted (slot ∷ slots) rising =
      let free = map.get-from_entries nat_cmp_total slots slot.0 ∙ find_free slots slot.0 (free_tail slot slots rising) in
      map.len-insert nat_cmp_total (map.from_entries slots) slot.0 slot.1
      ∙ rw free (rw (counted slots (rising_tail slot slots rising)) (omega arith))

  below_rising : (id : ℕ) (slots : List (ℕ × R)) → All (λ slot. id < slot.0) slots → T (below_all nat_cmp id slots)
  below_rising id [] above = tt
  below_rising id (slot ∷ slots) above = rw (is_lt_below id slot.0 (above 0 slot (omega arith))) (below_rising id slots (λ k d within. above (suc k) d (omega arith)))

  -- slots that rise stand as a map's entries do
  pub sorted_rising : (slots : List (ℕ × R)) → IsRising slots → T (map.is_sorted nat_cmp slots)
  sorted_rising [] rising = tt
  sorted_rising (slot ∷ slots) rising =
      let above : All (λ later. slot.0 < later.0) slots = λ k d within. rising 0 (suc k) d (omega arith) (omega arith) in
      both_hold _ _ (below_rising slot.0 slots above) (sorted_rising slots (rising_tail slot slots rising))
