-- Slots with their keys, as a map.
use Rattle.std.proofs.Common.{◌≡◌, ℕ, zero, suc, ◌+◌, ◌<◌, false, cond, Bool, ◌==◌, List, [], ◌∷◌, ◌++◌, length, get_or, set as list_set, Option, None, Some, IfSome, arith, inl, inr, sym, refl}
use Rattle.std.proofs.Common.{ap, ◌∙◌}
use Rattle.std.specs.Prelude.{map as list_map, nat_eq, remove}
use Rattle.std.specs.Ordering.{nat_cmp, eq_by_cmp}
use Rattle.std.specs.Cmp.{nat_cmp_total}
use Rattle.std.specs.List.{AllByRecursion, IsDistinct, list_any, position_from}
use Rattle.std.specs.FinMap as map
use Rattle.std.specs.FinMap.{find}
use Rattle.std.proofs.lemmas.Bool.{cases_eq, ne_eqb, eq-eqb, false≢true}
use Rattle.std.proofs.lemmas.Option.{none-some, same_Some}
use Rattle.hv_vp.proofs.Places.{tied_same, tied_apart}

differ : (q n : ℕ) → nat_eq q n ≡ false → n ≡ q → ⊥
differ q n apart is = false≢true (sym apart ∙ eq-eqb q n (sym is))

module _ {S X : Type 0} (key : S → ℕ) (val : S → X) where
  abbrev entries : List S → List (ℕ × X)
  entries slots = list_map (λ s. (key s, val s)) slots

  abbrev keys : List S → List ℕ
  keys slots = list_map key slots

  abbrev here : ℕ → S → Bool
  here q s = key s == q

  -- a scan that finds a slot finds the one of the key
  pub slot_at : (q : ℕ) (slots : List S) (i p : ℕ) (d : S) → position_from (here q) i slots ≡ Some p
      → (k : ℕ) × (i + k ≡ p) × (k < length slots) × (find nat_cmp q (entries slots) ≡ Some (val (get_or slots k d))) × (key (get_or slots k d) ≡ q)
  slot_at q [] i p d e = absurd (none-some p e)
  slot_at q (s ∷ ss) i p d e =
      elim (cases_eq (key s) q) [
        | inl is ↦
            let same : Some i ≡ Some p = rw (eq-eqb (key s) q is) at e in
            (0, omega (arith, same_Some i p same), omega arith, rw (tied_same q (key s) is) refl, is)
        | inr apart ↦
            let later = slot_at q ss (i + 1) p d (rw (ne_eqb (key s) q apart) at e) in
            (suc later.0, omega (arith, later.1), omega (arith, later.2), rw (tied_apart q (key s) apart) later.3, later.4)
      ]

  -- a scan that finds a slot finds one of them
  scan_below : (q : ℕ) (slots : List S) (i p : ℕ) → position_from (here q) i slots ≡ Some p → p < i + length slots
  scan_below q [] i p e = absurd (none-some p e)
  scan_below q (s ∷ ss) i p e =
      elim (cases_eq (key s) q) [
        | inl is ↦
            let same : Some i ≡ Some p = rw (eq-eqb (key s) q is) at e in
            omega (arith, same_Some i p same)
        | inr apart ↦ omega (arith, scan_below q ss (i + 1) p (rw (ne_eqb (key s) q apart) at e))
      ]

  pub scan_within : (q : ℕ) (slots : List S) (found : Option ℕ) → found ≡ position_from (here q) 0 slots → IfSome found (λ p. p < length slots)
  scan_within q slots None is = _
  scan_within q slots (Some p) is = omega (arith, scan_below q slots 0 p (sym is))

  -- a scan that finds none tells that no slot has the key
  pub no_slot : (q : ℕ) (slots : List S) (i : ℕ) → position_from (here q) i slots ≡ None → find nat_cmp q (entries slots) ≡ None
  no_slot q [] i e = refl
  no_slot q (s ∷ ss) i e =
      elim (cases_eq (key s) q) [
        | inl is ↦ absurd (none-some i (sym (rw (eq-eqb (key s) q is) at e)))
        | inr apart ↦ rw (tied_apart q (key s) apart) (no_slot q ss (i + 1) (rw (ne_eqb (key s) q apart) at e))
      ]

  pub absent : (q : ℕ) (slots : List S) → AllByRecursion (λ y. nat_eq q y ≡ false) (keys slots) → find nat_cmp q (entries slots) ≡ None
  absent q [] apart = refl
  absent q (s ∷ ss) apart =
      elim (cases_eq (key s) q) [
        | inl is ↦ absurd (differ q (key s) apart.0 is)
        | inr other ↦ rw (tied_apart q (key s) other) (absent q ss apart.1)
      ]

  apart_at : (q : ℕ) (slots : List S) (k : ℕ) (d : S) → AllByRecursion (λ y. nat_eq q y ≡ false) (keys slots) → k < length slots → key (get_or slots k d) ≡ q
      → ⊥
  apart_at q [] k d apart below is = omega (arith, below)
  apart_at q (s ∷ ss) zero d apart below is = differ q (key s) apart.0 is
  apart_at q (s ∷ ss) (suc k) d apart below is = apart_at q ss k d apart.1 (omega (arith, below)) is

  -- where no two slots have the same key, a scan finds a slot by its key
  pub scan_at : (slots : List S) (k i : ℕ) (d : S) → IsDistinct nat_eq (keys slots) → k < length slots
      → position_from (here (key (get_or slots k d))) i slots ≡ Some (i + k)
  unfolding IsDistinct
  scan_at [] k i d distinct below = absurd (omega (arith, below))
  scan_at (s ∷ ss) zero i d distinct below = rw (eq-eqb (key s) (key s) refl) (ap Some (omega arith))
  scan_at (s ∷ ss) (suc k) i d distinct below =
      let q = key (get_or ss k d) in
      let apart : key s ≡ q → ⊥ = λ is. apart_at (key s) ss k d distinct.0 (omega (arith, below)) (sym is) in
      rw (ne_eqb (key s) q apart) (scan_at ss k (i + 1) d distinct.1 (omega (arith, below)) ∙ ap Some (omega arith))

  -- without one slot the others are found
  pub removed : (q : ℕ) (slots : List S) (k : ℕ) (d : S) → IsDistinct nat_eq (keys slots) → k < length slots
      → find nat_cmp q (entries (remove slots k)) ≡ cond (eq_by_cmp nat_cmp q (key (get_or slots k d))) None (find nat_cmp q (entries slots))
  unfolding IsDistinct
  removed q [] k d distinct below = absurd (omega (arith, below))
  removed q (s ∷ ss) zero d distinct below =
      elim (cases_eq (key s) q) [
        | inl is ↦ rw (tied_same q (key s) is) (absent q ss (rw is at distinct.0))
        | inr apart ↦ rw (tied_apart q (key s) apart) refl
      ]
  removed q (s ∷ ss) (suc k) d distinct below =
      let rest = removed q ss k d distinct.1 (omega (arith, below)) in
      elim (cases_eq (key s) q) [
        | inl is ↦ rw (tied_same q (key s) is, tied_apart q (key (get_or ss k d)) (apart_at q ss k d (rw is at distinct.0) (omega (arith, below)))) refl
        | inr apart ↦ rw (tied_apart q (key s) apart) rest
      ]

  all_but : (P : ℕ → Type 0) (slots : List S) (k : ℕ) → AllByRecursion P (keys slots) → AllByRecursion P (keys (remove slots k))
  all_but P [] zero all = all
  all_but P [] (suc k) all = all
  all_but P (s ∷ ss) zero all = all.1
  all_but P (s ∷ ss) (suc k) all = (all.0, all_but P ss k all.1)

  pub distinct_but : (slots : List S) (k : ℕ) → IsDistinct nat_eq (keys slots) → IsDistinct nat_eq (keys (remove slots k))
  unfolding IsDistinct
  distinct_but [] zero distinct = distinct
  distinct_but [] (suc k) distinct = distinct
  distinct_but (s ∷ ss) zero distinct = distinct.1
  distinct_but (s ∷ ss) (suc k) distinct = (all_but (λ y. nat_eq (key s) y ≡ false) ss k distinct.0, distinct_but ss k distinct.1)

  -- a key that isn't found stands in no slot
  pub unlisted : (q : ℕ) (slots : List S) → find nat_cmp q (entries slots) ≡ None → list_any (nat_eq q) (keys slots) ≡ false
  unlisted q [] e = refl
  unlisted q (s ∷ ss) e =
      elim (cases_eq (key s) q) [
        | inl is ↦ absurd (none-some (val s) (sym (rw (tied_same q (key s) is) at e)))
        | inr apart ↦ rw (ne_eqb q (key s) (λ e. apart (sym e))) (unlisted q ss (rw (tied_apart q (key s) apart) at e))
      ]

  pub keys_push : (slots : List S) (s : S) → keys (slots ++ s ∷ []) ≡ keys slots ++ key s ∷ []
  keys_push [] s = refl
  keys_push (t ∷ ts) s = ap (λ ks. key t ∷ ks) (keys_push ts s)

  pub entries_push : (slots : List S) (s : S) → entries (slots ++ s ∷ []) ≡ entries slots ++ (key s, val s) ∷ []
  entries_push [] s = refl
  entries_push (t ∷ ts) s = ap (λ es. (key t, val t) ∷ es) (entries_push ts s)

  -- a slot with the key of its place
  pub keys_set : (slots : List S) (k : ℕ) (s d : S) → key s ≡ key (get_or slots k d) → keys (list_set slots k s) ≡ keys slots
  keys_set [] k s d same = refl
  keys_set (t ∷ ts) zero s d same = ap (λ n. n ∷ keys ts) same
  keys_set (t ∷ ts) (suc k) s d same = ap (λ ks. key t ∷ ks) (keys_set ts k s d same)

  pub changed : (q : ℕ) (slots : List S) (k : ℕ) (s d : S) → IsDistinct nat_eq (keys slots) → k < length slots → key s ≡ key (get_or slots k d)
      → find nat_cmp q (entries (list_set slots k s)) ≡ cond (eq_by_cmp nat_cmp q (key s)) (Some (val s)) (find nat_cmp q (entries slots))
  unfolding IsDistinct
  changed q [] k s d distinct below same = absurd (omega (arith, below))
  changed q (t ∷ ts) zero s d distinct below same =
      elim (cases_eq (key s) q) [
        | inl is ↦ rw (tied_same q (key s) is) refl
        | inr apart ↦ rw (tied_apart q (key s) apart, tied_apart q (key t) (λ e. apart (same ∙ e))) refl
      ]
  changed q (t ∷ ts) (suc k) s d distinct below same =
      let rest = changed q ts k s d distinct.1 (omega (arith, below)) same in
      elim (cases_eq (key t) q) [
        | inl is ↦ rw (tied_same q (key t) is, tied_apart q (key s) (λ e. apart_at q ts k d (rw is at distinct.0) (omega (arith, below)) (sym same ∙ e))) refl
        | inr apart ↦ rw (tied_apart q (key t) apart) rest
      ]

  -- as many keys as slots
  pub counted : (slots : List S) → IsDistinct nat_eq (keys slots) → map.len (map.from_entries {R = nat_cmp} (entries slots)) ≡ length slots
  unfolding IsDistinct
  counted [] distinct = map.len-empty nat_cmp X
  counted (s ∷ ss) distinct =
      let free = map.get-from_entries nat_cmp_total (entries ss) (key s) ∙ absent (key s) ss distinct.0 in
      map.len-insert nat_cmp_total (map.from_entries (entries ss)) (key s) (val s)
      ∙ rw free (rw (counted ss distinct.1) (omega arith))
