-- What all slots together tell of the processors: the lowest that meets a test, and how many messages of a port they have.
use Rattle.std.proofs.Common.{◌≡◌, ℕ, zero, suc, ◌+◌, ◌≤◌, ◌==◌, min, Bool, true, false, cond, List, [], ◌∷◌, Option, None, Some, arith, inl, inr, length, refl, sym, ap, subst, ◌∙◌, find}
use Rattle.std.proofs.Common.{map as list_map}
use Rattle.std.proofs.Common.{filter, fold, sum_by, take, option_map, nat_cmp, eq-eqb, eqb-true}
use Rattle.std.specs.Cmp.{nat_cmp_total}
use Rattle.std.specs.FinMap as map
use Rattle.std.specs.FinMap.{FinMap, entries, from_entries, get, insert, get-from_entries, get-insert, len-empty, len-entries}
use Rattle.std.specs.FinSet.{nat_cmp-IsAntisymmetric}
use Rattle.std.specs.List.{IsDistinct, reduce}
use Rattle.std.specs.Ordering.{eq_by_cmp}
use Rattle.std.proofs.lemmas.Bool.{cases_lt}
use Rattle.std.proofs.lemmas.List.Sums.{sum_by-cons}
use Rattle.hv_defs.proofs.Maps.{found_least, found_row, get_at-insert}
use Rattle.hv_mail.proofs.Totals.{sum-insert}
use Rattle.hv_mail.specs.Mail.{count_of}
use Rattle.hv_vp.proofs.Slots.{absent}
use Rattle.hv_vp.specs.Vp.{VpState}
use Rattle.hv_vp.specs.Vps.{AreDistinct, entries_of, kept_by_all, lowest, vps_of}
use Rattle.hv_vp.specs.declared.vps.Slot.{Slot}

-- the sum over as many of the first elements as there are is the whole sum
pub sum_all : {X : Type 0} (f : X → ℕ) (xs : List X) (n : ℕ) → length xs ≤ n → sum_by f (take n xs) ≡ sum_by f xs
sum_all f [] zero past = refl
sum_all f [] (suc n) past = refl
sum_all f (x ∷ xs) zero past = absurd (omega (arith, past))
sum_all f (x ∷ xs) (suc n) past = sum_by-cons f x (take n xs) ∙ ap (λ k. f x + k) (sum_all f xs n (omega (arith, past))) ∙ sym (sum_by-cons f x xs)

-- the first slot's processor joins those of the others
module _ {A : Type 0} (slot : Slot A) (slots : List (Slot A)) where
  joined : vps_of (slot ∷ slots) ≡ insert (vps_of slots) slot.index slot.vp
  unfolding vps_of
  joined =
      map.same_map nat_cmp_total nat_cmp-IsAntisymmetric _ _ (λ q.
      get-from_entries nat_cmp_total (entries_of (slot ∷ slots)) q
      ∙ ap (cond (eq_by_cmp nat_cmp q slot.index) (Some slot.vp)) (sym (get-from_entries nat_cmp_total (entries_of slots) q))
      ∙ sym (get-insert nat_cmp_total (from_entries (entries_of slots)) slot.index slot.vp q))

  fresh : AreDistinct (slot ∷ slots) → get (vps_of slots) slot.index ≡ None
  unfolding IsDistinct vps_of
  fresh distinct = get-from_entries nat_cmp_total (entries_of slots) slot.index ∙ absent (λ slot. slot.index) (λ slot. slot.vp) slot.index slots distinct.0

  others : AreDistinct (slot ∷ slots) → AreDistinct slots
  unfolding IsDistinct
  others distinct = distinct.1

no_entries : (A : Type 0) (es : List (ℕ × VpState)) → entries (vps_of {A = A} []) ≡ es → es ≡ []
unfolding vps_of
no_entries A [] is = refl
no_entries A (e ∷ es) is =
    let none = sym (len-entries (vps_of {A = A} [])) ∙ len-empty nat_cmp VpState in
    let some = ap (λ (es : List (ℕ × VpState)). length es) is in
    absurd (omega arith)

-- the messages of a port, slot by slot and over all processors
pub kept_in_all : {A : Type 0} (port born : ℕ) (slots : List (Slot A)) → AreDistinct slots
    → sum_by (λ slot. count_of port born slot.vp.mail) slots ≡ kept_by_all port born (vps_of slots)
kept_in_all {A} port born [] distinct = sym (ap (sum_by (λ (e : ℕ × VpState). count_of port born e.1.mail)) (no_entries A (entries (vps_of {A = A} [])) refl))
kept_in_all port born (slot ∷ slots) distinct =
    sum_by-cons (λ slot. count_of port born slot.vp.mail) slot slots
    ∙ ap (λ n. count_of port born slot.vp.mail + n) (kept_in_all port born slots (others slot slots distinct))
    ∙ sym (ap (kept_by_all port born) (joined slot slots) ∙ sum-insert (λ e. count_of port born e.1.mail) (vps_of slots) slot.index slot.vp
    (fresh slot slots distinct))

fold_min : (k x : ℕ) (xs : List ℕ) → fold min (min k x) xs ≡ min k (fold min x xs)
fold_min k x [] = refl
fold_min k x (y ∷ ys) = (let same : min (min k x) y ≡ min k (min x y) = omega arith in ap (λ n. fold min n ys) same) ∙ fold_min k (min x y) ys

-- the lower of a number and another, if there is one
abbrev lower : ℕ → Option ℕ → ℕ
lower k None = k
lower k (Some j) = min k j

reduced : (k : ℕ) (ks : List ℕ) → reduce min (k ∷ ks) ≡ Some (lower k (reduce min ks))
reduced k [] = refl
reduced k (x ∷ xs) = ap Some (fold_min k x xs)

module _ (test : VpState → Bool) where
  -- that this is the lowest number of a processor that meets the test, or that none does
  abbrev IsLowest : FinMap nat_cmp VpState → Option ℕ → Type 0
  IsLowest vps None = (q : ℕ) (w : VpState) → get vps q ≡ Some w → test w ≡ false
  IsLowest vps (Some k) = ((v : VpState) × (get vps k ≡ Some v) × (test v ≡ true)) × ((q : ℕ) (w : VpState) → get vps q ≡ Some w → test w ≡ true → k ≤ q)

  tells : (vps : FinMap nat_cmp VpState) → IsLowest vps (lowest test vps)
  tells vps = by (find (λ e. test e.1) (entries vps)) refl
    where
      fails : (b : Bool) (q : ℕ) (w : VpState) → find (λ e. test e.1) (entries vps) ≡ None → get vps q ≡ Some w → test w ≡ b → b ≡ false
      fails true q w none there is = let (c, found, _) = found_least (λ e. test e.1) vps q w there is in cc
      fails false q w none there is = refl

      by : (o : Option (ℕ × VpState)) → find (λ e. test e.1) (entries vps) ≡ o → IsLowest vps (option_map (λ e. e.0) o)
      by None is = λ q w there. fails (test w) q w is there refl
      by (Some c) is =
          let (there, passes) = found_row (λ e. test e.1) vps c is in (
            (c.1, there, passes),
            λ q w at own. (let (d, found, le) = found_least (λ e. test e.1) vps q w at own in let same : d.0 ≡ c.0 = (let one : d ≡ c = cc in ap
                (λ e. e.0) one) in omega
                (arith, same, le)),
          )

  only : (vps : FinMap nat_cmp VpState) (o p : Option ℕ) → IsLowest vps o → IsLowest vps p → o ≡ p
  only vps None None a b = refl
  only vps None (Some k) a b = let fails = a k b.0.0 b.0.1 in let passes = b.0.2 in cc
  only vps (Some j) None a b = let fails = b j a.0.0 a.0.1 in let passes = a.0.2 in cc
  only vps (Some j) (Some k) a b =
      let le = a.1 k b.0.0 b.0.1 b.0.2 in
      let ge = b.1 j a.0.0 a.0.1 a.0.2 in
      let same : j ≡ k = omega (arith, le, ge) in
      ap Some same

  module _ (vps : FinMap nat_cmp VpState) (k : ℕ) (v : VpState) (free : get vps k ≡ None) where
    here : get (insert vps k v) k ≡ Some v
    here = get_at-insert vps k v k ∙ ap (λ b. cond b (Some v) (get vps k)) (eq-eqb k k refl)

    -- a processor of all is the one that joined or one of the others
    split : (P : ℕ → VpState → Type 0) → P k v → ((q : ℕ) (w : VpState) → get vps q ≡ Some w → P q w) → (q : ℕ) (w : VpState) → get (insert vps k v) q ≡ Some w
        → P q w
    split P own rest q w there = by (q == k) refl (sym (get_at-insert vps k v q) ∙ there)
      where
        by : (b : Bool) → q == k ≡ b → cond b (Some v) (get vps q) ≡ Some w → P q w
        by true is there =
            let at : k ≡ q = sym (eqb-true q k is) in
            let same : v ≡ w = cc in
            subst (λ q. P q w) at (subst (P k) same own)
        by false is there = rest q w there

    -- and one of the others is there still
    still : (q : ℕ) (w : VpState) → get vps q ≡ Some w → get (insert vps k v) q ≡ Some w
    still q w there = get_at-insert vps k v q ∙ by (q == k) refl
      where
        by : (b : Bool) → q == k ≡ b → cond b (Some v) (get vps q) ≡ Some w
        by true is = let at = ap (get vps) (eqb-true q k is) in cc
        by false is = there

    lowest_with : (b : Bool) (o : Option ℕ) → test v ≡ b → IsLowest vps o → IsLowest (insert vps k v) (cond b (Some (lower k o)) o)
    lowest_with true None is low = (
      (v, here, is),
      split (λ q w. test w ≡ true → k ≤ q) (λ _. omega arith)
          (λ q w there passes. (let fails = low q w there in cc)),
    )
    lowest_with true (Some j) is low = elim (cases_lt j k) [
      | inl lt ↦
          let least : min k j ≡ j = omega (arith, lt) in
          subst (λ n. IsLowest (insert vps k v) (Some n)) (sym least)
          ((low.0.0, still j low.0.0 low.0.1, low.0.2), split (λ q w. test w ≡ true → j ≤ q) (λ _. omega (arith, lt)) low.1)
      | inr le ↦
          let least : min k j ≡ k = omega (arith, le) in
          subst (λ n. IsLowest (insert vps k v) (Some n)) (sym least) (
            (v, here, is),
            split (λ q w. test w ≡ true → k ≤ q) (λ _. omega arith)
                (λ q w there passes. (let far = low.1 q w there passes in omega (arith, far, le))),
          )
    ]
    lowest_with false None is low = split (λ q w. test w ≡ false) is low
    lowest_with false (Some j) is low = ((low.0.0, still j low.0.0 low.0.1, low.0.2), split (λ q w. test w ≡ true → j ≤ q) (λ passes. cc) low.1)

    joining : lowest test (insert vps k v) ≡ cond (test v) (Some (lower k (lowest test vps))) (lowest test vps)
    joining = only (insert vps k v) _ _ (tells (insert vps k v)) (lowest_with (test v) (lowest test vps) refl (tells vps))

  -- the lowest index of the slots whose processors meet the test
  pub lowest_in_all : {A : Type 0} (slots : List (Slot A)) → AreDistinct slots
      → reduce min (list_map (λ slot. slot.index) (filter (λ slot. test slot.vp) slots)) ≡ lowest test (vps_of slots)
  lowest_in_all {A} [] distinct = sym (ap (λ (es : List (ℕ × VpState)). option_map (λ e. e.0) (find (λ e. test e.1) es))
      (no_entries A (entries (vps_of {A = A} [])) refl))
  lowest_in_all (slot ∷ slots) distinct = by (test slot.vp) refl (lowest_in_all slots (others slot slots distinct)) ∙ sym
      (ap (lowest test) (joined slot slots) ∙ joining (vps_of slots) slot.index slot.vp (fresh slot slots distinct))
    where
      by : (b : Bool) → test slot.vp ≡ b → reduce min (list_map (λ slot. slot.index) (filter (λ slot. test slot.vp) slots)) ≡ lowest test (vps_of slots)
          → reduce min
          (list_map (λ slot. slot.index) (cond (test slot.vp) (slot ∷ filter (λ slot. test slot.vp) slots) (filter (λ slot. test slot.vp) slots))) ≡ cond
          (test slot.vp)
          (Some (lower slot.index (lowest test (vps_of slots)))) (lowest test (vps_of slots))
      by true is rest = rw is (reduced slot.index _ ∙ ap (λ o. Some (lower slot.index o)) rest)
      by false is rest = rw is rest
