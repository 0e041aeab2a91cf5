-- Lists of receipts in another order settle in the same way.
use Rattle.std.proofs.Common.{◌≡◌, ℕ, zero, suc, ◌+◌, ◌<◌, Option, None, Some, List, [], ◌∷◌, length, drop, get_or, refl, sym, ap, ◌∙◌, subst, inl, inr, arith, ◌==◌, if◌then◌else◌, ◌⊎◌, ◌≢◌, swap}
use Rattle.std.proofs.Common.{IsPermutation, get_or-set_same, get_or-set_other, Global}
use Rattle.std.proofs.lemmas.Bool.{cases_eq}
use Rattle.std.proofs.lemmas.Bool.Decides.{nat_tests}
use Rattle.std.proofs.lemmas.List.Edits.{swapped_from_swap}
use Rattle.std.proofs.lemmas.List.Sorted.{IsPermutation-keeps}
use Rattle.hv_history.specs.declared.entry.Entry.{Entry}
use Rattle.hv_shared.specs.Merge.{AreDone, FailsAt, IsNext, IsOf, IsOnlyNext, SettlesAs, next_is, without}
use Rattle.hv_shared.specs.declared.receipts.Receipt.{Receipt}
use Rattle.hv_shared.specs.declared.fault.SettleFault.{SettleFault}

-- a list that continues with a number is there
next_there : (n : ℕ) (lists : List (List Receipt)) (i : ℕ) → IsNext n lists i → i < length lists
next_there n [] i h = cc
next_there n (x ∷ xs) zero h = omega arith
next_there n (x ∷ xs) (suc i) h = let r = next_there n xs i h in omega arith

-- list k of the ones is list `to k` of the others, and the other way round
record AreTurned (to : ℕ → ℕ) (xs ys : List (List Receipt)) : Type 0 where
  back : (k : ℕ) → to (to k) ≡ k
  same : (k : ℕ) → get_or ys (to k) [] ≡ get_or xs k []

module _ (to : ℕ → ℕ) where
  there : (xs ys : List (List Receipt)) → AreTurned to xs ys → AreTurned to ys xs
  there xs ys turned = record { back = turned.back; same = λ k. sym (turned.same (to k)) ∙ ap (λ (j : ℕ). get_or ys j []) (turned.back k) }

  next_to : (xs ys : List (List Receipt)) → AreTurned to xs ys → (n k : ℕ) → IsNext n xs k → IsNext n ys (to k)
  next_to xs ys turned n k next = ap (next_is n) (turned.same k) ∙ next

  done_to : (xs ys : List (List Receipt)) → AreTurned to xs ys → AreDone xs → AreDone ys
  done_to xs ys turned done k = sym ((there xs ys turned).same k) ∙ done (to k)

  module _ (xs ys : List (List Receipt)) (turned : AreTurned to xs ys) where
    next_from : (n k : ℕ) → IsNext n ys k → IsNext n xs (to k)
    next_from = next_to ys xs (there xs ys turned)

    apart : (i j : ℕ) → i ≢ j → to i ≢ to j
    apart i j other same = other (sym (turned.back i) ∙ ap to same ∙ turned.back j)

    only_to : (n : ℕ) (e : Entry Global) (i : ℕ) → IsOnlyNext n e xs i → IsOnlyNext n e ys (to i)
    only_to n e i only =
        record {
          there = next_there n ys (to i) (next_to xs ys turned n i only.next);
          next = next_to xs ys turned n i only.next;
          alone = λ j next. sym (turned.back j) ∙ ap to (only.alone (to j) (next_from n j next));
          same = subst (IsOf e) (sym (turned.same i)) only.same;
        }

    fails_at : (n : ℕ) (e : Entry Global) (found : Option SettleFault) → FailsAt n e xs found → FailsAt n e ys found
    fails_at n e found (inl (is, none)) = inl (is, λ i next. none (to i) (next_from n i next))
    fails_at n e found (inr (is, inl (i, j, other, one, two))) = inr (is, inl (to i, to j, apart i j other, next_to xs ys turned n i one, next_to xs ys turned n j two))
    fails_at n e found (inr (is, inr (i, next, not))) = inr (is, inr (to i, next_to xs ys turned n i next, λ of. not (subst (IsOf e) (turned.same i) of)))

    -- after the first receipt of one list was found
    without_same : (i k : ℕ) → i < length xs → to i < length ys → (k ≡ i) ⊎ (k ≡ i → ⊥) → get_or (without ys (to i)) (to k) [] ≡ get_or (without xs i) k []
    without_same i k in_xs in_ys (inl is) =
        rw is (get_or-set_same ys (to i) (drop 1 (get_or ys (to i) [])) [] in_ys ∙ ap (drop 1) (turned.same i) ∙ sym (get_or-set_same xs i (drop 1 (get_or xs i [])) [] in_xs))
    without_same i k in_xs in_ys (inr other) =
        get_or-set_other ys (to i) (to k) (drop 1 (get_or ys (to i) [])) [] (apart k i other) ∙ turned.same k ∙ sym (get_or-set_other xs i k (drop 1 (get_or xs i [])) [] other)

    without_turned : (n : ℕ) (e : Entry Global) (i : ℕ) → IsOnlyNext n e xs i → AreTurned to (without xs i) (without ys (to i))
    without_turned n e i only = record { back = turned.back; same = λ k. without_same i k only.there (only_to n e i only).there (cases_eq k i) }

  settles_turned : (n : ℕ) (es : List (Entry Global)) (xs ys : List (List Receipt)) (found : Option SettleFault) → AreTurned to xs ys → SettlesAs n es xs found → SettlesAs n es ys found
  settles_turned n [] xs ys None turned done = done_to xs ys turned done
  settles_turned n [] xs ys (Some fault) turned fails = (fails.0, λ done. fails.1 (done_to ys xs (there xs ys turned) done))
  settles_turned n (e ∷ es) xs ys found turned (inl at) = inl (fails_at xs ys turned n e found at)
  settles_turned n (e ∷ es) xs ys found turned (inr (i, only, rest)) =
      inr (to i, only_to xs ys turned n e i only, settles_turned (n + 1) es (without xs i) (without ys (to i)) found (without_turned xs ys turned n e i only) rest)

-- i and j change places
turn : ℕ → ℕ → ℕ → ℕ
turn i j k = if k == i then j else (if k == j then i else k)

turn-turn : (i j k : ℕ) → turn i j (turn i j k) ≡ k
unfolding turn
turn-turn i j k = grind (arith, nat_tests)

turned : (xs ys : List (List Receipt)) (i j k : ℕ) → get_or ys i [] ≡ get_or xs j [] → get_or ys j [] ≡ get_or xs i [] → ((k ≡ i → ⊥) → (k ≡ j → ⊥) → get_or ys k [] ≡ get_or xs k [])
    → get_or ys (turn i j k) [] ≡ get_or xs k []
unfolding turn
turned xs ys i j k one two others = grind (arith, nat_tests)

-- in any order
pub settles_permuted : (n : ℕ) (es : List (Entry Global)) (xs ys : List (List Receipt)) (found : Option SettleFault) → IsPermutation xs ys → SettlesAs n es xs found → SettlesAs n es ys found
settles_permuted n es xs ys found permuted settles =
    IsPermutation-keeps xs (λ l. SettlesAs n es l found) settles
    (λ l i j in_i in_j s.
    let swapped = swapped_from_swap l (swap l i j) i j [] in_i in_j refl in
    settles_turned (turn i j) n es l (swap l i j) found
    (record { back = turn-turn i j; same = λ k. turned l (swap l i j) i j k swapped.0 swapped.1 (swapped.2 k) }) s)
    ys permuted
