-- What the first of the settlement's heap tells of the others.
use Rattle.std.proofs.Common.{◌≡◌, ℕ, zero, suc, ◌+◌, ◌<◌, ◌≤◌, List, [], ◌∷◌, Option, Some, length, drop, get_or, refl, true, sym, ◌∙◌, subst, ap, inl, inr, arith, All, IsPermutation}
use Rattle.std.proofs.Common.{drop-drop, eq-eqb, length-drop, ne_eqb, slice_get, Global}
use Rattle.std.proofs.lemmas.Bool.{false≢true}
use Rattle.std.proofs.lemmas.List.Elements.{All-cons, All-head, All-nil, All-tail}
use Rattle.std.proofs.lemmas.List.Sorted.{All-permutation, IsPermutation-map, IsPermutation-sym}
use Rattle.std.proofs.lemmas.Map.Keys.{ge_from_not_lt}
use Rattle.std.proofs.lemmas.Option.{none-some, same_Some}
use Rattle.std.specs.BinaryHeap.{IsUpperBound}
use Rattle.hv_history.specs.declared.entry.Entry.{Entry}
use Rattle.hv_shared.specs.Due.{AreOf, IsDueAfter, left_of, lefts_of}
use Rattle.hv_shared.specs.Merge.{IsNext, IsOf, SettlesAs, next_is}
use Rattle.hv_shared.specs.Receipts.{receipt_of}
use Rattle.hv_shared.specs.contracts.held.settlement.UnsettledOrd.TheImpl as order
use Rattle.hv_shared.specs.declared.fault.SettleFault.{SettleFault}
use Rattle.hv_shared.specs.declared.fault.SettleFault.TheVariants.{Differs, Missing}
use Rattle.hv_shared.specs.declared.held.settlement.Unsettled.{Unsettled}
use Rattle.hv_shared.specs.declared.held.settlement.TheConstants.{NEVER}
use Rattle.hv_shared.specs.declared.receipts.Receipt.{Receipt}
use Rattle.hv_shared.proofs.ReorderedReceipts.{settles_permuted}
use Rattle.hv_shared.proofs.PackedReceipts.{drop_at}

-- the top of a heap is due first
pub lowest : (x : Unsettled) (ys : List Unsettled) → IsUpperBound (order.ghosts).cmp x ys → All (λ y. x.due.0 ≤ y.due.0) ys
lowest x [] h = All-nil (λ y. x.due.0 ≤ y.due.0)
lowest x (y ∷ ys) h = All-cons (λ z. x.due.0 ≤ z.due.0) y ys (ge_from_not_lt y.due.0 x.due.0 h.0) (lowest x ys h.1)

-- and if it is due later than a number, so are all
pub all_later : (n : ℕ) (x : Unsettled) (ys : List Unsettled) → IsUpperBound (order.ghosts).cmp x ys → n < x.due.0 → All (λ y. n < y.due.0) ys
all_later n x ys low later = λ i d there. let l = lowest x ys low i d there in omega arith

-- the first list has receipts of the first entries, and no other list has any of their numbers next
passed : (count n m : ℕ) (es : List (Entry Global)) (rs : List Receipt) (others : List (List Receipt)) (fault : Option SettleFault) → m ≡ n + count → count ≤ length es → AreOf n es rs count
    → ((k : ℕ) → n ≤ k → k < m → (j : ℕ) → IsNext k others j → ⊥) → SettlesAs m (drop count es) (drop count rs ∷ others) fault → SettlesAs n es (rs ∷ others) fault
passed zero n m es rs others fault m_is within are nobody s = let here : m ≡ n = omega arith in subst (λ (k : ℕ). SettlesAs k es (rs ∷ others) fault) here s
passed (suc count) n m [] rs others fault m_is within are nobody s = absurd (omega arith)
passed (suc count) n m (e ∷ es) [] others fault m_is within are nobody s = absurd (none-some (receipt_of (n + 0) e) (are 0 e (omega arith) refl))
passed (suc count) n m (e ∷ es) (r ∷ rs) others fault m_is within are nobody s =
    inr (
      0,
      record {
        there = omega arith;
        next = eq-eqb r.number n number;
        alone = alone;
        same = (ap (λ (x : Receipt). x.event) first, ap (λ (x : Receipt). x.reply) first);
      },
      passed count (n + 1) m es rs others fault (omega arith) (omega arith) rest (λ k above below. nobody k (omega arith) below) s,
    )
  where
    first : r ≡ receipt_of (n + 0) e
    first = same_Some r (receipt_of (n + 0) e) (are 0 e (omega arith) refl)

    number : r.number ≡ n
    number = let same = ap (λ (x : Receipt). x.number) first in omega arith

    alone : (j : ℕ) → IsNext n ((r ∷ rs) ∷ others) j → j ≡ 0
    alone zero next = refl
    alone (suc j) next = absurd (nobody n (omega arith) (omega arith) j next)

    rest : AreOf (n + 1) es rs count
    rest = λ i d less is.
        let place : n + suc i ≡ n + 1 + i = omega arith in
        subst (λ (k : ℕ). slice_get rs i ≡ Some (receipt_of k d)) place (are (suc i) d (omega arith) is)

module _ (at : ℕ) (few : at + 1 < NEVER) where
  next_due : (r : Unsettled) → IsDueAfter at r → r.due.0 ≡ at + 1 → next_is (at + 1) (left_of r) ≡ true
  next_due r due is = due.found (at + 1) (omega arith) few ∙ eq-eqb _ _ is

  first_next : (rs : List Unsettled) → All (IsDueAfter at) rs → 0 < length rs → ((d : Unsettled) → (get_or rs 0 d).due.0 ≡ at + 1) → IsNext (at + 1) (lefts_of rs) 0
  first_next [] due some first = absurd (omega arith)
  first_next (r ∷ rs) due some first = next_due r (All-head (IsDueAfter at) r rs due) (first r)

  -- none of those that are due later than a number has it next
  nobody : (k : ℕ) (rs : List Unsettled) → at < k → k < NEVER → All (IsDueAfter at) rs → All (λ r. k < r.due.0) rs → (i : ℕ) → IsNext k (lefts_of rs) i → ⊥
  nobody k [] after few due later i next = cc
  nobody k (r ∷ rs) after few due later zero next =
      let here = All-head (IsDueAfter at) r rs due in
      let past = All-head (λ (x : Unsettled). k < x.due.0) r rs later in
      false≢true (sym (here.found k after few ∙ ne_eqb r.due.0 k (omega arith)) ∙ next)
  nobody k (r ∷ rs) after few due later (suc i) next =
      nobody k rs after few (All-tail (IsDueAfter at) r rs due) (All-tail (λ (x : Unsettled). k < x.due.0) r rs later) i next

  module _ (es : List (Entry Global)) (e : Entry Global) (is : slice_get es at ≡ Some e) where
    here : (lists : List (List Receipt)) (fault : Option SettleFault) → SettlesAs (at + 1) (e ∷ drop (at + 1) es) lists fault → SettlesAs (at + 1) (drop at es) lists fault
    here lists fault s = subst (λ (l : List (Entry Global)). SettlesAs (at + 1) l lists fault) (sym (drop_at es at e is)) s

    -- nothing is left
    pub empty : (old : List Unsettled) → length old ≡ 0 → SettlesAs (at + 1) (drop at es) (lefts_of old) (Some Missing)
    empty old none = here (lefts_of old) (Some Missing) (inl (inl (refl, nobody (at + 1) old (omega arith) few (λ i d there. absurd (omega arith)) (λ i d there. absurd (omega arith)))))

    module _ (old new : List Unsettled) (x : Unsettled) (moved : IsPermutation old (x ∷ new)) (due : All (IsDueAfter at) old) (low : IsUpperBound (order.ghosts).cmp x new) where
      first : IsDueAfter at x
      first = All-head (IsDueAfter at) x new (All-permutation (IsDueAfter at) old (x ∷ new) moved due)

      others : All (IsDueAfter at) new
      others = All-tail (IsDueAfter at) x new (All-permutation (IsDueAfter at) old (x ∷ new) moved due)

      -- with this one first, what is left decides as in any order
      in_turn : (fault : Option SettleFault) → SettlesAs (at + 1) (drop at es) (lefts_of (x ∷ new)) fault → SettlesAs (at + 1) (drop at es) (lefts_of old) fault
      in_turn fault s =
          settles_permuted (at + 1) (drop at es) (lefts_of (x ∷ new)) (lefts_of old) fault (IsPermutation-map left_of (x ∷ new) old (IsPermutation-sym old (x ∷ new) moved)) s

      settles : (fault : Option SettleFault) → SettlesAs (at + 1) (e ∷ drop (at + 1) es) (lefts_of (x ∷ new)) fault → SettlesAs (at + 1) (drop at es) (lefts_of old) fault
      settles fault s = in_turn fault (here (lefts_of (x ∷ new)) fault s)

      pub missing : (x.due.0 ≡ at + 1 → ⊥) → SettlesAs (at + 1) (drop at es) (lefts_of old) (Some Missing)
      missing other =
          let after : at + 1 < x.due.0 = let l = first.later in omega (arith, other) in
          settles (Some Missing)
          (inl (inl (
            refl,
            nobody (at + 1) (x ∷ new) (omega arith) few (All-cons (IsDueAfter at) x new first others)
                (All-cons (λ r. at + 1 < r.due.0) x new after (all_later (at + 1) x new low after)),
          )))

      module _ (now : x.due.0 ≡ at + 1) where
        pub comes_next : next_is (at + 1) (left_of x) ≡ true
        comes_next = next_due x first now

        pub none_before : All (λ r. at + 1 ≤ r.due.0) new
        none_before = λ i d there. let l = lowest x new low i d there in omega arith

        pub contested : 0 < length new → ((d : Unsettled) → (get_or new 0 d).due.0 ≡ at + 1) → SettlesAs (at + 1) (drop at es) (lefts_of old) (Some Differs)
        contested some second = settles (Some Differs) (inl (inr (refl, inl (0, 1, λ same. omega arith, next_due x first now, first_next new others some second))))

        pub differs : (IsOf e (left_of x) → ⊥) → SettlesAs (at + 1) (drop at es) (lefts_of old) (Some Differs)
        differs not = settles (Some Differs) (inl (inr (refl, inr (0, next_due x first now, not))))

        -- it is put back without its next receipts, and none of the others is due before they end
        module _ (z : Unsettled) (zs : List Unsettled) (count until : ℕ) (put : IsPermutation (z ∷ new) zs) (later : All (λ r. until ≤ r.due.0) new) (less : at + count < until) where
          behind : All (IsDueAfter (at + count)) new
          behind = λ i d there.
              let l = later i d there in
              record { later = omega arith; found = λ m after few. (others i d there).found m (omega arith) few }

          pub due_behind : IsDueAfter (at + count) z → All (IsDueAfter (at + count)) zs
          due_behind own = All-permutation (IsDueAfter (at + count)) (z ∷ new) zs put (All-cons (IsDueAfter (at + count)) z new own behind)

          pub goes_on : at + count ≤ length es → length es < NEVER → AreOf (at + 1) (drop at es) (left_of x) count → left_of z ≡ drop count (left_of x) → (fault : Option SettleFault)
              → SettlesAs (at + count + 1) (drop (at + count) es) (lefts_of zs) fault → SettlesAs (at + 1) (drop at es) (lefts_of old) fault
          goes_on within never are left fault s =
              let back : SettlesAs (at + count + 1) (drop (at + count) es) (left_of z ∷ lefts_of new) fault =
              settles_permuted (at + count + 1) (drop (at + count) es) (lefts_of zs) (lefts_of (z ∷ new)) fault (IsPermutation-map left_of zs (z ∷ new) (IsPermutation-sym (z ∷ new) zs put)) s in
              in_turn fault
              (passed count (at + 1) (at + count + 1) (drop at es) (left_of x) (lefts_of new) fault (omega arith) (omega (arith, length-drop at es)) are
              (λ k above below. nobody k new (omega arith) (omega arith) others (λ i d there. let l = later i d there in omega arith))
              (subst (λ (l : List (Entry Global)). SettlesAs (at + count + 1) l (drop count (left_of x) ∷ lefts_of new) fault) (sym (drop-drop count at es))
              (subst (λ (l : List Receipt). SettlesAs (at + count + 1) (drop (at + count) es) (l ∷ lefts_of new) fault) left back)))
