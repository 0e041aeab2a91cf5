-- Deeds by their numbers, once a history has one entry more.
use Rattle.std.proofs.Common.{◌≡◌, ℕ, zero, suc, ◌+◌, ◌<◌, ◌≤◌, nat_lt, Bool, true, false, cond, List, [], ◌∷◌, ◌++◌, length, take, Some, ◌⊎◌, inl, inr, refl, sym, ap, ◌∙◌, arith, add-one}
use Rattle.std.proofs.Common.{length-append, ltb-false, ltb-true, take_all, count_by, slice_get}
use Rattle.std.proofs.lemmas.List.{take-append-le}
use Rattle.std.proofs.lemmas.Option.{slice_get_within}
use Rattle.std.proofs.lemmas.List.Sums.{sum_by-cons, sum_by_push}
use Rattle.hv_security.specs.Operation.{Operation, DidAt, operation_at, served_to, was_served}
use Rattle.hv_security.specs.Justified.{HasNot, HasNotSince}

get_old : (operations : List Operation) (e : Operation) (n : ℕ) (d : Operation) → slice_get operations n ≡ Some d → slice_get (operations ++ e ∷ []) n ≡ Some d
get_old [] e n d is = cc
get_old (x ∷ operations) e zero d is = is
get_old (x ∷ operations) e (suc n) d is = get_old operations e n d is

get_last : (operations : List Operation) (e : Operation) → slice_get (operations ++ e ∷ []) (length operations) ≡ Some e
get_last [] e = refl
get_last (x ∷ operations) e = get_last operations e

get_one : (operations : List Operation) (e : Operation) (n : ℕ) (d : Operation) → slice_get (operations ++ e ∷ []) n ≡ Some d → (slice_get operations n ≡ Some d) ⊎ ((n ≡ length operations) × (d ≡ e))
get_one [] e zero d is = inr (refl, cc)
get_one [] e (suc n) d is = cc
get_one (x ∷ operations) e zero d is = inl is
get_one (x ∷ operations) e (suc n) d is = elim (get_one operations e n d is) [ inl h ↦ inl h | inr h ↦ inr (ap suc h.0, h.1) ]

pub did_within : (operations : List Operation) (n : ℕ) (d : Operation) → DidAt operations n d → n ≤ length operations
did_within operations zero d did = omega arith
did_within operations (suc n) d did = let less = slice_get_within operations n d did.is in omega arith

-- how many are served in all, of one entry more, and of the first so many
abbrev pub all_served : List Operation → ℕ
all_served operations = count_by was_served operations

abbrev pub counts : Operation → ℕ
counts operation = cond (was_served operation) 1 0

pub counted_one : (operations : List Operation) (e : Operation) → all_served (operations ++ e ∷ []) ≡ all_served operations + counts e
counted_one operations e = sum_by_push counts operations e

pub served_all : (operations : List Operation) (n : ℕ) → length operations ≤ n → served_to operations n ≡ all_served operations
served_all operations n within = ap all_served (take_all n operations within)

pub served_rises : (operations : List Operation) (n m : ℕ) → n ≤ m → served_to operations n ≤ served_to operations m
served_rises [] zero m less = omega arith
served_rises [] (suc n) zero less = omega arith
served_rises [] (suc n) (suc m) less = omega arith
served_rises (x ∷ operations) zero m less = omega arith
served_rises (x ∷ operations) (suc n) zero less = absurd (omega arith)
served_rises (x ∷ operations) (suc n) (suc m) less =
    let rest = served_rises operations n m (omega arith) in
    let first = sum_by-cons counts x (take n operations) in
    let second = sum_by-cons counts x (take m operations) in
    omega (arith, rest, first, second)

-- a served entry counts as one
served_at : (operations : List Operation) (n : ℕ) (d : Operation) → DidAt operations (suc n) d → was_served d ≡ true → served_to operations (suc n) ≡ served_to operations n + 1
served_at [] zero d did served = let none = did.is in cc
served_at [] (suc n) d did served = let none = did.is in cc
served_at (x ∷ operations) zero d did served =
    let same : x ≡ d = (let is = did.is in cc) in
    let one : counts x ≡ 1 = ap (λ b. cond b 1 0) (ap was_served same ∙ served) in
    let first = sum_by-cons counts x (take 0 operations) in
    omega (arith, one, first)
served_at (x ∷ operations) (suc n) d did served =
    let rest = served_at operations n d (record { is = did.is }) served in
    let first = sum_by-cons counts x (take (suc n) operations) in
    let second = sum_by-cons counts x (take n operations) in
    omega (arith, rest, first, second)

-- so that one entry alone has the count that it leaves
not_earlier : (operations : List Operation) (m n : ℕ) (d : Operation) → DidAt operations n d → was_served d ≡ true → served_to operations m ≡ served_to operations n → m < n → ⊥
not_earlier operations m zero d did served same less = absurd (omega arith)
not_earlier operations m (suc n) d did served same less =
    let one = served_at operations n d did served in
    let rises = served_rises operations m n (omega arith) in
    absurd (omega (arith, one, rises, same))

pub one_birth : (operations : List Operation) (m n : ℕ) (d other : Operation) → DidAt operations m d → DidAt operations n other → was_served d ≡ true → was_served other ≡ true
    → served_to operations m ≡ served_to operations n → m ≡ n
one_birth operations m n d other did did_too served served_too same = by (nat_lt m n) (nat_lt n m) refl refl
  where
    by : (a b : Bool) → nat_lt m n ≡ a → nat_lt n m ≡ b → m ≡ n
    by true b less is = absurd (not_earlier operations m n other did_too served_too same (ltb-true m n less))
    by false true is less = absurd (not_earlier operations n m d did served (sym same) (ltb-true n m less))
    by false false is is_too = let first = ltb-false m n is in let second = ltb-false n m is_too in omega (arith, first, second)

-- one more
module _ (operations : List Operation) (e : Operation) where
  abbrev pub more : List Operation
  more = operations ++ e ∷ []

  abbrev pub last : ℕ
  last = length operations + 1

  pub did_still : (n : ℕ) (d : Operation) → DidAt operations n d → DidAt more n d
  did_still zero d did = record { is = did.is }
  did_still (suc n) d did = record { is = get_old operations e n d did.is }

  pub did_last : (n : ℕ) → n ≡ last → DidAt more n e
  did_last n is = record { is = ap (operation_at more) (is ∙ add-one (length operations)) ∙ get_last operations e }

  did_one : (n : ℕ) (d : Operation) → DidAt more n d → DidAt operations n d ⊎ ((n ≡ last) × (d ≡ e))
  did_one zero d did = inl (record { is = did.is })
  did_one (suc n) d did = elim (get_one operations e n d did.is) [ inl h ↦ inl (record { is = h }) | inr h ↦ inr (ap suc h.0 ∙ sym (add-one (length operations)), h.1) ]

  pub did_before : (n : ℕ) (d : Operation) → n ≤ length operations → DidAt more n d → DidAt operations n d
  did_before n d within did = elim (did_one n d did) [ inl old ↦ old | inr new ↦ (let same = new.0 in absurd (omega arith)) ]

  -- and what was served
  pub served_still : (n : ℕ) → n ≤ length operations → served_to more n ≡ served_to operations n
  served_still n within = ap all_served (take-append-le n operations (e ∷ []) within)

  pub served_last : was_served e ≡ true → served_to more last ≡ all_served operations + 1
  served_last served =
      served_all more last (omega (arith, length-append operations (e ∷ []))) ∙ counted_one operations e
      ∙ ap (λ b. all_served operations + cond b 1 0) served

  -- what wasn't done since wasn't done before the last, nor since where that is another
  pub not_since : (from : ℕ) (d : Operation) → (d ≡ e → ⊥) → HasNotSince operations from d → HasNotSince more from d
  not_since from d other none n after did = elim (did_one n d did) [ inl old ↦ none n after old | inr new ↦ other new.1 ]

  pub not_to_last : (from : ℕ) (d : Operation) → HasNotSince operations from d → HasNot more from last d
  not_to_last from d none n after before did = none n after (did_before n d (omega arith) did)

  pub not_still : (from to : ℕ) (d : Operation) → to ≤ length operations → HasNot operations from to d → HasNot more from to d
  not_still from to d within none n after before did = none n after before (did_before n d (omega arith) did)

  -- nothing comes after the last
  pub not_after : (from : ℕ) (d : Operation) → from ≡ last → HasNotSince more from d
  not_after from d is n after did = let within = did_within more n d did in absurd (omega (arith, length-append operations (e ∷ [])))
