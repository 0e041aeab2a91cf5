-- What stands in packed receipts.
use Rattle.std.proofs.Common.{◌≡◌, ℕ, suc, zero, Some, ◌<◌, ◌≤◌, ◌==◌, List, [], ◌∷◌, ◌++◌, length, drop, get_or, false, true, inl, inr, refl, sym, ap, ◌∙◌, ◌+◌, ◌-◌, arith}
use Rattle.std.proofs.Common.{append_assoc, append-nil, length-append, slice_get, All, option_map, Global}
use Rattle.std.proofs.lemmas.Bool.{cases_eq, eqb-true}
use Rattle.std.proofs.lemmas.List.{drop_all}
use Rattle.std.proofs.lemmas.List.Elements.{All-append}
use Rattle.std.proofs.lemmas.Option.{none-some, same_Some, slice_get_read}
use Rattle.std.specs.List.{range_with_len}
use Rattle.hv_history.specs.declared.entry.Entry.{Entry}
use Rattle.hv_policy.specs.declared.event.Caller.{Caller}
use Rattle.hv_shared.specs.Due.{AreOf}
use Rattle.hv_shared.specs.Merge.{IsOf, next_is}
use Rattle.hv_shared.specs.PassValue.{IsPass}
use Rattle.hv_shared.specs.Receipts.{numbered, receipt_of, receipts_from}
use Rattle.hv_shared.specs.declared.receipts.Receipt.{Receipt}

pub count : (ns : List ℕ) (es : List (Entry Global)) → length ns ≡ length es → length (receipts_from ns es) ≡ length ns
count [] es same = refl
count (n ∷ ns) [] same = cc
count (n ∷ ns) (e ∷ es) same = ap suc (count ns es (omega (arith, same)))

pub numbers : (ns : List ℕ) (es : List (Entry Global)) (k : ℕ) → length ns ≡ length es → option_map (λ r. r.number) (slice_get (receipts_from ns es) k) ≡ slice_get ns k
numbers [] es k same = refl
numbers (n ∷ ns) [] k same = cc
numbers (n ∷ ns) (e ∷ es) zero same = refl
numbers (n ∷ ns) (e ∷ es) (suc k) same = numbers ns es k (omega (arith, same))

-- a receipt is its number and its entry
pub place : (ns : List ℕ) (es : List (Entry Global)) (k n : ℕ) (e : Entry Global) → slice_get ns k ≡ Some n → slice_get es k ≡ Some e → slice_get (receipts_from ns es) k ≡ Some (receipt_of n e)
place [] es k n e number entry = cc
place (m ∷ ns) [] k n e number entry = cc
place (m ∷ ns) (d ∷ es) zero n e number entry = grind arith
place (m ∷ ns) (d ∷ es) (suc k) n e number entry = place ns es k n e number entry

-- one receipt more
pub more : (ns : List ℕ) (es : List (Entry Global)) (n : ℕ) (e : Entry Global) → length ns ≡ length es → receipts_from (ns ++ n ∷ []) (es ++ e ∷ []) ≡ receipts_from ns es ++ receipt_of n e ∷ []
more [] [] n e same = refl
more [] (d ∷ es) n e same = cc
more (m ∷ ns) [] n e same = cc
more (m ∷ ns) (d ∷ es) n e same = ap (λ (rs : List Receipt). receipt_of m d ∷ rs) (more ns es n e (omega (arith, same)))

numbered_is : (es : List (Entry Global)) (n : ℕ) → receipts_from (range_with_len n (length es)) es ≡ numbered n es
numbered_is [] n = refl
numbered_is (e ∷ es) n = ap (λ (rs : List Receipt). receipt_of n e ∷ rs) (numbered_is es (n + 1))

-- receipts more, with the numbers from one on
pub all_more : (ns : List ℕ) (es more : List (Entry Global)) (n : ℕ) → length ns ≡ length es
    → receipts_from (ns ++ range_with_len n (length more)) (es ++ more) ≡ receipts_from ns es ++ numbered n more
all_more [] [] more n same = numbered_is more n
all_more [] (d ∷ es) more n same = cc
all_more (m ∷ ns) [] more n same = cc
all_more (m ∷ ns) (d ∷ es) more n same = ap (λ (rs : List Receipt). receipt_of m d ∷ rs) (all_more ns es more n (omega (arith, same)))

range-more : (a n : ℕ) → range_with_len a (suc n) ≡ range_with_len a n ++ (a + n) ∷ []
range-more a zero = ap (λ (k : ℕ). k ∷ []) (omega arith)
range-more a (suc n) =
    let place : a + 1 + n ≡ a + suc n = omega arith in
    ap (λ (xs : List ℕ). a ∷ xs) (range-more (a + 1) n) ∙ ap (λ (k : ℕ). a ∷ (range_with_len (a + 1) n ++ k ∷ [])) place

-- none of them yet
pub no_numbers : (old : List ℕ) (from : ℕ) → old ≡ old ++ range_with_len (from + 1) (from - from)
no_numbers old from =
    let none : zero ≡ from - from = omega arith in
    sym (append-nil old) ∙ ap (λ (n : ℕ). old ++ range_with_len (from + 1) n) none

-- one number more of those behind one
pub number-push : (old now : List ℕ) (from at n : ℕ) → from ≤ at → n ≡ at + 1 → now ≡ old ++ range_with_len (from + 1) (at - from)
    → now ++ n ∷ [] ≡ old ++ range_with_len (from + 1) (at + 1 - from)
number-push old now from at n above is so_far =
    let count : at + 1 - from ≡ suc (at - from) = omega arith in
    let place : n ≡ from + 1 + (at - from) = omega (arith, is) in
    ap (λ (xs : List ℕ). xs ++ n ∷ []) so_far ∙ append_assoc old (range_with_len (from + 1) (at - from)) (n ∷ [])
    ∙ ap (λ (k : ℕ). old ++ (range_with_len (from + 1) (at - from) ++ k ∷ [])) place
    ∙ sym (ap (λ (xs : List ℕ). old ++ xs) (ap (range_with_len (from + 1)) count ∙ range-more (from + 1) (at - from)))

-- the element at a place, and those after it
pub drop_at : {X : Type 0} (xs : List X) (k : ℕ) (x : X) → slice_get xs k ≡ Some x → drop k xs ≡ x ∷ drop (k + 1) xs
drop_at [] k x h = absurd (none-some x h)
drop_at (y ∷ xs) zero x h = λ i. same_Some y x h i ∷ xs
drop_at (y ∷ xs) (suc k) x h = let place : suc k + 1 ≡ suc (k + 1) = omega arith in rw place (drop_at xs k x h)

-- the number of the receipt that comes next is the one at its place
pub next_number : (rs : List Receipt) (k m n : ℕ) → option_map (λ r. r.number) (slice_get rs k) ≡ Some m → next_is n (drop k rs) ≡ (m == n)
next_number [] k m n is = cc
next_number (r ∷ rs) zero m n is = grind arith
next_number (r ∷ rs) (suc k) m n is = next_number rs k m n is

pub no_number : (rs : List Receipt) (k n : ℕ) → length rs ≤ k → next_is n (drop k rs) ≡ false
no_number rs k n past = ap (next_is n) (drop_all k rs past)

-- the receipt that comes next has its number and its entry beside each other
pub next_at : (ns : List ℕ) (es : List (Entry Global)) (k n : ℕ) (e : Entry Global) → length ns ≡ length es → next_is n (drop k (receipts_from ns es)) ≡ true → IsOf e (drop k (receipts_from ns es))
    → (slice_get ns k ≡ Some n) × (slice_get es k ≡ Some e)
next_at [] es zero n e same next of = absurd of
next_at [] es (suc k) n e same next of = absurd of
next_at (m ∷ ns) [] k n e same next of = absurd (omega arith)
next_at (m ∷ ns) (d ∷ es) zero n e same next of =
    let entry : d ≡ e = λ i. record { event = of.0 i; reply = of.1 i } in (ap Some (eqb-true m n next), ap Some entry)
next_at (m ∷ ns) (d ∷ es) (suc k) n e same next of = next_at ns es k n e (omega arith) next of

pub slice_get-drop : {X : Type 0} (k : ℕ) (xs : List X) (i : ℕ) → slice_get (drop k xs) i ≡ slice_get xs (k + i)
slice_get-drop zero xs i = let same : i ≡ zero + i = omega arith in ap (slice_get xs) same
slice_get-drop (suc k) [] i = refl
slice_get-drop (suc k) (x ∷ xs) i =
    let same : suc (k + i) ≡ suc k + i = omega arith in slice_get-drop k xs i ∙ ap (slice_get (x ∷ xs)) same

-- the number at one place more is the next one
pub number_more : (ns : List ℕ) (at from i n : ℕ) → at ≤ i → i < length ns → n ≡ get_or ns i n → n ≡ from + (i - at) → ((k : ℕ) → k < i - at → slice_get ns (at + k) ≡ Some (from + k))
    → (k : ℕ) → k < i + 1 - at → slice_get ns (at + k) ≡ Some (from + k)
number_more ns at from i n above less is place so_far k below =
    elim (cases_eq k (i - at)) [
      | inl same ↦
          let here : at + k ≡ i = omega arith in
          let number : n ≡ from + k = omega arith in
          ap (slice_get ns) here ∙ slice_get_read ns (length ns) i n refl less is ∙ ap Some number
      | inr other ↦ so_far k (omega (arith, other))
    ]

-- receipts whose numbers and entries are those of a history are of its entries
pub are_of : (ns : List ℕ) (own es : List (Entry Global)) (at from count : ℕ) → ((i : ℕ) → i < count → slice_get ns (at + i) ≡ Some (from + 1 + i))
    → ((i : ℕ) → i < count → slice_get own (at + i) ≡ slice_get es (from + i)) → AreOf (from + 1) (drop from es) (drop at (receipts_from ns own)) count
are_of ns own es at from count numbers same = λ i e less is.
    slice_get-drop at (receipts_from ns own) i ∙ place ns own (at + i) (from + 1 + i) e (numbers i less) (same i less ∙ sym (slice_get-drop from es i) ∙ is)

pub all_past : (rs : List Receipt) (k : ℕ) → drop k rs ≡ [] → length rs ≤ k
all_past [] k none = omega arith
all_past (r ∷ rs) zero none = cc
all_past (r ∷ rs) (suc k) none = let rest = all_past rs k none in omega (arith, rest)

-- there is an element at each place
pub there_is : {X : Type 0} (es : List X) (k : ℕ) → k < length es → (e : X) × (slice_get es k ≡ Some e)
there_is [] k less = absurd (omega arith)
there_is (e ∷ es) zero less = (e, refl)
there_is (e ∷ es) (suc k) less = there_is es k (omega arith)

-- receipts more, which are counted
pub some_more : (by : Caller) (old new more : List Receipt) (parts amount new_parts new_amount : ℕ) → IsPass by old parts amount → new ≡ old ++ more → new_parts ≡ parts → new_amount ≡ amount + length
    more
    → All (λ r. r.event.by ≡ by) more → IsPass by new new_parts new_amount
some_more by old new more parts amount new_parts new_amount is all parts_is amount_is own =
    rw all
    (record {
      one = parts_is ∙ is.one;
      counted = let counted = is.counted in omega (arith, length-append old more);
      own = All-append (λ (r : Receipt). r.event.by ≡ by) old more is.own own;
    })
