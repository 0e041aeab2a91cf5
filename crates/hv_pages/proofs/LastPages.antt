-- The last pages of runs, of which there are as many as runs.
use Rattle.std.proofs.Common.{◌≡◌, ℕ, ◌+◌, ◌<◌, ◌≤◌, Bool, true, false, not, ◌&&◌, ◌||◌, List, [], ◌∷◌, length, arith, inl, inr, refl, ap, sym, ◌∙◌, All, nat_eq, eq-eqb, ne_eqb}
use Rattle.std.specs.Cmp.{nat_cmp_total}
use Rattle.std.specs.FinSet as set
use Rattle.std.specs.FinSet.{nat_cmp-IsAntisymmetric, contains-from_list_nat, contains-retain, same_set}
use Rattle.std.proofs.lemmas.Bool.{and_right, cases_eq, cases_lt, or_from, or_left}
use Rattle.std.proofs.lemmas.List.Elements.{All-cons, All-head, All-nil, All-tail, All-weaker}
use Rattle.std.proofs.lemmas.List.Folds.{list_any-append, list_any_none}
use Rattle.hv_pages.specs.declared.runs.Run.{Run}
use Rattle.hv_pages.specs.Falling.{IsFalling}
use Rattle.hv_pages.specs.PageSet.{Pages, last_pages, pages_of, runs_of}
use Rattle.hv_pages.specs.Runs.{AreRuns, IsBelow, run_pages, spread}
use Rattle.hv_pages.proofs.PagesOfRuns.{Has, span_in, span_over, span_under}
use Rattle.hv_pages.proofs.Members.{len-pages_of}
use Rattle.hv_pages.proofs.Spreads.{spread_below}

-- the last page of each run
abbrev pub lasts : List Run → List ℕ
lasts [] = []
lasts (run ∷ runs) = run.last ∷ lasts runs

lasts_length : (xs : List Run) → length (lasts xs) ≡ length xs
lasts_length [] = refl
lasts_length (x ∷ xs) = let e = lasts_length xs in omega (arith, e)

lasts_below : (page : ℕ) (xs : List Run) → All (λ (run : Run). run.last < page) xs → All (λ p. p < page) (lasts xs)
lasts_below page [] h = All-nil (λ p. p < page)
lasts_below page (x ∷ xs) h =
    let here : x.last < page = All-head (λ (r : Run). r.last < page) x xs h in
    All-cons (λ p. p < page) x.last (lasts xs) here (lasts_below page xs (All-tail (λ (r : Run). r.last < page) x xs h))

lasts_fall : (xs : List Run) → AreRuns xs → IsFalling (lasts xs)
lasts_fall [] h = tt
lasts_fall (x ∷ xs) h =
    let some = h.0.some in
    (lasts_below x.last xs (All-weaker (λ r. IsBelow x r) (λ (r : Run). r.last < x.last) (λ r l. omega (arith, l, some)) xs h.1), lasts_fall xs h.2)

-- a number above all of a list
none_there : (xs : List ℕ) (q : ℕ) → All (λ p. p < q) xs → Has xs q ≡ false
none_there xs q h = list_any_none (λ y. nat_eq y q) xs (All-weaker (λ p. p < q) (λ y. nat_eq y q ≡ false) (λ y l. ne_eqb y q (λ e. omega (arith, l, e))) xs h)

first_none : (a b c d : Bool) → a ≡ false → b ≡ false → ((a || b) && not (c || d)) ≡ false
first_none a b c d ha hb = rw (ha, hb) refl

next_held : (a b c d : Bool) → c ≡ true → ((a || b) && not (c || d)) ≡ false
next_held a b c d hc = and_right (a || b) (not (c || d)) (rw hc refl)

is_last : (a b c d : Bool) → a ≡ true → c ≡ false → d ≡ false → ((a || b) && not (c || d)) ≡ true
is_last a b c d ha hc hd = rw (ha, hc, hd) refl

of_rest : (a b c d : Bool) → a ≡ false → c ≡ false → ((a || b) && not (c || d)) ≡ (b && not d)
of_rest a b c d ha hc = rw (ha, hc) refl

-- a page is held and the next one is not: it is the last of a run
ends_are : (xs : List Run) → AreRuns xs → (q : ℕ) → (Has (spread xs) q && not (Has (spread xs) (q + 1))) ≡ Has (lasts xs) q
ends_are [] h q = refl
ends_are (x ∷ xs) h q =
    let some : x.first ≤ x.last = h.0.some in
    let a : Bool = Has (run_pages x) q in
    let b : Bool = Has (spread xs) q in
    let c : Bool = Has (run_pages x) (q + 1) in
    let d : Bool = Has (spread xs) (q + 1) in
    let here : Has (spread (x ∷ xs)) q ≡ (Has (run_pages x) q || Has (spread xs) q) = list_any-append (λ y. nat_eq y q) (run_pages x) (spread xs) in
    let next : Has (spread (x ∷ xs)) (q + 1) ≡ (Has (run_pages x) (q + 1) || Has (spread xs) (q + 1)) = list_any-append (λ y. nat_eq y (q + 1)) (run_pages x) (spread xs) in
    let lower : (page : ℕ) → x.first ≤ page + 1 → All (λ (r : Run). r.last < page) xs =
    λ page l. All-weaker (λ r. IsBelow x r) (λ (r : Run). r.last < page) (λ r m. omega (arith, l, m)) xs h.1
    in
    let rest_none : (page : ℕ) → x.first ≤ page + 1 → Has (spread xs) page ≡ false = λ page l. none_there (spread xs) page (spread_below page xs (lower page l)) in
    let lasts_none : x.first ≤ q + 1 → Has (lasts xs) q ≡ false = λ l. none_there (lasts xs) q (lasts_below q xs (lower q l)) in
    rw (here, next)
    (elim (cases_lt q x.first) [
      | inl under ↦
          let apart : nat_eq x.last q ≡ false = ne_eqb x.last q (λ e. omega (arith, e, some, under)) in
          elim (cases_eq (q + 1) x.first) [
            | inl at ↦
                first_none a b c d (span_under x.first q (x.last + 1) under) (rest_none q (omega (arith, at)))
                ∙ sym (or_from _ _ apart (lasts_none (omega (arith, at))))
            | inr before ↦
                of_rest a b c d (span_under x.first q (x.last + 1) under) (span_under x.first (q + 1) (x.last + 1) (omega (arith, before, under)))
                ∙ ends_are xs h.2 q
                ∙ sym (rw apart refl)
          ]
      | inr from ↦
          elim (cases_lt q x.last) [
            | inl inside ↦
                next_held a b c d (span_in x.first (q + 1) (x.last + 1) (omega (arith, from)) (omega (arith, inside)))
                ∙ sym (or_from _ _ (ne_eqb x.last q (λ e. omega (arith, e, inside))) (lasts_none (omega (arith, from))))
            | inr over ↦
                elim (cases_eq x.last q) [
                  | inl same ↦
                      is_last a b c d (span_in x.first q (x.last + 1) from (omega (arith, same))) (span_over x.first (q + 1) (x.last + 1) (omega (arith, same)))
                      (rest_none (q + 1) (omega (arith, from)))
                      ∙ sym (or_left _ _ (eq-eqb x.last q same))
                  | inr apart ↦
                      first_none a b c d (span_over x.first q (x.last + 1) (omega (arith, apart, over))) (rest_none q (omega (arith, from)))
                      ∙ sym (or_from _ _ (ne_eqb x.last q apart) (lasts_none (omega (arith, from))))
                ]
          ]
    ])

last_pages-spread : (xs : List Run) → AreRuns xs → last_pages (pages_of (spread xs)) ≡ pages_of (lasts xs)
last_pages-spread xs h =
    let s : Pages = pages_of (spread xs) in
    same_set nat_cmp_total nat_cmp-IsAntisymmetric _ _
    (λ q.
    contains-retain s (λ page. not (set.contains s (page + 1))) q (λ x e. ap (λ p. not (set.contains s (p + 1))) (sym (nat_cmp-IsAntisymmetric q x e)))
    ∙ ap (λ e. e && not (set.contains s (q + 1))) (contains-from_list_nat (spread xs) q)
    ∙ ap (λ e. Has (spread xs) q && not e) (contains-from_list_nat (spread xs) (q + 1))
    ∙ ends_are xs h q
    ∙ sym (contains-from_list_nat (lasts xs) q))

-- the pages of runs are as many runs
pub runs_of-spread : (xs : List Run) → AreRuns xs → runs_of (pages_of (spread xs)) ≡ length xs
runs_of-spread xs h = ap set.len (last_pages-spread xs h) ∙ len-pages_of (lasts xs) (lasts_fall xs h) ∙ lasts_length xs
