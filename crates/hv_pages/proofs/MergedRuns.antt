-- Two lists of runs that share no page become one.
use Rattle.std.proofs.Common.{◌≡◌, ◌⊎◌, ℕ, ◌+◌, ◌<◌, ◌≤◌, List, [], ◌∷◌, ◌++◌, length, get_or, arith, ap, sym, subst, ◌∙◌, append_assoc, inl, inr, All, IsPermutation}
use Rattle.std.proofs.lemmas.Bool.{both_ways, cases_lt}
use Rattle.std.proofs.lemmas.List.Elements.{All-nil, All-cons, All-head, All-tail, All-weaker}
use Rattle.std.proofs.lemmas.List.Sorted.{IsPermutation-refl, IsPermutation-trans, IsPermutation-append_right, IsPermutation-append_comm}
use Rattle.hv_pages.specs.declared.runs.Run.{Run}
use Rattle.hv_pages.specs.Merge.{BeginsBelow, IsNext, IsPushed, IsTaken, IsUnder}
use Rattle.hv_pages.specs.PageSet.{pages_of, IsDisjoint}
use Rattle.hv_pages.specs.Runs.{run_pages, spread, IsRun, IsBelow, AreRuns}
use Rattle.hv_pages.proofs.PagesOfRuns.{held_at}
use Rattle.hv_pages.proofs.RunLists.{run_at}

-- all pages of one run are above those of the other
abbrev AreApart : Run → Run → Type 0
AreApart x y = (x.last < y.first) ⊎ (y.last < x.first)

-- some runs are done, and they are above those of two lists that share no page; all have these pages
pub record IsMerging (all : List ℕ) (done xs ys : List Run) : Type 0 where
  pub runs : AreRuns done
  pub own : AreRuns xs
  pub others : AreRuns ys
  pub under : All (λ run. IsUnder done run) xs
  pub under_others : All (λ run. IsUnder done run) ys
  pub apart : All (λ x. All (λ y. AreApart x y) ys) xs
  pub pages : IsPermutation (spread done ++ (spread xs ++ spread ys)) all

pub merging_swap : (all : List ℕ) (done xs ys : List Run) → IsMerging all done xs ys → IsMerging all done ys xs
merging_swap all done xs ys h = record {
  runs = h.runs;
  own = h.others;
  others = h.own;
  under = h.under_others;
  under_others = h.under;
  apart = λ j e inside i d lt. elim (h.apart i d lt j e inside) [ inl a ↦ inr a | inr b ↦ inl b ];
  pages = IsPermutation-trans _ _ _ (IsPermutation-append_right (spread done) (spread ys ++ spread xs) (spread xs ++ spread ys)
      (IsPermutation-append_comm (spread ys) (spread xs))) h.pages;
}

-- runs that end below a run are under all that begin at it or above
under_below : (run : Run) (uppers rest : List Run) → All (λ (upper : Run). run.first ≤ upper.first) uppers → All (λ (lower : Run). lower.last < run.first) rest
    → All (λ lower. IsUnder uppers lower) rest
under_below run uppers rest from below =
    All-weaker (λ (lower : Run). lower.last < run.first) (λ lower. IsUnder uppers lower)
    (λ lower l. All-weaker (λ (upper : Run). run.first ≤ upper.first) (λ (upper : Run). lower.last < upper.first) (λ upper f. omega arith) uppers from)
    rest below

-- runs of which the first does not begin above a run, and that share no page with it, end below it
others_below : (run : Run) (ys : List Run) → IsRun run → AreRuns ys → BeginsBelow ys run.first → All (λ y. AreApart run y) ys
    → All (λ (lower : Run). lower.last < run.first) ys
others_below run [] is h top apart = All-nil (λ (lower : Run). lower.last < run.first)
others_below run (y ∷ ys) is h top apart =
    let P : Run → Type 0 = λ (lower : Run). lower.last < run.first in
    let first : y.first ≤ run.first = All-head (λ (r : Run). r.first ≤ run.first) y [] top in
    let some : run.first ≤ run.last = is.some in
    let here : y.last < run.first = elim (All-head (λ y. AreApart run y) y ys apart) [ inl a ↦ absurd (omega arith) | inr b ↦ b ] in
    All-cons P y ys here (All-weaker (λ lower. IsBelow y lower) P (λ z l. omega arith) ys h.1)

merging_more : (all : List ℕ) (done done' xs ys : List Run) (run : Run) → IsMerging all done (run ∷ xs) ys → BeginsBelow ys run.first → IsPushed done run done'
    → IsMerging all done' xs ys
merging_more all done done' xs ys run h top pushed = record {
  runs = pushed.runs;
  own = h.own.2;
  others = h.others;
  under = under_below run done' xs pushed.from (All-weaker (λ lower. IsBelow run lower) (λ (lower : Run). lower.last < run.first) (λ x l. omega arith) xs
      h.own.1);
  under_others = under_below run done' ys pushed.from (others_below run ys h.own.0 h.others top (All-head (λ x. All (λ y. AreApart x y) ys) run xs h.apart));
  apart = All-tail (λ x. All (λ y. AreApart x y) ys) run xs h.apart;
  pages =
      subst (λ l. IsPermutation l all)
      (ap (λ l. spread done ++ l) (append_assoc (run_pages run) (spread xs) (spread ys))
      ∙ sym (append_assoc (spread done) (run_pages run) (spread xs ++ spread ys))
      ∙ ap (λ l. l ++ (spread xs ++ spread ys)) (sym pushed.pages))
      h.pages;
}

-- the higher of the next runs is done
taken : (all : List ℕ) (done done' xs xs' ys ys' : List Run) (run : Run) → IsMerging all done xs ys → IsTaken run xs xs' ys ys' → IsPushed done run done'
    → IsMerging all done' xs' ys'
taken all done done' xs xs' ys ys' run h t pushed =
    subst (IsMerging all done' xs') (sym t.same)
    (merging_more all done done' xs' ys run (subst (λ l. IsMerging all done l ys) t.taken h) t.above pushed)

pub merging_next : (all : List ℕ) (done done' xs xs' ys ys' : List Run) (run : Run) → IsMerging all done xs ys → IsNext run xs xs' ys ys'
    → IsPushed done run done' → IsMerging all done' xs' ys'
merging_next all done done' xs xs' ys ys' run h next pushed =
    elim next [
      | inl t ↦ taken all done done' xs xs' ys ys' run h t pushed
      | inr t ↦ merging_swap all done' ys' xs' (taken all done done' ys ys' xs xs' run (merging_swap all done xs ys h) t pushed)
    ]

taken_run : (all : List ℕ) (done xs xs' ys ys' : List Run) (run : Run) → IsMerging all done xs ys → IsTaken run xs xs' ys ys' → IsRun run × IsUnder done run
taken_run all done xs xs' ys ys' run h t =
    let k = subst (λ l. IsMerging all done l ys) t.taken h in (k.own.0, All-head (λ r. IsUnder done r) run xs' k.under)

-- the next run is one, and is under all that are done
pub next_run : (all : List ℕ) (done xs xs' ys ys' : List Run) (run : Run) → IsMerging all done xs ys → IsNext run xs xs' ys ys' → IsRun run × IsUnder done run
next_run all done xs xs' ys ys' run h next =
    elim next [
      | inl t ↦ taken_run all done xs xs' ys ys' run h t
      | inr t ↦ taken_run all done ys ys' xs xs' run (merging_swap all done xs ys h) t
    ]

taken_fewer : (xs xs' ys ys' : List Run) (run : Run) → IsTaken run xs xs' ys ys' → length xs' + length ys' + 1 ≡ length xs + length ys
taken_fewer xs xs' ys ys' run t =
    let a : length xs ≡ length xs' + 1 = ap (λ (l : List Run). length l) t.taken ∙ omega arith in
    let b : length ys' ≡ length ys = ap (λ (l : List Run). length l) t.same in
    omega (arith, a, b)

pub next_fewer : (xs xs' ys ys' : List Run) (run : Run) → IsNext run xs xs' ys ys' → length xs' + length ys' + 1 ≡ length xs + length ys
next_fewer xs xs' ys ys' run next =
    elim next [
      | inl t ↦ taken_fewer xs xs' ys ys' run t
      | inr t ↦ (let e = taken_fewer ys ys' xs xs' run t in omega (arith, e))
    ]

-- before the first run
pub merging_start : (xs ys : List Run) → AreRuns xs → AreRuns ys → IsDisjoint (pages_of (spread xs)) (pages_of (spread ys))
    → IsMerging (spread xs ++ spread ys) [] xs ys
merging_start xs ys hx hy disjoint = record {
  runs = tt;
  own = hx;
  others = hy;
  under = λ i d lt. All-nil (λ (upper : Run). (get_or xs i d).last < upper.first);
  under_others = λ i d lt. All-nil (λ (upper : Run). (get_or ys i d).last < upper.first);
  apart = λ i d inx j e iny.
      let x = get_or xs i d in
      let y = get_or ys j e in
      let xf : x.first ≤ x.last = (run_at xs hx i d inx).some in
      let yf : y.first ≤ y.last = (run_at ys hy j e iny).some in
      elim (cases_lt x.last y.first) [
        | inl above ↦ inl above
        | inr hits ↦
            elim (cases_lt y.last x.first) [
              | inl below ↦ inr below
              | inr meets ↦
                  elim (cases_lt x.first y.first) [
                    | inl low ↦ absurd (both_ways _ (disjoint y.first (held_at xs i d y.first inx (omega arith) hits))
                        (held_at ys j e y.first iny (omega arith) yf))
                    | inr high ↦ absurd (both_ways _ (disjoint x.first (held_at xs i d x.first inx (omega arith) xf)) (held_at ys j e x.first iny high meets))
                  ]
            ]
      ];
  pages = IsPermutation-refl (spread xs ++ spread ys);
}
