-- The first run from a page on.
use Rattle.std.proofs.Common.{◌≡◌, ℕ, ◌+◌, ◌<◌, ◌≤◌, true, false, List, length, get_or, take, drop, arith, inl, inr, ap, subst, ◌∙◌, All, get_or-take, get_or-drop, length-take, length-drop}
use Rattle.std.specs.FinSet as set
use Rattle.std.proofs.lemmas.Bool.{cases_lt}
use Rattle.std.proofs.lemmas.List.{get_or_default}
use Rattle.hv_pages.specs.declared.runs.Run.{Run}
use Rattle.hv_pages.specs.PageSet.{pages_of, HoldsNoneFrom, IsFirstRun}
use Rattle.hv_pages.specs.Runs.{spread, IsBelow, AreRuns}
use Rattle.hv_pages.proofs.PagesOfRuns.{held_at, absent_at, below_at}
use Rattle.hv_pages.proofs.RunLists.{run_at, runs_later}

-- runs up to one that begins above a page begin above it
pub above_first : (xs : List Run) (j : ℕ) (d : Run) (page : ℕ) → AreRuns xs → j < length xs → page < (get_or xs j d).first
    → All (λ (run : Run). page < run.first) (take (j + 1) xs)
above_first xs j d page h within over k e lt =
    let short = length-take (j + 1) xs in
    let inside : k < length xs = omega arith in
    let goes : page < (get_or xs k e).first =
    elim (cases_lt k j) [
      | inl before ↦
          let below : IsBelow (get_or xs k e) (get_or xs j e) = runs_later xs h k j e before within in
          let equal : get_or xs j e ≡ get_or xs j d = get_or_default xs j e d within in
          let far : (get_or xs j d).last + 1 < (get_or xs k e).first = subst (λ (x : Run). x.last + 1 < (get_or xs k e).first) equal below in
          let some : (get_or xs j d).first ≤ (get_or xs j d).last = (run_at xs h j d within).some in
          omega arith
      | inr after ↦
          let here : j ≡ k = omega arith in
          let equal : get_or xs j d ≡ get_or xs k e = get_or_default xs j d e within ∙ ap (λ i. get_or xs i e) here in
          subst (λ (x : Run). page < x.first) equal over
    ]
    in
    rw (get_or-take (j + 1) xs k e (omega arith)) goes

-- runs before one that ends below a page begin above it, also if it is the page right after
pub above_last : (xs : List Run) (j : ℕ) (d : Run) (page : ℕ) → AreRuns xs → j < length xs → page ≤ (get_or xs j d).last + 1
    → All (λ (run : Run). page < run.first) (take j xs)
above_last xs j d page h within near k e lt =
    let short = length-take j xs in
    let inside : k < length xs = omega arith in
    let below : IsBelow (get_or xs k e) (get_or xs j e) = runs_later xs h k j e (omega arith) within in
    let equal : get_or xs j e ≡ get_or xs j d = get_or_default xs j e d within in
    let far : (get_or xs j d).last + 1 < (get_or xs k e).first = subst (λ (x : Run). x.last + 1 < (get_or xs k e).first) equal below in
    let goes : page < (get_or xs k e).first = omega arith in
    rw (get_or-take j xs k e (omega arith)) goes

-- the page right after a run isn't held
pub ended_at : (xs : List Run) (j : ℕ) (d : Run) → AreRuns xs → j < length xs
    → set.contains (pages_of (spread xs)) ((get_or xs j d).last + 1) ≡ false
ended_at xs j d h within =
    absent_at xs j ((get_or xs j d).last + 1) (above_last xs j d ((get_or xs j d).last + 1) h within (omega arith))
    (below_at xs j d ((get_or xs j d).last + 1) h within (omega arith))

-- a run that has the page, from there on
pub first_within : (xs : List Run) (j : ℕ) (d : Run) (page : ℕ) → AreRuns xs → j < length xs → (get_or xs j d).first ≤ page
    → page ≤ (get_or xs j d).last
    → IsFirstRun (pages_of (spread xs)) page page (get_or xs j d).last
first_within xs j d page h within low high = record {
  from = omega arith;
  some = high;
  fits = (run_at xs h j d within).fits;
  none = λ other from under. absurd (omega arith);
  held = λ other from to. held_at xs j d other within (omega arith) to;
  ended = ended_at xs j d h within;
}

-- runs from a place on that end below a page end below each later one
later_below : (xs : List Run) (page other : ℕ) → page ≤ other → All (λ (run : Run). run.last < page) xs → All (λ (run : Run). run.last < other) xs
later_below xs page other le below k d lt = let b = below k d lt in omega arith

-- the run before a place, where all runs from there on end below the page
pub first_before : (xs : List Run) (at j : ℕ) (d : Run) (page : ℕ) → AreRuns xs → j + 1 ≡ at → j < length xs
    → All (λ (run : Run). page < run.first) (take at xs)
    → All (λ (run : Run). run.last < page) (drop at xs) → IsFirstRun (pages_of (spread xs)) page (get_or xs j d).first (get_or xs j d).last
first_before xs at j d page h next within above below =
    let some = (run_at xs h j d within).some in
    let short = length-take at xs in
    let over : page < (get_or xs j d).first = subst (λ (x : Run). page < x.first) (get_or-take at xs j d (omega arith)) (above j d (omega arith)) in
    record {
      from = omega arith;
      some = some;
      fits = (run_at xs h j d within).fits;
      none = λ other from under. absent_at xs at other (subst (λ n. All (λ (run : Run). other < run.first) (take n xs)) next
          (above_first xs j d other h within under)) (later_below (drop at xs) page other from below);
      held = λ other from to. held_at xs j d other within from to;
      ended = ended_at xs j d h within;
    }

-- no run is before the first place
pub none_before : (xs : List Run) (at page : ℕ) → at ≡ 0 → All (λ (run : Run). run.last < page) (drop at xs)
    → HoldsNoneFrom (pages_of (spread xs)) page
none_before xs at page is below other from =
    let short = length-take at xs in
    absent_at xs at other (λ k d lt. absurd (omega arith)) (later_below (drop at xs) page other from below)
