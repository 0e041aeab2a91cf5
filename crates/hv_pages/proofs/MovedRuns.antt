-- The runs of one list are put into another, one by one.
use Rattle.std.proofs.Common.{◌≡◌, ℕ, ◌+◌, ◌-◌, ◌<◌, ◌≤◌, true, false, Bool, ◌||◌, List, [], ◌∷◌, ◌++◌, length, get_or, take, arith, refl, ap, sym, subst, ◌∙◌, append_assoc, All, IsPermutation}
use Rattle.std.proofs.Common.{append-nil, take_all, length-take-le}
use Rattle.std.specs.Cmp.{nat_cmp_total}
use Rattle.std.specs.FinSet as set
use Rattle.std.specs.FinSet.{contains-union}
use Rattle.std.proofs.lemmas.Bool.{both_ways}
use Rattle.std.proofs.lemmas.List.{take_more, get_or_default}
use Rattle.std.proofs.lemmas.List.Sorted.{IsPermutation-trans, IsPermutation-append_right, IsPermutation-append_comm}
use Rattle.hv_pages.specs.declared.runs.Run.{Run}
use Rattle.hv_pages.specs.PageSet.{Pages, pages_of, IsDisjoint}
use Rattle.hv_pages.specs.Runs.{run_pages, spread, AreRuns}
use Rattle.hv_pages.proofs.PagesOfRuns.{held_at, held_past}
use Rattle.hv_pages.proofs.Members.{pages_of-IsPermutation}
use Rattle.hv_pages.proofs.Places.{parted_above}
use Rattle.hv_pages.proofs.RunLists.{runs_later}
use Rattle.hv_pages.proofs.Spreads.{spread-append}
use Rattle.hv_pages.proofs.Unions.{pages_of-append}

take_run : (ys : List Run) (n : ℕ) (d : Run) → n < length ys → spread (take (n + 1) ys) ≡ spread (take n ys) ++ run_pages (get_or ys n d)
take_run ys n d lt =
    ap spread (take_more ys n d lt) ∙ spread-append (take n ys) (get_or ys n d ∷ []) ∙ ap (λ (l : List ℕ). spread (take n ys) ++ l) (append-nil (run_pages (get_or ys n d)))

-- one run more has come
pub moved_more : (new now old : List ℕ) (ys : List Run) (n : ℕ) (run d : Run) → n < length ys → run ≡ get_or ys n d
    → IsPermutation new (run_pages run ++ now) → IsPermutation now (old ++ spread (take n ys)) → IsPermutation new (old ++ spread (take (n + 1) ys))
moved_more new now old ys n run d lt is added moved =
    let a = IsPermutation-append_right (run_pages run) now (old ++ spread (take n ys)) moved in
    let b = IsPermutation-append_comm (run_pages run) (old ++ spread (take n ys)) in
    let all : (old ++ spread (take n ys)) ++ run_pages run ≡ old ++ spread (take (n + 1) ys) =
    append_assoc old (spread (take n ys)) (run_pages run)
    ∙ ap (λ (l : List ℕ). old ++ l) (ap (λ (r : Run). spread (take n ys) ++ run_pages r) is ∙ sym (take_run ys n d lt))
    in
    subst (λ (l : List ℕ). IsPermutation new l) all
    (IsPermutation-trans new (run_pages run ++ (old ++ spread (take n ys))) ((old ++ spread (take n ys)) ++ run_pages run)
    (IsPermutation-trans new (run_pages run ++ now) (run_pages run ++ (old ++ spread (take n ys))) added a) b)

neither : (a b : Bool) → a ≡ false → b ≡ false → (a || b) ≡ false
neither a b ha hb = rw (ha, hb) refl

none_of : (b : Bool) → (b ≡ true → ⊥) → b ≡ false
none_of true h = absurd (h refl)
none_of false h = refl

-- the pages of the next run are free
pub moved_free : (now old : List ℕ) (ys : List Run) (n : ℕ) (run d : Run) (page : ℕ) → AreRuns ys → n < length ys → run ≡ get_or ys n d → IsDisjoint (pages_of old) (pages_of (spread ys))
    → IsPermutation now (old ++ spread (take n ys)) → run.first ≤ page → page ≤ run.last → set.contains (pages_of now) page ≡ false
moved_free now old ys n run d page h lt is apart moved low high =
    let low_there = subst (λ (r : Run). r.first ≤ page) is low in
    let high_there = subst (λ (r : Run). page ≤ r.last) is high in
    let not_old : set.contains (pages_of old) page ≡ false =
    none_of (set.contains (pages_of old) page) (λ held. both_ways _ (apart page held) (held_at ys n d page lt low_there high_there))
    in
    let above : All (λ (r : Run). page < r.first) (take n ys) =
    parted_above ys h n page (omega (arith, lt)) (λ r some.
    let later = runs_later ys h (n - 1) n d (omega (arith, some)) lt in
    let same : get_or ys (n - 1) r ≡ get_or ys (n - 1) d = get_or_default ys (n - 1) r d (omega (arith, lt)) in
    rw same (omega (arith, later, high_there)))
    in
    let long = length-take-le n ys (omega (arith, lt)) in
    let all_above : All (λ (r : Run). page < r.first) (take n (take n ys)) = rw (take_all n (take n ys) (omega (arith, long))) above in
    let not_moved : set.contains (pages_of (spread (take n ys))) page ≡ false = held_past (take n ys) n page all_above (omega (arith, long)) in
    ap (λ (s : Pages). set.contains s page) (pages_of-IsPermutation now (old ++ spread (take n ys)) moved ∙ pages_of-append old (spread (take n ys)))
    ∙ contains-union nat_cmp_total (pages_of old) (pages_of (spread (take n ys))) page
    ∙ neither _ _ not_old not_moved
