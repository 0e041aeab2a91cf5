-- The start, a step and the end of a merge in blocks.
use Rattle.std.proofs.Common.{◌≡◌, ℕ, ◌+◌, ◌*◌, ◌<◌, ◌≤◌, List, [], ◌++◌, length, get_or, drop, arith, ap, sym, subst, ◌∙◌, All, append-nil, IsPermutation}
use Rattle.std.proofs.lemmas.List.{drop_more}
use Rattle.std.proofs.lemmas.List.Elements.{All-head}
use Rattle.hv_pages.specs.declared.blocks.Place.{Place}
use Rattle.hv_pages.specs.declared.merge.Written.{Written}
use Rattle.hv_pages.specs.declared.runs.Run.{Run}
use Rattle.hv_pages.specs.Blocks.{Block, IsBlock, flat}
use Rattle.hv_pages.specs.Merge.{IsCursor, IsNext, IsPushed, count_of, left, places_before, written}
use Rattle.hv_pages.specs.Runs.{spread}
use Rattle.hv_pages.proofs.MergedRuns.{IsMerging, merging_next, next_fewer}
use Rattle.hv_pages.proofs.Merges.{cursor_at, cursor_bound, cursor_same}

-- a cursor at the first run of blocks behind a gap
module _ (bs own : List Block) (p : Place) (rest : drop p.block bs ≡ own) (len : length bs ≡ length own + p.block) (first : p.at ≡ 0) (each : All IsBlock own)
  where
    pub cursor_start : IsCursor bs p
    cursor_start =
        let there = subst (All IsBlock) (sym rest) each in
        record {
          inside = (
            omega (arith, len),
            λ lt b. let h = All-head IsBlock (get_or bs p.block b) (drop (p.block + 1) bs) (subst (All IsBlock) (drop_more bs p.block b lt) there) in omega
                (arith, h, first),
            λ ge. first,
          );
          each = there;
        }

    pub left_start : left bs p ≡ flat own
    left_start = ap (λ k. drop k (flat (drop p.block bs))) first ∙ ap flat rest

module _ (bs bs' more : List Block) (old read old_at at : Place) (w w' : Written) (run : Run) (c : IsCursor bs read)
    (next : IsNext run (left bs old) (left bs read) (left more old_at) (left more at))
    (places : places_before old + length (left more at) + 1 ≤ places_before read + length (left more old_at))
    (room : count_of w + length (left more old_at) ≤ places_before old) where
  -- there is a place for the next run
  pub place_next : count_of w < 256 * length bs
  place_next = let b = cursor_bound bs read c in omega (arith, b, places, room)

  module _ (len : length bs' ≡ length bs) (rest : (i : ℕ) → w'.full ≤ i → drop i bs' ≡ drop i bs) (some : 1 ≤ length w'.last.items)
      (count : count_of w' ≤ count_of w + 1) where
    pub room_after : count_of w' + length (left more at) ≤ places_before read
    room_after = omega (arith, count, places, room)

    same : drop read.block bs' ≡ drop read.block bs
    same = let a = cursor_at bs read c in let r = room_after in rest read.block (omega (arith, a, r, some))

    pub cursor_after : IsCursor bs' read
    cursor_after = cursor_same bs bs' read same len c

    left_after : left bs' read ≡ left bs read
    left_after = ap (λ (l : List Block). drop read.at (flat l)) same

    pub merging_after : (all : List ℕ) → IsMerging all (written bs w) (left bs old) (left more old_at) → IsPushed (written bs w) run (written bs' w')
        → IsMerging all (written bs' w') (left bs' read) (left more at)
    merging_after all h pushed =
        subst (λ (l : List Run). IsMerging all (written bs' w') l (left more at)) (sym left_after)
        (merging_next all (written bs w) (written bs' w') (left bs old) (left bs read) (left more old_at) (left more at) run h next pushed)

    pub fewer_after : length (left bs' read) + length (left more at) + 1 ≡ length (left bs old) + length (left more old_at)
    fewer_after =
        let e = next_fewer (left bs old) (left bs read) (left more old_at) (left more at) run next in
        let l : length (left bs' read) ≡ length (left bs read) = ap (λ (l : List Run). length l) left_after in
        omega (arith, e, l)

-- after the last run
pub merging_end : (all : List ℕ) (done xs ys : List Run) → IsMerging all done xs ys → xs ≡ [] → ys ≡ [] → IsPermutation (spread done) all
merging_end all done xs ys h ex ey =
    subst (λ l. IsPermutation l all) (ap (λ (l : List Run). spread done ++ (spread l ++ spread ys)) ex ∙ ap (λ (l : List Run). spread done ++ spread l) ey
    ∙ append-nil (spread done)) h.pages
