-- Runs that are read from a place in blocks, and runs that are written before it.
use Rattle.std.proofs.Common.{◌≡◌, ℕ, ◌+◌, ◌*◌, ◌<◌, ◌≤◌, List, [], ◌∷◌, ◌++◌, length, get_or, set as list_set, take, drop, arith, refl, ap, sym, subst, ◌∙◌, All, max, inl, inr}
use Rattle.std.proofs.Common.{length-append, length-take-le, take_all, length-drop, append-nil, append_assoc, take-append-drop, length-set}
use Rattle.std.proofs.lemmas.Bool.{cases_lt}
use Rattle.std.proofs.lemmas.Grind.{take-set_at}
use Rattle.std.proofs.lemmas.List.{drop_more, drop_all, drop-drop, drop-append-le, get_or_append_left, get_or_default}
use Rattle.std.proofs.lemmas.List.Elements.{All-append, All-cons, All-nil, All-push, All-head, All-tail, All-weaker}
use Rattle.std.proofs.lemmas.List.Sums.{sum_by-cons}
use Rattle.hv_pages.specs.declared.blocks.Place.{Place}
use Rattle.hv_pages.specs.declared.merge.Written.{Written}
use Rattle.hv_pages.specs.declared.runs.Run.{Run}
use Rattle.hv_pages.specs.Blocks.{AreDense, Block, IsBlock, block_weight, flat, weight}
use Rattle.hv_pages.specs.Merge.{IsCursor, IsPushed, IsUnder, IsWritten, left, places_before, written}
use Rattle.hv_pages.specs.Runs.{run_pages, spread, IsRun, IsBelow, AreRuns}
use Rattle.hv_pages.proofs.BlockLists.{flat_around, none, weight_around}
use Rattle.hv_pages.proofs.JoinedRuns.{above_last, above_apart, above_pages}
use Rattle.hv_pages.proofs.RunLists.{All-end, All-front, runs_around, runs_end, runs_front}
use Rattle.hv_pages.proofs.Spreads.{spread-append}

module _ (bs : List Block) (i at : ℕ) (d : Block) (within : i < length bs) (lt : at < length (get_or bs i d).items) where
  left_flat : flat (drop i bs) ≡ (get_or bs i d).items ++ flat (drop (i + 1) bs)
  left_flat = ap flat (drop_more bs i d within)

  -- the run at a place is the first that is left
  pub left_first : (r : Run) → drop at (flat (drop i bs)) ≡ get_or (get_or bs i d).items at r ∷ drop 1 (drop at (flat (drop i bs)))
  left_first r =
      let both = length-append (get_or bs i d).items (flat (drop (i + 1) bs)) in
      let same : length (flat (drop i bs)) ≡ length ((get_or bs i d).items ++ flat (drop (i + 1) bs)) = ap (λ (l : List Run). length l) left_flat in
      drop_more (flat (drop i bs)) at r (omega (arith, both, same, lt))
      ∙ ap (λ x. x ∷ drop (at + 1) (flat (drop i bs)))
      (ap (λ (l : List Run). get_or l at r) left_flat ∙ get_or_append_left (get_or bs i d).items (flat (drop (i + 1) bs)) r at lt)
      ∙ ap (λ l. get_or (get_or bs i d).items at r ∷ l) (sym (drop-drop 1 at (flat (drop i bs))))

  -- after the last run of a block the next block is left
  pub left_outer : length (get_or bs i d).items ≤ at + 1 → drop 0 (flat (drop (i + 1) bs)) ≡ drop 1 (drop at (flat (drop i bs)))
  left_outer e =
      sym (drop-drop 1 at (flat (drop i bs))
      ∙ ap (drop (at + 1)) left_flat
      ∙ drop-append-le (at + 1) (get_or bs i d).items (flat (drop (i + 1) bs)) (omega (arith, e))
      ∙ ap (λ l. l ++ flat (drop (i + 1) bs)) (drop_all (at + 1) (get_or bs i d).items (omega (arith, e))))

-- no runs are left at the end
pub left_none : (bs : List Block) (p : Place) → length bs ≤ p.block → left bs p ≡ []
left_none bs p ge =
    let e : flat (drop p.block bs) ≡ [] = ap flat (drop_all p.block bs ge) in
    ap (λ (l : List Run). drop p.at l) e ∙ drop_all p.at [] (omega arith)

-- a cursor at a run
module _ (bs : List Block) (p : Place) (c : IsCursor bs p) (within : p.block < length bs) where
  pub here_block : (d : Block) → IsBlock (get_or bs p.block d)
  here_block d = All-head IsBlock (get_or bs p.block d) (drop (p.block + 1) bs) (subst (All IsBlock) (drop_more bs p.block d within) c.each)

  rest_each : All IsBlock (drop (p.block + 1) bs)
  rest_each = let d : Block = none in All-tail IsBlock (get_or bs p.block d) (drop (p.block + 1) bs) (subst (All IsBlock) (drop_more bs p.block d within)
      c.each)

  pub cursor_inner : (d : Block) (q : Place) → q.block ≡ p.block → q.at ≡ p.at + 1 → p.at + 1 < length (get_or bs p.block d).items → IsCursor bs q
  cursor_inner d q same next lt = record {
    inside = (
      omega (arith, same, within),
      λ low b.
          let e : length (get_or bs p.block d).items ≡ length (get_or bs q.block b).items =
          ap (λ (x : Block). length x.items) (get_or_default bs p.block d b within ∙ ap (λ k. get_or bs k b) (sym same))
          in
          omega (arith, e, next, lt),
      λ ge. absurd (omega (arith, ge, same, within)),
    );
    each = subst (λ k. All IsBlock (drop k bs)) (sym same) c.each;
  }

  pub cursor_outer : (q : Place) → q.block ≡ p.block + 1 → q.at ≡ 0 → IsCursor bs q
  cursor_outer q same next =
      let rest = subst (λ k. All IsBlock (drop k bs)) (sym same) rest_each in
      record {
        inside = (
          omega (arith, same, within),
          λ low b. let h = All-head IsBlock (get_or bs q.block b) (drop (q.block + 1) bs) (subst (All IsBlock) (drop_more bs q.block b low) rest) in omega
              (arith, h, next),
          λ ge. next,
        );
        each = rest;
      }

pub cursor_some : (bs : List Block) (p : Place) → 1 ≤ length (left bs p) → p.block < length bs
cursor_some bs p some =
    elim (cases_lt p.block (length bs)) [
      | inl lt ↦ lt
      | inr ge ↦ let e : length (left bs p) ≡ 0 = ap (λ (l : List Run). length l) (left_none bs p ge) in absurd (omega (arith, e, some))
    ]

pub cursor_at : (bs : List Block) (p : Place) → IsCursor bs p → p.at < 256
cursor_at bs p c =
    elim (cases_lt p.block (length bs)) [
      | inl lt ↦ let h = here_block bs p c lt none in let a = c.inside.1 lt none in omega (arith, h, a)
      | inr ge ↦ let z = c.inside.2 ge in omega (arith, z)
    ]

pub cursor_bound : (bs : List Block) (p : Place) → IsCursor bs p → places_before p ≤ 256 * length bs
cursor_bound bs p c =
    let a = cursor_at bs p c in
    elim (cases_lt p.block (length bs)) [
      | inl lt ↦ omega (arith, a, lt)
      | inr ge ↦ let z = c.inside.2 ge in let le = c.inside.0 in omega (arith, z, le)
    ]

-- a place from which on nothing changes
pub cursor_same : (old new : List Block) (p : Place) → drop p.block new ≡ drop p.block old → length new ≡ length old → IsCursor old p → IsCursor new p
cursor_same old new p same len c = record {
  inside = (
    omega (arith, len, c.inside.0),
    λ lt b.
        let there : p.block < length old = omega (arith, lt, len) in
        let e : get_or new p.block b ≡ get_or old p.block b =
        sym (ap (λ (l : List Block). get_or l 0 b) (drop_more new p.block b lt)) ∙ ap (λ (l : List Block). get_or l 0 b) same
        ∙ ap (λ (l : List Block). get_or l 0 b) (drop_more old p.block b there)
        in
        let long : length (get_or new p.block b).items ≡ length (get_or old p.block b).items = ap (λ (x : Block). length x.items) e in
        let was = c.inside.1 there b in
        omega (arith, was, long),
    λ ge. c.inside.2 (omega (arith, ge, len)),
  );
  each = subst (All IsBlock) (sym same) c.each;
}

-- a full block is written
pub flushed : (bs : List Block) (k : ℕ) (b : Block) (xs : List Run) → k < length bs
    → flat (take (k + 1) (list_set bs k b)) ++ xs ≡ (flat (take k bs) ++ b.items) ++ xs
flushed bs k b xs lt =
    ap (λ (l : List Block). flat l ++ xs) (take-set_at bs k (k + 1) b refl lt)
    ∙ ap (λ l. l ++ xs) (flat_around (take k bs) b [] ∙ ap (λ l. flat (take k bs) ++ l) (append-nil b.items))

pub pushed_first : (run : Run) → IsRun run → IsPushed [] run (run ∷ [])
pushed_first run is = record {
  runs = (is, All-nil (λ lower. IsBelow run lower), tt);
  from = All-push (λ (upper : Run). run.first ≤ upper.first) [] run (All-nil (λ (upper : Run). run.first ≤ upper.first)) (omega arith);
  pages = append-nil (run_pages run);
}

module _ (us : List Run) (u run : Run) (h : AreRuns (us ++ u ∷ [])) (is : IsRun run) (under : IsUnder (us ++ u ∷ []) run) where
  abbrev P : Run → Type 0
  P upper = run.first ≤ upper.first

  u_is : IsRun u
  u_is = (runs_end us (u ∷ []) h).0

  pub under_u : run.last < u.first
  under_u = All-head (λ (upper : Run). run.last < upper.first) u [] (All-end (λ (upper : Run). run.last < upper.first) us (u ∷ []) under)

  abbrev both : Run
  both = record { first = run.first; last = u.last }

  -- a run that touches the last one
  pub pushed_joined : run.last + 1 ≡ u.first → IsPushed (us ++ u ∷ []) run (us ++ both ∷ [])
  pushed_joined touch =
      let low : run.first ≤ run.last = is.some in
      let high : u.first ≤ u.last = u_is.some in
      let above = above_last us u run h in
      record {
        runs = runs_around us both [] (runs_front us (u ∷ []) h) (record { some = omega arith; fits = u_is.fits }) tt above
            (All-nil (λ lower. IsBelow both lower));
        from = All-push P us both (All-weaker (λ upper. IsBelow upper u) P (λ x l. omega arith) us above) (omega arith);
        pages = spread-append us (both ∷ []) ∙ ap (λ l. spread us ++ l) (append-nil (run_pages both)) ∙ above_pages us u run h low touch;
      }

  -- a run that does not
  pub pushed_apart : run.last + 1 < u.first → IsPushed (us ++ u ∷ []) run ((us ++ u ∷ []) ++ run ∷ [])
  pushed_apart lt =
      let low : run.first ≤ run.last = is.some in
      let above = above_apart us u run h lt in
      record {
        runs = runs_around (us ++ u ∷ []) run [] h is tt above (All-nil (λ lower. IsBelow run lower));
        from = All-push P (us ++ u ∷ []) run (All-weaker (λ upper. IsBelow upper run) P (λ x l. omega arith) (us ++ u ∷ []) above) (omega arith);
        pages = spread-append (us ++ u ∷ []) (run ∷ []) ∙ ap (λ l. spread (us ++ u ∷ []) ++ l) (append-nil (run_pages run));
      }

-- a run is added behind runs of which those of the last block are known
module _ (front xs ys : List Run) (u run : Run) (split : ys ≡ xs ++ u ∷ []) (h : AreRuns (front ++ ys)) (is : IsRun run) (under : IsUnder (front ++ ys) run)
  where
    whole : front ++ ys ≡ (front ++ xs) ++ u ∷ []
    whole = ap (λ l. front ++ l) split ∙ sym (append_assoc front xs (u ∷ []))

    whole_runs : AreRuns ((front ++ xs) ++ u ∷ [])
    whole_runs = subst AreRuns whole h

    whole_under : IsUnder ((front ++ xs) ++ u ∷ []) run
    whole_under = subst (λ l. IsUnder l run) whole under

    pub last_over : run.last < u.first
    last_over = under_u (front ++ xs) u run whole_runs is whole_under

    pub written_joined : (zs : List Run) → zs ≡ xs ++ record { first = run.first; last = u.last } ∷ [] → run.last + 1 ≡ u.first
        → IsPushed (front ++ ys) run (front ++ zs)
    written_joined zs is_new touch =
        let both_runs : Run = record { first = run.first; last = u.last } in
        let new : (front ++ xs) ++ both_runs ∷ [] ≡ front ++ zs = append_assoc front xs (both_runs ∷ []) ∙ ap (λ l. front ++ l) (sym is_new) in
        subst (λ l. IsPushed l run (front ++ zs)) (sym whole)
        (subst (λ l. IsPushed ((front ++ xs) ++ u ∷ []) run l) new (pushed_joined (front ++ xs) u run whole_runs is whole_under touch))

    pub written_apart : (done : List Run) → done ≡ (front ++ ys) ++ run ∷ [] → run.last + 1 < u.first → IsPushed (front ++ ys) run done
    written_apart done is_new lt =
        subst (λ l. IsPushed (front ++ ys) run l) (sym is_new)
        (subst (λ l. IsPushed l run (l ++ run ∷ [])) (sym whole) (pushed_apart (front ++ xs) u run whole_runs is whole_under lt))

-- the last of some runs, and another in its place
pub list_ends : (xs : List Run) (k : ℕ) (d : Run) → k + 1 ≡ length xs → xs ≡ take k xs ++ get_or xs k d ∷ []
list_ends xs k d e =
    sym (take-append-drop k xs)
    ∙ ap (λ l. take k xs ++ l) (drop_more xs k d (omega (arith, e)) ∙ ap (λ l. get_or xs k d ∷ l) (drop_all (k + 1) xs (omega (arith, e))))

pub set_end : (xs : List Run) (k : ℕ) (x : Run) → k + 1 ≡ length xs → list_set xs k x ≡ take k xs ++ x ∷ []
set_end xs k x e =
    let long = length-set xs k x in
    sym (take_all (k + 1) (list_set xs k x) (omega (arith, e, long))) ∙ take-set_at xs k (k + 1) x refl (omega (arith, e))

pub written_first : (old done : List Run) (run : Run) → old ≡ [] → done ≡ old ++ run ∷ [] → IsRun run → IsPushed old run done
written_first old done run none_old is_new is =
    subst (λ l. IsPushed l run done) (sym none_old)
    (subst (λ l. IsPushed [] run l) (sym (is_new ∙ ap (λ l. l ++ run ∷ []) none_old)) (pushed_first run is))

abbrev IsFull : Block → Type 0
IsFull block = length block.items ≡ 256

none_of : (xs : List Run) → length xs ≡ 0 → xs ≡ []
none_of [] e = refl
none_of (x ∷ xs) e = absurd (omega arith)

-- nothing is written yet
pub written_none : (bs : List Block) (w : Written) → IsWritten bs w → length w.last.items ≡ 0 → written bs w ≡ []
written_none bs w h e = ap (λ k. flat (take k bs) ++ w.last.items) (h.begun e) ∙ none_of w.last.items e

-- a run more is written
pub written_more : (bs : List Block) (w new : Written) (run : Run) → IsWritten bs w → length w.last.items < 256 → new.full ≡ w.full
    → new.last.items ≡ w.last.items ++ run ∷ [] → IsWritten bs new
written_more bs w new run h lt same last =
    let long : length new.last.items ≡ length w.last.items + 1 = ap (λ (l : List Run). length l) last ∙ length-append w.last.items (run ∷ []) in
    record {
      within = omega (arith, same, h.within);
      full = subst (λ k. All IsFull (take k bs)) (sym same) h.full;
      few = omega (arith, long, lt);
      begun = λ e. absurd (omega (arith, e, long));
    }

-- a full block is written, and a run behind it
pub written_flushed : (bs : List Block) (w new : Written) (b : Block) (run : Run) → IsWritten bs w → w.full < length bs → length b.items ≡ 256
    → new.full ≡ w.full + 1
    → new.last.items ≡ run ∷ [] → IsWritten (list_set bs w.full b) new
written_flushed bs w new b run h lt full next last =
    let long : length new.last.items ≡ 1 = ap (λ (l : List Run). length l) last in
    let count = length-set bs w.full b in
    let front : take new.full (list_set bs w.full b) ≡ take w.full bs ++ b ∷ [] = take-set_at bs w.full new.full b next lt in
    record {
      within = omega (arith, next, lt, count);
      full = subst (All IsFull) (sym front) (All-push IsFull (take w.full bs) b h.full full);
      few = omega (arith, long);
      begun = λ e. absurd (omega (arith, e, long));
    }

-- blocks that are full
pub full_length : (bs : List Block) → All IsFull bs → length (flat bs) ≡ 256 * length bs
full_length [] h = refl
full_length (b ∷ bs) h =
    let here : length b.items ≡ 256 = All-head IsFull b bs h in
    let rest = full_length bs (All-tail IsFull b bs h) in
    let both = length-append b.items (flat bs) in
    omega (arith, here, rest, both)

pub full_weight : (bs : List Block) → All IsFull bs → weight bs ≡ 256 * length bs
full_weight [] h = refl
full_weight (b ∷ bs) h =
    let here : length b.items ≡ 256 = All-head IsFull b bs h in
    let rest = full_weight bs (All-tail IsFull b bs h) in
    let both = sum_by-cons block_weight b bs in
    omega (arith, here, rest, both)

pub full_dense : (bs ends : List Block) → All IsFull bs → AreDense 129 ends → AreDense 129 (bs ++ ends)
full_dense [] ends h dense = dense
full_dense (b ∷ bs) ends h dense =
    let here : length b.items ≡ 256 = All-head IsFull b bs h in
    (omega (arith, here), full_dense bs ends (All-tail IsFull b bs h) dense)

pub weight_high : (bs : List Block) → length (flat bs) ≤ weight bs
weight_high [] = omega arith
weight_high (b ∷ bs) = let e = sum_by-cons block_weight b bs in let h = weight_high bs in let both = length-append b.items (flat bs) in omega
    (arith, e, h, both)

flat_last : (us : List Block) (b : Block) → flat (us ++ b ∷ []) ≡ flat us ++ b.items
flat_last us b = flat_around us b [] ∙ ap (λ l. flat us ++ l) (append-nil b.items)

-- full blocks and one more
module _ (bs : List Block) (b : Block) (h : All IsFull bs) (some : 1 ≤ length b.items) (fits : length b.items ≤ 256) where
  pub ended_flat : flat (bs ++ b ∷ []) ≡ flat bs ++ b.items
  ended_flat = flat_last bs b

  pub ended_each : All IsBlock (bs ++ b ∷ [])
  ended_each = All-push IsBlock bs b (All-weaker IsFull IsBlock (λ x e. (omega (arith, e), omega (arith, e))) bs h) (some, fits)

  pub ended_dense : AreDense 129 (bs ++ b ∷ [])
  ended_dense = full_dense bs (b ∷ []) h (omega arith, tt)

  pub ended_weight : (1 ≤ length bs → 128 ≤ length b.items) → weight (bs ++ b ∷ []) ≤ max 128 (256 * length bs + length b.items)
  ended_weight half =
      let a = weight_around bs b [] in
      let w = full_weight bs h in
      let z : weight [] ≡ 0 = refl in
      elim (cases_lt 0 (length bs)) [
        | inl many ↦ let low = half (omega arith) in omega (arith, a, w, z, low)
        | inr few ↦ omega (arith, a, w, z, few)
      ]

-- full blocks and few runs, which take half of the last block
module _ (us : List Block) (b : Block) (xs : List Run) (h : All IsFull (us ++ b ∷ [])) (few : length xs < 128) where
  abbrev hi : Block
  hi = record { items = take 128 b.items }

  abbrev lo : Block
  lo = record { items = drop 128 b.items ++ xs }

  us_full : All IsFull us
  us_full = All-front IsFull us (b ∷ []) h

  b_full : length b.items ≡ 256
  b_full = All-head IsFull b [] (All-end IsFull us (b ∷ []) h)

  hi_length : length hi.items ≡ 128
  hi_length = let e = b_full in length-take-le 128 b.items (omega (arith, e))

  lo_length : length lo.items ≡ 128 + length xs
  lo_length = let e = b_full in let a = length-append (drop 128 b.items) xs in let d = length-drop 128 b.items in omega (arith, e, a, d)

  pub shared_flat : flat (us ++ hi ∷ lo ∷ []) ≡ flat (us ++ b ∷ []) ++ xs
  shared_flat =
      flat_around us hi (lo ∷ [])
      ∙ ap (λ l. flat us ++ (take 128 b.items ++ l)) (append-nil (drop 128 b.items ++ xs))
      ∙ ap (λ l. flat us ++ l) (sym (append_assoc (take 128 b.items) (drop 128 b.items) xs) ∙ ap (λ l. l ++ xs) (take-append-drop 128 b.items))
      ∙ sym (append_assoc (flat us) b.items xs)
      ∙ ap (λ l. l ++ xs) (sym (flat_last us b))

  pub shared_each : All IsBlock (us ++ hi ∷ lo ∷ [])
  shared_each =
      let a = hi_length in
      let z = lo_length in
      All-append IsBlock us (hi ∷ lo ∷ []) (All-weaker IsFull IsBlock (λ x e. (omega (arith, e), omega (arith, e))) us us_full)
      (All-cons IsBlock hi (lo ∷ []) (omega (arith, a), omega (arith, a)) (All-cons IsBlock lo [] (omega (arith, z), omega (arith, z, few)) (All-nil IsBlock)))

  pub shared_dense : AreDense 129 (us ++ hi ∷ lo ∷ [])
  shared_dense = let a = hi_length in let z = lo_length in full_dense us (hi ∷ lo ∷ []) us_full (omega (arith, a, z), (omega (arith, z), tt))

  pub shared_weight : weight (us ++ hi ∷ lo ∷ []) ≤ max 128 (256 * length (us ++ b ∷ []) + length xs)
  shared_weight =
      let a = hi_length in
      let z = lo_length in
      let w = weight_around us hi (lo ∷ []) in
      let l = sum_by-cons block_weight lo [] in
      let n : weight [] ≡ 0 = refl in
      let f = full_weight us us_full in
      let k = length-append us (b ∷ []) in
      omega (arith, a, z, w, l, n, f, k)
