-- Places of slots in blocks, and the same places in the list of all slots.
use Rattle.std.proofs.Common.{◌≡◌, ℕ, ◌+◌, ◌-◌, ◌<◌, ◌≤◌, List, [], ◌∷◌, length, get_or, take, arith, ap, sym, subst, inl, inr, All, HoldsAt, take_all}
use Rattle.std.proofs.lemmas.Bool.{cases_eq, cases_lt}
use Rattle.std.proofs.lemmas.List.{nil_from_length}
use Rattle.hv_ports.specs.Blocks.{Block, IsBlock, IsPlace, IsPlaceOrEnd, IsRising, before, first_of, flat}
use Rattle.hv_ports.specs.declared.blocks.Place.{Place}
use Rattle.hv_ports.proofs.Rising.{IsGap}
use Rattle.hv_ports.proofs.BlockLists.{inside, length_next, read_at}

module _ {R A : Type 0} where
  -- without a block the first place is a gap
  pub gap_nowhere : (bs : List (Block R A)) (q p : ℕ) → length bs ≡ 0 → p ≡ 0 → IsGap (flat bs) q p
  gap_nowhere bs q p none start =
      let e : length (flat bs) ≡ 0 = ap (λ (l : List (Block R A)). length (flat l)) (nil_from_length bs none) in
      (λ k d from low. absurd (omega (arith, low, start)), λ k d from within. absurd (omega (arith, e, within)))

  module _ (bs : List (Block R A)) (rising : IsRising (flat bs)) (i : ℕ) (d : Block R A) (within : i < length bs) where
    abbrev n : ℕ
    n = length (flat (take i bs))

    abbrev here : List (ℕ × R)
    here = (get_or bs i d).items

    -- the ids of a block rise
    pub block_rising : IsRising here
    block_rising j k s lt below =
        let most = inside bs i d within in
        let rises : (get_or (flat bs) (n + j) s).0 < (get_or (flat bs) (n + k) s).0 = rising (n + j) (n + k) s (omega (arith, lt)) (omega (arith, most, below)) in
        rw (read_at bs i d within j s (omega (arith, lt, below)), read_at bs i d within k s below) at rises

    -- what is found in a block is found
    pub found_in : (q at : ℕ) → at < length here → HoldsAt (λ slot. slot.0 ≡ q) here at → HoldsAt (λ slot. slot.0 ≡ q) (flat bs) (n + at)
    found_in q at lt found s = rw (read_at bs i d within at s lt) (found s)

    -- all slots before a place of a block are lower, and all from it on are higher, if the block is the one to look in
    pub lower_in : (q at : ℕ) → 1 ≤ length here → at ≤ length here → IsGap here q at → ((s : ℕ × R) → 1 ≤ i → (first_of (get_or bs i d) s).0 ≤ q)
        → (k : ℕ) (s : ℕ × R) → k < n + at → (get_or (flat bs) k s).0 < q
    lower_in q at some le gap low k s under =
        let most = inside bs i d within in
        elim (cases_lt k n) [
          | inl before ↦
              let later : 1 ≤ i = elim (cases_eq i 0) [
                | inl e ↦ let none : n ≡ 0 = ap (λ j. length (flat (take j bs))) e in absurd (omega (arith, none, before))
                | inr apart ↦ omega (arith, apart)
              ]
              in
              let rises : (get_or (flat bs) k s).0 < (get_or (flat bs) (n + 0) s).0 = rising k (n + 0) s (omega (arith, before)) (omega (arith, most, some)) in
              let start = low s later in
              let same : (get_or (flat bs) (n + 0) s).0 ≡ (get_or here 0 s).0 = ap (λ (x : ℕ × R). x.0) (read_at bs i d within 0 s (omega (arith, some))) in
              omega (arith, rises, start, same)
          | inr after ↦
              let at_is : n + (k - n) ≡ k = omega (arith, after) in
              let under_at : k - n < at = omega (arith, under, after) in
              let lower = gap.0 (k - n) s (omega arith) under_at in
              let same : (get_or (flat bs) (n + (k - n)) s).0 ≡ (get_or here (k - n) s).0 = ap (λ (x : ℕ × R). x.0) (read_at bs i d within (k - n) s (omega (arith, under_at, le))) in
              let moved : (get_or (flat bs) (n + (k - n)) s).0 ≡ (get_or (flat bs) k s).0 = ap (λ j. (get_or (flat bs) j s).0) at_is in
              omega (arith, lower, same, moved)
        ]

    pub higher_in : (q at : ℕ) → All IsBlock bs → at ≤ length here → IsGap here q at → ((b : Block R A) (s : ℕ × R) → i + 1 < length bs → q < (first_of (get_or bs (i + 1) b) s).0)
        → (k : ℕ) (s : ℕ × R) → n + at ≤ k → k < length (flat bs) → q < (get_or (flat bs) k s).0
    higher_in q at each le gap high k s over below =
        elim (cases_lt k (n + length here)) [
          | inl before ↦
              let at_is : n + (k - n) ≡ k = omega (arith, over) in
              let higher = gap.1 (k - n) s (omega (arith, over)) (omega (arith, over, before)) in
              let same : (get_or (flat bs) (n + (k - n)) s).0 ≡ (get_or here (k - n) s).0 = ap (λ (x : ℕ × R). x.0) (read_at bs i d within (k - n) s (omega (arith, before, over))) in
              let moved : (get_or (flat bs) (n + (k - n)) s).0 ≡ (get_or (flat bs) k s).0 = ap (λ j. (get_or (flat bs) j s).0) at_is in
              omega (arith, higher, same, moved)
          | inr after ↦
              let m = length_next bs i d within in
              let more : i + 1 < length bs = elim (cases_lt (i + 1) (length bs)) [
                | inl lt ↦ lt
                | inr ge ↦
                    let all : length (flat (take (i + 1) bs)) ≡ length (flat bs) = ap (λ (l : List (Block R A)). length (flat l)) (take_all (i + 1) bs ge) in
                    absurd (omega (arith, all, m, after, below))
              ]
              in
              let some = each (i + 1) d more in
              let start = high d s more in
              let same : (get_or (flat bs) (length (flat (take (i + 1) bs)) + 0) s).0 ≡ (get_or (get_or bs (i + 1) d).items 0 s).0 =
              ap (λ (x : ℕ × R). x.0) (read_at bs (i + 1) d more 0 s (omega (arith, some))) in
              elim (cases_eq k (length (flat (take (i + 1) bs)) + 0)) [
                | inl e ↦
                    let moved : (get_or (flat bs) k s).0 ≡ (get_or (flat bs) (length (flat (take (i + 1) bs)) + 0) s).0 = ap (λ j. (get_or (flat bs) j s).0) e in
                    omega (arith, start, same, moved)
                | inr apart ↦
                    let rises : (get_or (flat bs) (length (flat (take (i + 1) bs)) + 0) s).0 < (get_or (flat bs) k s).0 =
                    rising (length (flat (take (i + 1) bs)) + 0) k s (omega (arith, apart, m, after)) below in
                    omega (arith, start, same, rises)
              ]
        ]

    -- the first id of the next block is higher
    first_later : All IsBlock bs → i + 1 < length bs → (s : ℕ × R) → (first_of (get_or bs i d) s).0 < (first_of (get_or bs (i + 1) d) s).0
    first_later each more s =
        let m = length_next bs i d within in
        let some = each i d within in
        let some_next = each (i + 1) d more in
        let most = inside bs (i + 1) d more in
        let rises : (get_or (flat bs) (n + 0) s).0 < (get_or (flat bs) (length (flat (take (i + 1) bs)) + 0) s).0 =
        rising (n + 0) (length (flat (take (i + 1) bs)) + 0) s (omega (arith, m, some)) (omega (arith, most, some_next)) in
        let here_is : (get_or (flat bs) (n + 0) s).0 ≡ (get_or here 0 s).0 = ap (λ (x : ℕ × R). x.0) (read_at bs i d within 0 s (omega (arith, some))) in
        let next_is : (get_or (flat bs) (length (flat (take (i + 1) bs)) + 0) s).0 ≡ (get_or (get_or bs (i + 1) d).items 0 s).0 =
        ap (λ (x : ℕ × R). x.0) (read_at bs (i + 1) d more 0 s (omega (arith, some_next))) in
        omega (arith, rises, here_is, next_is)

  -- a gap in the last block that begins at the id or below, or else in the first one, is a gap
  pub gap_found : (bs : List (Block R A)) → IsRising (flat bs) → All IsBlock bs → (q r i at : ℕ) (d : Block R A) → i ≡ r - 1 → i < length bs
      → ((b : Block R A) (s : ℕ × R) → 1 ≤ r → (first_of (get_or bs (r - 1) b) s).0 ≤ q)
      → ((b : Block R A) (s : ℕ × R) → r < length bs → q < (first_of (get_or bs r b) s).0)
      → at ≤ length (get_or bs i d).items → IsGap (get_or bs i d).items q at → IsGap (flat bs) q (length (flat (take i bs)) + at)
  gap_found bs rising each q r i at d is within from above le gap =
      let some = each i d within in
      let low : (s : ℕ × R) → 1 ≤ i → (first_of (get_or bs i d) s).0 ≤ q = λ s ge. subst (λ k. (first_of (get_or bs k d) s).0 ≤ q) (sym is) (from d s (omega (arith, is, ge))) in
      let high : (b : Block R A) (s : ℕ × R) → i + 1 < length bs → q < (first_of (get_or bs (i + 1) b) s).0 = λ b s more.
      elim (cases_eq r 0) [
        | inl none ↦
            let start : r ≡ i = omega (arith, is, none) in
            let first = subst (λ k. q < (first_of (get_or bs k b) s).0) start (above b s (omega (arith, none, within))) in
            let later = first_later bs rising i b within each more s in
            omega (arith, first, later)
        | inr apart ↦
            let next : r ≡ i + 1 = omega (arith, is, apart) in
            subst (λ k. q < (first_of (get_or bs k b) s).0) next (above b s (omega (arith, next, more)))
      ]
      in (
        λ k s start under. lower_in bs rising i d within q at (omega (arith, some)) le gap low k s under,
        λ k s over below. higher_in bs rising i d within q at each le gap high k s over below,
      )

  -- a place with a slot is below the end
  pub place_inside : (bs : List (Block R A)) (place : Place) → IsPlace bs place → before bs place < length (flat bs)
  place_inside [] place is = absurd (omega (arith, is.0))
  place_inside (b ∷ bs) place is =
      let most = inside (b ∷ bs) place.block b is.0 in
      let lt = is.1 b in
      omega (arith, most, lt)

  -- a place for a slot is at most the end
  pub place_within : (bs : List (Block R A)) (place : Place) → IsPlaceOrEnd bs place → before bs place ≤ length (flat bs)
  place_within [] place is =
      let none : length (flat (take place.block [])) ≡ 0 = ap (λ (l : List (Block R A)). length (flat l)) (take_all place.block [] (omega arith)) in
      let start = is.2 (omega arith) in
      omega (arith, none, start)
  place_within (b ∷ bs) place is =
      elim (cases_lt place.block (length (b ∷ bs))) [
        | inl lt ↦
            let most = inside (b ∷ bs) place.block b lt in
            let le = is.1 lt b in
            omega (arith, most, le)
        | inr ge ↦
            let all : length (flat (take place.block (b ∷ bs))) ≡ length (flat (b ∷ bs)) = ap (λ (l : List (Block R A)). length (flat l)) (take_all place.block (b ∷ bs) ge) in
            let start = is.2 ge in
            omega (arith, all, start)
      ]
