-- Blocks of which no two neighbors fit in half a block.
use Rattle.std.proofs.Common.{◌≡◌, ℕ, zero, suc, ◌+◌, ◌-◌, ◌<◌, ◌≤◌, List, [], ◌∷◌, ◌++◌, length, get_or, set as list_set, take, drop, arith, inl, inr, refl, ap, sym, subst, All}
use Rattle.std.proofs.Common.{insert as list_insert, remove as list_remove, drop-set-lt}
use Rattle.std.proofs.lemmas.Bool.{cases_eq, cases_lt}
use Rattle.std.proofs.lemmas.List.{drop_all, set_split, take_more}
use Rattle.std.proofs.lemmas.List.Edits.{length-insert}
use Rattle.std.proofs.lemmas.List.Elements.{All-head, All-tail}
use Rattle.hv_pages.specs.declared.runs.Run.{Run}
use Rattle.hv_pages.specs.Blocks.{AreDense, Block, IsBlock, IsLoose, first_or}
use Rattle.hv_pages.proofs.BlockLists.{both, both_length, each_drop, each_take, halved, halved_length, high, high_length, joined, low, low_length, lower, parts}

first_append : (n : ℕ) (xs ys : List Block) → first_or n (xs ++ ys) ≡ first_or (first_or n ys) xs
first_append n [] ys = refl
first_append n (x ∷ xs) ys = refl

first_some : (xs : List Block) → All IsBlock xs → 1 ≤ first_or 129 xs
first_some [] h = omega arith
first_some (x ∷ xs) h = (All-head IsBlock x xs h).0

dense_parts : (n : ℕ) (xs ys : List Block) → AreDense n (xs ++ ys) → AreDense (first_or n ys) xs × AreDense n ys
dense_parts n [] ys h = (tt, h)
dense_parts n (x ∷ xs) ys h =
    let e = first_append n xs ys in
    let rest = dense_parts n xs ys h.1 in
    let first = h.0 in
    ((omega (arith, e, first), rest.0), rest.1)

dense_both : (n : ℕ) (xs ys : List Block) → AreDense (first_or n ys) xs → AreDense n ys → AreDense n (xs ++ ys)
dense_both n [] ys hx hy = hy
dense_both n (x ∷ xs) ys hx hy =
    let e = first_append n xs ys in
    let first = hx.0 in
    (omega (arith, e, first), dense_both n xs ys hx.1 hy)

dense_more : (n m : ℕ) (xs : List Block) → n ≤ m → AreDense n xs → AreDense m xs
dense_more n m [] le h = tt
dense_more n m (x ∷ []) le h = let first = h.0 in (omega (arith, le, first), tt)
dense_more n m (x ∷ y ∷ xs) le h = (h.0, dense_more n m (y ∷ xs) le h.1)

-- half a block behind the last one is enough
dense_half : (n m : ℕ) (xs : List Block) → All IsBlock xs → 128 ≤ m → AreDense n xs → AreDense m xs
dense_half n m [] each le h = tt
dense_half n m (x ∷ []) each le h = let some = (All-head IsBlock x [] each).0 in (omega (arith, le, some), tt)
dense_half n m (x ∷ y ∷ xs) each le h = (h.0, dense_half n m (y ∷ xs) (All-tail IsBlock x (y ∷ xs) each) le h.1)

module _ (bs : List Block) (i : ℕ) (d : Block) (within : i < length bs) where
  -- a block between two lists of them
  around : AreDense 129 bs → AreDense (length (get_or bs i d).items) (take i bs)
      × ((128 < length (get_or bs i d).items + first_or 129 (drop (suc i) bs)) × AreDense 129 (drop (suc i) bs))
  around dense = dense_parts 129 (take i bs) (get_or bs i d ∷ drop (suc i) bs) (subst (AreDense 129) (sym (parts bs i d within)) dense)

  pub dense_set : (b : Block) → AreDense 129 bs → length (get_or bs i d).items ≤ length b.items → AreDense 129 (list_set bs i b)
  dense_set b dense le =
      let a = around dense in
      let first = a.1.0 in
      subst (AreDense 129) (sym (set_split bs i b within))
      (dense_both 129 (take i bs) (b ∷ drop (suc i) bs) (dense_more (length (get_or bs i d).items) (length b.items) (take i bs) le a.0) (omega (arith, le, first), a.1.1))

  pub dense_halved : All IsBlock bs → length (get_or bs i d).items ≡ 256 → AreDense 129 bs
      → AreDense 129 (take i bs ++ high bs i d within ∷ low bs i d within ∷ drop (i + 1) bs)
  dense_halved each full dense =
      let a = around dense in
      let next : i + 1 ≡ suc i = omega arith in
      let rest : AreDense 129 (drop (i + 1) bs) = subst (λ k. AreDense 129 (drop k bs)) (sym next) a.1.1 in
      let some = first_some (drop (i + 1) bs) (each_drop (i + 1) bs each) in
      let h = high_length bs i d within full in
      let l = low_length bs i d within full in
      dense_both 129 (take i bs) (high bs i d within ∷ low bs i d within ∷ drop (i + 1) bs)
      (dense_half (length (get_or bs i d).items) (length (high bs i d within).items) (take i bs) (each_take i bs each) (omega (arith, h)) a.0)
      (omega (arith, h, l), (omega (arith, l, some), rest))

  pub dense_without : All IsBlock bs → length (get_or bs i d).items ≡ 1 → AreDense 129 bs → AreDense 129 (list_remove bs i)
  dense_without each one dense =
      let a = around dense in
      let first = a.1.0 in
      dense_both 129 (take i bs) (drop (suc i) bs)
      (dense_half (length (get_or bs i d).items) (first_or 129 (drop (suc i) bs)) (take i bs) (each_take i bs each) (omega (arith, one, first)) a.0) a.1.1

take_set : (bs : List Block) (i : ℕ) (b : Block) → take i (list_set bs i b) ≡ take i bs
take_set [] zero b = refl
take_set [] (suc i) b = refl
take_set (x ∷ bs) zero b = refl
take_set (x ∷ bs) (suc i) b = ap (λ (l : List Block). x ∷ l) (take_set bs i b)

get_set : (bs : List Block) (i : ℕ) (b d : Block) → i < length bs → get_or (list_set bs i b) i d ≡ b
get_set [] i b d lt = absurd (omega arith)
get_set (x ∷ bs) zero b d lt = refl
get_set (x ∷ bs) (suc i) b d lt = get_set bs i b d (omega arith)

-- a block gives one run away
pub loose_set : (bs : List Block) (i : ℕ) (d b : Block) → i < length bs → AreDense 129 bs → length b.items + 1 ≡ length (get_or bs i d).items → IsLoose (list_set bs i b) i
loose_set bs i d b within dense one =
    λ e.
    let a = around bs i d within dense in
    let same : length (get_or (list_set bs i b) i e).items ≡ length b.items = ap (λ (x : Block). length x.items) (get_set bs i b e within) in
    let front = take_set bs i b in
    let rest : drop (suc i) (list_set bs i b) ≡ drop (suc i) bs = drop-set-lt (suc i) bs i b (omega arith) in
    let first = a.1.0 in
    let count : length (get_or (list_set bs i b) i e).items + 1 ≡ length (get_or bs i d).items = omega (arith, same, one) in
    let ends : first_or 129 (drop (suc i) (list_set bs i b)) ≡ first_or 129 (drop (suc i) bs) = ap (first_or 129) rest in
    (rw (count, front) a.0, omega (arith, same, one, ends, first), rw rest a.1.1)

-- the blocks up to a place, and the last of them
module _ (bs : List Block) (j : ℕ) (d : Block) (within : j < length bs) (n : ℕ) where
  last_parts : AreDense n (take (j + 1) bs) → AreDense (length (get_or bs j d).items) (take j bs) × (128 < length (get_or bs j d).items + n)
  last_parts h =
      let p = dense_parts n (take j bs) (get_or bs j d ∷ []) (subst (AreDense n) (take_more bs j d within) h) in
      (p.0, p.1.0)

  last_both : AreDense (length (get_or bs j d).items) (take j bs) → 128 < length (get_or bs j d).items + n → AreDense n (take (j + 1) bs)
  last_both front more = subst (AreDense n) (sym (take_more bs j d within)) (dense_both n (take j bs) (get_or bs j d ∷ []) front (more, tt))

-- two neighbors that fit in half a block just so are one block then
module _ (bs : List Block) (i : ℕ) (d : Block) (within : i + 1 < length bs) (each : All IsBlock bs)
    (most : 128 ≤ length (get_or bs i d).items + length (get_or bs (i + 1) d).items)
    (n : ℕ) (front : AreDense n (take i bs)) (rest : AreDense 129 (drop (i + 2) bs)) where
  dense_joined : AreDense 129 (joined bs i d within)
  dense_joined =
      let long = both_length bs i d within in
      let some = first_some (drop (i + 2) bs) (each_drop (i + 2) bs each) in
      dense_both 129 (take i bs) (both bs i d within ∷ drop (i + 2) bs)
      (dense_half n (length (both bs i d within).items) (take i bs) (each_take i bs each) (omega (arith, long, most)) front)
      (omega (arith, long, most, some), rest)

module _ (bs : List Block) (i : ℕ) (d : Block) (each : All IsBlock bs) (loose : IsLoose bs i) where
  pub dense_next : (within : i + 1 < length bs) → AreDense 129 (joined bs i d within)
  dense_next within =
      let l = loose d in
      let e = lower bs i d within in
      let first = l.1 in
      let ends : first_or 129 (drop (suc i) bs) ≡ length (get_or bs (i + 1) d).items = ap (first_or 129) e in
      let rest : AreDense 129 (get_or bs (i + 1) d ∷ drop (i + 2) bs) = subst (AreDense 129) e l.2 in
      dense_joined bs i d within each (omega (arith, first, ends)) (length (get_or bs i d).items + 1) l.0 rest.1

  pub dense_before : (j : ℕ) → j + 1 ≡ i → (within : j + 1 < length bs) → AreDense 129 (joined bs j d within)
  dense_before j is within =
      let l = (subst (IsLoose bs) (sym is) loose) d in
      let p = last_parts bs j d (omega (arith, within)) (length (get_or bs (j + 1) d).items + 1) l.0 in
      let more = p.1 in
      let next : suc (j + 1) ≡ j + 2 = omega arith in
      let rest : AreDense 129 (drop (j + 2) bs) = subst (λ k. AreDense 129 (drop k bs)) next l.2 in
      dense_joined bs j d within each (omega (arith, more)) (length (get_or bs j d).items) p.0 rest

  pub dense_apart : i < length bs → (i + 1 < length bs → 128 < length (get_or bs i d).items + length (get_or bs (i + 1) d).items)
      → (1 ≤ i → 128 < length (get_or bs (i - 1) d).items + length (get_or bs i d).items) → AreDense 129 bs
  dense_apart within next before =
      let l = loose d in
      let n : ℕ = length (get_or bs i d).items in
      let first : 128 < length (get_or bs i d).items + first_or 129 (drop (suc i) bs) =
      elim (cases_lt (i + 1) (length bs)) [
        | inl lt ↦ let ends = ap (first_or 129) (lower bs i d lt) in let more = next lt in omega (arith, ends, more)
        | inr ge ↦ let ends = ap (first_or 129) (drop_all (suc i) bs (omega (arith, ge))) in omega (arith, ends)
      ]
      in
      let front : AreDense (length (get_or bs i d).items) (take i bs) =
      elim (cases_eq i 0) [
        | inl e ↦ subst (λ k. AreDense n (take k bs)) (sym e) tt
        | inr some ↦
            let j : i - 1 + 1 ≡ i = omega (arith, some) in
            let p = last_parts bs (i - 1) d (omega (arith, within)) (n + 1) (subst (λ k. AreDense (n + 1) (take k bs)) (sym j) l.0) in
            subst (λ k. AreDense n (take k bs)) j (last_both bs (i - 1) d (omega (arith, within)) n p.0 (before (omega (arith, some))))
      ]
      in
      subst (AreDense 129) (parts bs i d within) (dense_both 129 (take i bs) (get_or bs i d ∷ drop (suc i) bs) front (first, l.2))

module _ (bs : List Block) (i : ℕ) (d : Block) (within : i < length bs) (dense : AreDense 129 bs) (at : ℕ) (r : Run) where
  -- a run comes into a block
  pub inserted_dense : at ≤ length (get_or bs i d).items → AreDense 129 (list_set bs i (record { items = list_insert (get_or bs i d).items at r }))
  inserted_dense le =
      let longer = length-insert (get_or bs i d).items at r le in
      dense_set bs i d within (record { items = list_insert (get_or bs i d).items at r }) dense (omega (arith, longer))

-- a run comes into one of the halves of a block that was full
pub split_dense : (bs : List Block) (i : ℕ) (d : Block) (within : i < length bs) → All IsBlock bs → length (get_or bs i d).items ≡ 256 → AreDense 129 bs
    → (new : List Block) → new ≡ halved bs i d within → (k at : ℕ) (r : Run) → k ≤ i + 1 → at ≤ length (get_or new k d).items
    → AreDense 129 (list_set new k (record { items = list_insert (get_or new k d).items at r }))
split_dense bs i d within each full dense new is k at r place le =
    let count = halved_length bs i d within in
    let long = ap (λ (l : List Block). length l) is in
    let inside : k < length new = omega (arith, count, long, place, within) in
    inserted_dense new k d inside (subst (AreDense 129) (sym is) (dense_halved bs i d within each full dense)) at r le
