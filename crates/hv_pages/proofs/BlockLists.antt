-- Lists of blocks: their runs and their weight, where one block is changed, halved or taken out.
use Rattle.std.proofs.Common.{◌≡◌, ℕ, zero, suc, ◌+◌, ◌-◌, ◌*◌, ◌<◌, ◌≤◌, List, [], ◌∷◌, ◌++◌, length, get_or, set as list_set, take, drop, arith, refl, ap, sym, subst, ◌∙◌, append_assoc, drop-cons}
use Rattle.std.proofs.Common.{length-append, length-drop, All, insert as list_insert, remove as list_remove, drop-set-lt, append-nil, take-append-drop, length-take-le, get_or-append-add}
use Rattle.std.proofs.Math.Seq.{take-append_seam, get_or-append_seam, take-append-add}
use Rattle.std.proofs.lemmas.Grind.{flat_map-append}
use Rattle.std.proofs.lemmas.List.{take_more_set, set_split}
use Rattle.std.proofs.lemmas.List.Edits.{length-insert, length-remove, insert-append_left, insert-append_right, remove-append_left, remove-append_right}
use Rattle.std.proofs.lemmas.List.Elements.{All-append, All-cons, All-set, All-take, All-drop}
use Rattle.std.proofs.lemmas.List.Sums.{sum_by-cons, sum_by-append}
use Rattle.hv_pages.specs.declared.runs.Run.{Run}
use Rattle.arrayvec.specs.ArrayVec.{with_items}
use Rattle.hv_pages.specs.Blocks.{Block, IsBlock, block_weight, flat, weight}

abbrev pub none : Block
none = record { items = [] }

-- an edit in the middle of three lists
pub insert_mid : (xs ys zs : List Run) (at : ℕ) (r : Run) → at ≤ length ys → list_insert (xs ++ (ys ++ zs)) (length xs + at) r ≡ xs ++ (list_insert ys at r ++ zs)
insert_mid xs ys zs at r le =
    let e : length xs + at - length xs ≡ at = omega arith in
    insert-append_right xs (ys ++ zs) (length xs) (length xs + at) r refl (omega arith)
    ∙ ap (λ k. xs ++ list_insert (ys ++ zs) k r) e
    ∙ ap (λ (l : List Run). xs ++ l) (insert-append_left ys zs at r le)

pub remove_mid : (xs ys zs : List Run) (at : ℕ) → at < length ys → list_remove (xs ++ (ys ++ zs)) (length xs + at) ≡ xs ++ (list_remove ys at ++ zs)
remove_mid xs ys zs at lt =
    let e : length xs + at - length xs ≡ at = omega arith in
    remove-append_right xs (ys ++ zs) (length xs) (length xs + at) refl (omega arith)
    ∙ ap (λ k. xs ++ list_remove (ys ++ zs) k) e
    ∙ ap (λ (l : List Run). xs ++ l) (remove-append_left ys zs at lt)

pub flat_around : (us : List Block) (b : Block) (ls : List Block) → flat (us ++ b ∷ ls) ≡ flat us ++ (b.items ++ flat ls)
flat_around us b ls = flat_map-append {X = Block} {A = Run} (λ block. block.items) us (b ∷ ls)

pub weight_around : (us : List Block) (b : Block) (ls : List Block) → weight (us ++ b ∷ ls) ≡ weight us + (block_weight b + weight ls)
weight_around us b ls = sum_by-append block_weight us (b ∷ ls) ∙ ap (λ k. weight us + k) (sum_by-cons block_weight b ls)

pub weight_low : (bs : List Block) → 128 * length bs ≤ weight bs
weight_low [] = omega arith
weight_low (b ∷ bs) = let e = sum_by-cons block_weight b bs in let h = weight_low bs in omega (arith, e, h)

-- All of the parts
pub each_take : (i : ℕ) (bs : List Block) → All IsBlock bs → All IsBlock (take i bs)
each_take i bs h = All-take IsBlock i bs h

pub each_drop : (i : ℕ) (bs : List Block) → All IsBlock bs → All IsBlock (drop i bs)
each_drop i bs h = All-drop IsBlock i bs h

-- the only run goes
pub only_goes : (xs : List Run) (at : ℕ) → at < length xs → length xs ≡ 1 → list_remove xs at ≡ []
only_goes [] at lt one = absurd (omega arith)
only_goes (x ∷ []) zero lt one = refl
only_goes (x ∷ []) (suc at) lt one = absurd (omega arith)
only_goes (x ∷ y ∷ xs) at lt one = absurd (omega arith)

module _ (bs : List Block) (i : ℕ) (d : Block) (within : i < length bs) where
  abbrev us : List Block
  us = take i bs

  abbrev ls : List Block
  ls = drop (suc i) bs

  abbrev here : Block
  here = get_or bs i d

  pub parts : us ++ here ∷ ls ≡ bs
  parts = ap (λ (l : List Block). us ++ l) (sym (drop-cons bs i d within)) ∙ take-append-drop i bs

  pub flat_parts : flat bs ≡ flat us ++ (here.items ++ flat ls)
  flat_parts = ap flat (sym parts) ∙ flat_around us here ls

  pub weight_parts : weight bs ≡ weight us + (block_weight here + weight ls)
  weight_parts = ap weight (sym parts) ∙ weight_around us here ls

  pub weight_set : (b : Block) → weight (list_set bs i b) ≡ weight us + (block_weight b + weight ls)
  weight_set b = ap weight (set_split bs i b within) ∙ weight_around us b ls

  pub flat_set : (b : Block) → flat (list_set bs i b) ≡ flat us ++ (b.items ++ flat ls)
  flat_set b = ap flat (set_split bs i b within) ∙ flat_around us b ls

  -- a run comes into a block
  pub flat_insert : (at : ℕ) (r : Run) → at ≤ length here.items
      → flat (list_set bs i (record { items = list_insert here.items at r })) ≡ list_insert (flat bs) (length (flat us) + at) r
  flat_insert at r le =
      flat_set (record { items = list_insert here.items at r })
      ∙ sym (insert_mid (flat us) here.items (flat ls) at r le)
      ∙ ap (λ (l : List Run). list_insert l (length (flat us) + at) r) (sym flat_parts)

  -- a run goes out of a block
  pub flat_remove : (at : ℕ) → at < length here.items
      → flat (list_set bs i (record { items = list_remove here.items at })) ≡ list_remove (flat bs) (length (flat us) + at)
  flat_remove at lt =
      flat_set (record { items = list_remove here.items at })
      ∙ sym (remove_mid (flat us) here.items (flat ls) at lt)
      ∙ ap (λ (l : List Run). list_remove l (length (flat us) + at)) (sym flat_parts)

  -- a block of one run goes
  pub flat_without : (at : ℕ) → at < length here.items → length here.items ≡ 1 → flat (list_remove bs i) ≡ list_remove (flat bs) (length (flat us) + at)
  flat_without at lt one =
      let gone : list_remove here.items at ≡ [] = only_goes here.items at lt one in
      flat_map-append {X = Block} {A = Run} (λ block. block.items) us ls
      ∙ sym (remove_mid (flat us) here.items (flat ls) at lt ∙ ap (λ (l : List Run). flat us ++ (l ++ flat ls)) gone)
      ∙ ap (λ (l : List Run). list_remove l (length (flat us) + at)) (sym flat_parts)

  pub weight_without : weight (list_remove bs i) + block_weight here ≡ weight bs
  weight_without = let e = sum_by-append block_weight us ls in let p = weight_parts in omega (arith, e, p)

  pub each_without : All IsBlock bs → All IsBlock (list_remove bs i)
  each_without h = All-append IsBlock us ls (each_take i bs h) (each_drop (suc i) bs h)

  -- a block in two halves
  abbrev pub high : Block
  high = record { items = take 128 here.items }

  abbrev pub low : Block
  low = record { items = drop 128 here.items }

  abbrev pub halved : List Block
  halved = us ++ high ∷ low ∷ drop (i + 1) bs

  next : i + 1 ≡ suc i
  next = omega arith

  us_length : length us ≡ i
  us_length = length-take-le i bs (omega arith)

  pub halved_flat : flat halved ≡ flat bs
  halved_flat =
      flat_around us high (low ∷ drop (i + 1) bs)
      ∙ ap (λ (l : List Run). flat us ++ l) (sym (append_assoc (take 128 here.items) (drop 128 here.items) (flat (drop (i + 1) bs))))
      ∙ ap (λ (l : List Run). flat us ++ (l ++ flat (drop (i + 1) bs))) (take-append-drop 128 here.items)
      ∙ ap (λ k. flat us ++ (here.items ++ flat (drop k bs))) next
      ∙ sym flat_parts

  pub halved_length : length halved ≡ length bs + 1
  halved_length = let a = length-append us (high ∷ low ∷ drop (i + 1) bs) in let b = length-drop (i + 1) bs in let c = us_length in omega (arith, a, b, c)

  pub halved_take : take i halved ≡ us
  halved_take = ap (λ k. take k halved) (sym us_length) ∙ take-append_seam us (high ∷ low ∷ drop (i + 1) bs)

  pub halved_take_next : take (i + 1) halved ≡ us ++ high ∷ []
  halved_take_next = ap (λ k. take (k + 1) halved) (sym us_length) ∙ take-append-add us (high ∷ low ∷ drop (i + 1) bs) 1

  pub halved_high : (e : Block) → get_or halved i e ≡ high
  halved_high e = ap (λ k. get_or halved k e) (sym us_length) ∙ get_or-append_seam us high (low ∷ drop (i + 1) bs) e

  pub halved_low : (e : Block) → get_or halved (i + 1) e ≡ low
  halved_low e = ap (λ k. get_or halved (k + 1) e) (sym us_length) ∙ get_or-append-add us (high ∷ low ∷ drop (i + 1) bs) 1 e

  module _ (full : length here.items ≡ 256) where
    pub high_length : length high.items ≡ 128
    high_length = length-take-le 128 here.items (omega arith)

    pub low_length : length low.items ≡ 128
    low_length = let e = length-drop 128 here.items in omega (arith, e)

    pub halved_weight : weight halved ≡ weight bs
    halved_weight =
        let a = weight_around us high (low ∷ drop (i + 1) bs) in
        let b = sum_by-cons block_weight low (drop (i + 1) bs) in
        let c = weight_parts in
        let e : weight (drop (i + 1) bs) ≡ weight ls = ap (λ k. weight (drop k bs)) next in
        let h = high_length in
        let l = low_length in
        omega (arith, a, b, c, e, h, l)

    pub halved_each : All IsBlock bs → All IsBlock halved
    halved_each each =
        let h = high_length in
        let l = low_length in
        All-append IsBlock us (high ∷ low ∷ drop (i + 1) bs) (each_take i bs each)
        (All-cons IsBlock high (low ∷ drop (i + 1) bs) (omega arith, omega arith) (All-cons IsBlock low (drop (i + 1) bs) (omega arith, omega arith) (each_drop (i + 1) bs each)))

-- one run more, at a place among all
pub record IsInserted (old new : List Block) (n : ℕ) (r : Run) (more : ℕ) : Type 0 where
  pub runs : flat new ≡ list_insert (flat old) n r
  pub each : All IsBlock new
  pub weight_is : weight new ≡ weight old + more

module _ (bs : List Block) (i : ℕ) (d : Block) (within : i < length bs) (each : All IsBlock bs) (at : ℕ) (r : Run) (le : at ≤ length (get_or bs i d).items) where
  abbrev put : Block
  put = record { items = list_insert (get_or bs i d).items at r }

  longer : length put.items ≡ length (get_or bs i d).items + 1
  longer = length-insert (get_or bs i d).items at r le

  put_each : length (get_or bs i d).items < 256 → All IsBlock (list_set bs i put)
  put_each lt = let e = longer in All-set IsBlock bs i put (omega arith, omega arith) each

  pub inserted_same : length (get_or bs i d).items < 128 → IsInserted bs (list_set bs i put) (length (flat (take i bs)) + at) r 0
  inserted_same lt =
      let e = longer in
      let a = weight_set bs i d within put in
      let b = weight_parts bs i d within in
      record { runs = flat_insert bs i d within at r le; each = put_each (omega arith); weight_is = omega (arith, e, a, b) }

  pub inserted_more : 128 ≤ length (get_or bs i d).items → length (get_or bs i d).items < 256 → IsInserted bs (list_set bs i put) (length (flat (take i bs)) + at) r 1
  inserted_more ge lt =
      let e = longer in
      let a = weight_set bs i d within put in
      let b = weight_parts bs i d within in
      record { runs = flat_insert bs i d within at r le; each = put_each lt; weight_is = omega (arith, e, a, b) }

-- a full block takes a place of its own and the least of each other
pub weight_full : (bs : List Block) (i : ℕ) (d : Block) (within : i < length bs) → length (get_or bs i d).items ≡ 256 → 128 * (length bs + 1) ≤ weight bs
weight_full bs i d within full =
    let p = weight_parts bs i d within in
    let a = weight_low (take i bs) in
    let b = weight_low (drop (suc i) bs) in
    let la = length-take-le i bs (omega arith) in
    let lb = length-drop (suc i) bs in
    omega (arith, p, a, b, la, lb)

-- a run comes into one of the halves of a block that was full
module _ (bs : List Block) (i : ℕ) (d : Block) (within : i < length bs) (each : All IsBlock bs) (full : length (get_or bs i d).items ≡ 256) (at : ℕ) (r : Run)
    (new : List Block) (is : new ≡ halved bs i d within) where
  inside : i + 1 < length new
  inside = let e = halved_length bs i d within in let f = ap (λ (l : List Block). length l) is in omega (arith, e, f)

  new_each : All IsBlock new
  new_each = subst (λ (l : List Block). All IsBlock l) (sym is) (halved_each bs i d within full each)

  new_weight : weight new ≡ weight bs
  new_weight = ap weight is ∙ halved_weight bs i d within full

  new_flat : flat new ≡ flat bs
  new_flat = ap flat is ∙ halved_flat bs i d within

  pub at_high : (e : Block) → get_or new i e ≡ high bs i d within
  at_high e = ap (λ (l : List Block). get_or l i e) is ∙ halved_high bs i d within e

  pub at_low : (e : Block) → get_or new (i + 1) e ≡ low bs i d within
  at_low e = ap (λ (l : List Block). get_or l (i + 1) e) is ∙ halved_low bs i d within e

  pub length_high : (e : Block) → length (get_or new i e).items ≡ 128
  length_high e = ap (λ (x : Block). length x.items) (at_high e) ∙ high_length bs i d within full

  pub length_low : (e : Block) → length (get_or new (i + 1) e).items ≡ 128
  length_low e = ap (λ (x : Block). length x.items) (at_low e) ∙ low_length bs i d within full

  pub into_high : at ≤ 128 → IsInserted bs (list_set new i (record { items = list_insert (get_or new i d).items at r })) (length (flat (take i bs)) + at) r 1
  into_high le =
      let h = length_high d in
      let inside_now = inside in
      let done = inserted_more new i d (omega arith) new_each at r (omega arith) (omega arith) (omega arith) in
      let front : take i new ≡ take i bs = ap (λ (l : List Block). take i l) is ∙ halved_take bs i d within in
      let w = new_weight in
      let v = done.weight_is in
      record {
        runs = done.runs ∙ ap (λ (l : List Block). list_insert (flat new) (length (flat l) + at) r) front ∙ ap (λ (l : List Run). list_insert l (length (flat (take i bs)) + at) r) new_flat;
        each = done.each;
        weight_is = omega (arith, w, v);
      }

  pub into_low : 128 < at → at ≤ 256 → IsInserted bs (list_set new (i + 1) (record { items = list_insert (get_or new (i + 1) d).items (at - 128) r })) (length (flat (take i bs)) + at) r 1
  into_low gt le =
      let h = length_low d in
      let done = inserted_more new (i + 1) d inside new_each (at - 128) r (omega arith) (omega arith) (omega arith) in
      let front : take (i + 1) new ≡ take i bs ++ high bs i d within ∷ [] = ap (λ (l : List Block). take (i + 1) l) is ∙ halved_take_next bs i d within in
      let long : length (flat (take (i + 1) new)) ≡ length (flat (take i bs)) + 128 =
      ap (λ (l : List Block). length (flat l)) front
      ∙ ap (λ (l : List Run). length l) (flat_around (take i bs) (high bs i d within) [])
      ∙ length-append (flat (take i bs)) ((high bs i d within).items ++ [])
      ∙ ap (λ (l : List Run). length (flat (take i bs)) + length l) (append-nil (high bs i d within).items)
      ∙ ap (λ k. length (flat (take i bs)) + k) (high_length bs i d within full)
      in
      let place : length (flat (take (i + 1) new)) + (at - 128) ≡ length (flat (take i bs)) + at = omega (arith, long) in
      let w = new_weight in
      let v = done.weight_is in
      record {
        runs = done.runs ∙ ap (λ k. list_insert (flat new) k r) place ∙ ap (λ (l : List Run). list_insert l (length (flat (take i bs)) + at) r) new_flat;
        each = done.each;
        weight_is = omega (arith, w, v);
      }

-- one run less, and the weight is less by so much
pub record IsRemoved (old new : List Block) (n : ℕ) (less : ℕ) : Type 0 where
  pub runs : flat new ≡ list_remove (flat old) n
  pub each : All IsBlock new
  pub weight_is : weight new + less ≡ weight old

module _ (bs : List Block) (i : ℕ) (d : Block) (within : i < length bs) (each : All IsBlock bs) (at : ℕ) (lt : at < length (get_or bs i d).items) where
  abbrev cut : Block
  cut = record { items = list_remove (get_or bs i d).items at }

  shorter : length cut.items + 1 ≡ length (get_or bs i d).items
  shorter = length-remove (get_or bs i d).items at lt

  cut_each : 1 < length (get_or bs i d).items → All IsBlock (list_set bs i cut)
  cut_each some = let e = shorter in let h = each i d within in All-set IsBlock bs i cut (omega arith, omega arith) each

  pub removed_same : 1 < length (get_or bs i d).items → length (get_or bs i d).items ≤ 128 → IsRemoved bs (list_set bs i cut) (length (flat (take i bs)) + at) 0
  removed_same some few =
      let e = shorter in
      let a = weight_set bs i d within cut in
      let b = weight_parts bs i d within in
      record { runs = flat_remove bs i d within at lt; each = cut_each some; weight_is = omega (arith, e, a, b) }

  pub removed_less : 128 < length (get_or bs i d).items → IsRemoved bs (list_set bs i cut) (length (flat (take i bs)) + at) 1
  removed_less many =
      let e = shorter in
      let a = weight_set bs i d within cut in
      let b = weight_parts bs i d within in
      record { runs = flat_remove bs i d within at lt; each = cut_each (omega arith); weight_is = omega (arith, e, a, b) }

  pub removed_block : length (get_or bs i d).items ≡ 1 → IsRemoved bs (list_remove bs i) (length (flat (take i bs)) + at) 128
  removed_block one =
      let b = weight_without bs i d within in
      record { runs = flat_without bs i d within at lt one; each = each_without bs i d within each; weight_is = omega (arith, b) }

-- the same of a block that is named otherwise
pub flat_removed : (bs old : List Block) (i at : ℕ) (b was : Block) → old ≡ bs → was ≡ get_or old i was → i < length bs → at < length was.items
    → b.items ≡ list_remove was.items at → flat (list_set old i b) ≡ list_remove (flat bs) (length (flat (take i bs)) + at)
flat_removed bs old i at b was same here within lt is =
    let there : was ≡ get_or bs i was = here ∙ ap (λ (l : List Block). get_or l i was) same in
    let long : length was.items ≡ length (get_or bs i was).items = ap (λ (x : Block). length x.items) there in
    ap (λ (l : List Block). flat (list_set l i b)) same
    ∙ flat_set bs i was within b
    ∙ ap (λ (l : List Run). flat (take i bs) ++ (l ++ flat (drop (suc i) bs))) (is ∙ ap (λ (x : Block). list_remove x.items at) there)
    ∙ sym (flat_set bs i was within (record { items = list_remove (get_or bs i was).items at }))
    ∙ flat_remove bs i was within at (omega (arith, long, lt))

-- a write of all elements of a block
pub rewritten : (b : Block) (xs : List Run) → length xs ≡ length b.items → (with_items b xs).items ≡ xs
rewritten b xs e = ap (λ k. take k (xs ++ drop (length xs) b.items)) (sym e) ∙ take-append_seam xs (drop (length xs) b.items)

-- a block behind one that is written
pub set_insert : (xs : List Block) (i : ℕ) (a b : Block) → i < length xs → list_insert (list_set xs i a) (i + 1) b ≡ take i xs ++ a ∷ b ∷ drop (i + 1) xs
set_insert xs i a b lt =
    ap (λ (l : List Block). l ++ b ∷ drop (i + 1) (list_set xs i a)) (take_more_set xs i a lt)
    ∙ ap (λ (l : List Block). (take i xs ++ a ∷ []) ++ b ∷ l) (drop-set-lt (i + 1) xs i a (omega arith))
    ∙ append_assoc (take i xs) (a ∷ []) (b ∷ drop (i + 1) xs)

-- a block takes the place of two neighbors
pub set_remove_next : (xs : List Block) (i : ℕ) (a : Block) → suc i < length xs → list_set (list_remove xs (suc i)) i a ≡ take i xs ++ a ∷ drop (suc (suc i)) xs
set_remove_next [] i a lt = absurd (omega arith)
set_remove_next (x ∷ xs) zero a lt = refl
set_remove_next (x ∷ xs) (suc i) a lt = ap (λ (l : List Block). x ∷ l) (set_remove_next xs i a (omega arith))

pub get_remove_next : (xs : List Block) (i : ℕ) (d : Block) → suc i < length xs → get_or (list_remove xs (suc i)) i d ≡ get_or xs i d
get_remove_next [] i d lt = absurd (omega arith)
get_remove_next (x ∷ xs) zero d lt = refl
get_remove_next (x ∷ xs) (suc i) d lt = get_remove_next xs i d (omega arith)

-- two neighbors become one block
module _ (bs : List Block) (i : ℕ) (d : Block) (within : i + 1 < length bs) where
  abbrev pub both : Block
  both = record { items = (get_or bs i d).items ++ (get_or bs (i + 1) d).items }

  abbrev pub joined : List Block
  joined = take i bs ++ both ∷ drop (i + 2) bs

  first_within : i < length bs
  first_within = omega arith

  pub lower : drop (suc i) bs ≡ get_or bs (i + 1) d ∷ drop (i + 2) bs
  lower =
      let e : i + 1 ≡ suc i = omega arith in
      let f : suc (i + 1) ≡ i + 2 = omega arith in
      ap (λ k. drop k bs) (sym e) ∙ drop-cons bs (i + 1) d within ∙ ap (λ k. get_or bs (i + 1) d ∷ drop k bs) f

  pub joined_flat : flat joined ≡ flat bs
  joined_flat =
      flat_around (take i bs) both (drop (i + 2) bs)
      ∙ ap (λ (l : List Run). flat (take i bs) ++ l) (append_assoc (get_or bs i d).items (get_or bs (i + 1) d).items (flat (drop (i + 2) bs)))
      ∙ ap (λ (l : List Block). flat (take i bs) ++ ((get_or bs i d).items ++ flat l)) (sym lower)
      ∙ sym (flat_parts bs i d first_within)

  pub both_length : length both.items ≡ length (get_or bs i d).items + length (get_or bs (i + 1) d).items
  both_length = length-append (get_or bs i d).items (get_or bs (i + 1) d).items

  module _ (few : length (get_or bs i d).items + length (get_or bs (i + 1) d).items ≤ 128) (each : All IsBlock bs) where
    pub joined_weight : weight joined + 128 ≡ weight bs
    joined_weight =
        let a = weight_around (take i bs) both (drop (i + 2) bs) in
        let b = weight_parts bs i d first_within in
        let c : weight (drop (suc i) bs) ≡ block_weight (get_or bs (i + 1) d) + weight (drop (i + 2) bs) =
        ap weight lower ∙ sum_by-cons block_weight (get_or bs (i + 1) d) (drop (i + 2) bs)
        in
        let e = both_length in
        omega (arith, a, b, c, e)

    pub joined_each : All IsBlock joined
    joined_each =
        let e = both_length in
        let h = each i d first_within in
        All-append IsBlock (take i bs) (both ∷ drop (i + 2) bs) (each_take i bs each)
        (All-cons IsBlock both (drop (i + 2) bs) (omega (arith, e, h), omega (arith, e)) (each_drop (i + 2) bs each))
