-- Lists of blocks: their slots, where one block is changed, halved or taken out.
use Rattle.std.proofs.Common.{◌≡◌, ℕ, zero, suc, ◌+◌, ◌-◌, ◌<◌, ◌≤◌, List, [], ◌∷◌, ◌++◌, length, get_or, set as list_set, take, drop, arith, refl, ap, sym, ◌∙◌, append_assoc, drop-cons}
use Rattle.std.proofs.Common.{length-append, length-drop, All, insert as list_insert, remove as list_remove, drop-set-lt, append-nil, take-append-drop, length-take-le, get_or-append-add, take_all}
use Rattle.std.proofs.Math.Seq.{take-append_seam, get_or-append_seam, take-append-add}
use Rattle.std.proofs.lemmas.Grind.{flat_map-append}
use Rattle.std.proofs.lemmas.List.{get_or_read, take_more, take_more_set, set_split}
use Rattle.std.proofs.lemmas.List.Concat.{get_or-flat_map}
use Rattle.std.proofs.lemmas.List.Edits.{insert-append_left, insert-append_right, remove-append_left, remove-append_right}
use Rattle.std.proofs.lemmas.List.Elements.{All-append, All-cons, All-take, All-drop}
use Rattle.std.proofs.lemmas.List.Folds.{length-flat_map-take}
use Rattle.hv_ports.specs.Blocks.{Block, IsBlock, flat}

-- an edit in the middle of three lists
pub insert_mid : {S : Type 0} (xs ys zs : List S) (at : ℕ) (s : S) → at ≤ length ys → list_insert (xs ++ (ys ++ zs)) (length xs + at) s ≡ xs ++ (list_insert ys at s ++ zs)
insert_mid {S} xs ys zs at s le =
    let e : length xs + at - length xs ≡ at = omega arith in
    insert-append_right xs (ys ++ zs) (length xs) (length xs + at) s refl (omega arith)
    ∙ ap (λ k. xs ++ list_insert (ys ++ zs) k s) e
    ∙ ap (λ (l : List S). xs ++ l) (insert-append_left ys zs at s le)

pub remove_mid : {S : Type 0} (xs ys zs : List S) (at : ℕ) → at < length ys → list_remove (xs ++ (ys ++ zs)) (length xs + at) ≡ xs ++ (list_remove ys at ++ zs)
remove_mid {S} xs ys zs at lt =
    let e : length xs + at - length xs ≡ at = omega arith in
    remove-append_right xs (ys ++ zs) (length xs) (length xs + at) refl (omega arith)
    ∙ ap (λ k. xs ++ list_remove (ys ++ zs) k) e
    ∙ ap (λ (l : List S). xs ++ l) (remove-append_left ys zs at lt)

-- the only slot goes
pub only_goes : {S : Type 0} (xs : List S) (at : ℕ) → at < length xs → length xs ≡ 1 → list_remove xs at ≡ []
only_goes [] at lt one = absurd (omega arith)
only_goes (x ∷ []) zero lt one = refl
only_goes (x ∷ []) (suc at) lt one = absurd (omega arith)
only_goes (x ∷ y ∷ xs) at lt one = absurd (omega arith)

-- one element behind all
pub insert_end : {S : Type 0} (xs : List S) (n : ℕ) (s : S) → n ≡ length xs → list_insert xs n s ≡ xs ++ s ∷ []
insert_end [] zero s e = refl
insert_end [] (suc n) s e = absurd (omega arith)
insert_end (x ∷ xs) zero s e = absurd (omega arith)
insert_end {S} (x ∷ xs) (suc n) s e = ap (λ (l : List S). x ∷ l) (insert_end xs n s (omega arith))

module _ {R A : Type 0} where
  pub flat_around : (us : List (Block R A)) (b : Block R A) (ls : List (Block R A)) → flat (us ++ b ∷ ls) ≡ flat us ++ (b.items ++ flat ls)
  flat_around us b ls = flat_map-append {X = Block R A} {A = ℕ × R} (λ block. block.items) us (b ∷ ls)

  -- a block behind one that is written
  pub set_insert : (xs : List (Block R A)) (i : ℕ) (a b : Block R A) → i < length xs → list_insert (list_set xs i a) (i + 1) b ≡ take i xs ++ a ∷ b ∷ drop (i + 1) xs
  set_insert xs i a b lt =
      ap (λ (l : List (Block R A)). l ++ b ∷ drop (i + 1) (list_set xs i a)) (take_more_set xs i a lt)
      ∙ ap (λ (l : List (Block R A)). (take i xs ++ a ∷ []) ++ b ∷ l) (drop-set-lt (i + 1) xs i a (omega arith))
      ∙ append_assoc (take i xs) (a ∷ []) (b ∷ drop (i + 1) xs)

  module _ (bs : List (Block R A)) (i : ℕ) (d : Block R A) (within : i < length bs) where
    abbrev us : List (Block R A)
    us = take i bs

    abbrev ls : List (Block R A)
    ls = drop (suc i) bs

    abbrev here : Block R A
    here = get_or bs i d

    pub parts : us ++ here ∷ ls ≡ bs
    parts = ap (λ (l : List (Block R A)). us ++ l) (sym (drop-cons bs i d within)) ∙ take-append-drop i bs

    pub flat_parts : flat bs ≡ flat us ++ (here.items ++ flat ls)
    flat_parts = ap flat (sym parts) ∙ flat_around us here ls

    pub flat_set : (b : Block R A) → flat (list_set bs i b) ≡ flat us ++ (b.items ++ flat ls)
    flat_set b = ap flat (set_split bs i b within) ∙ flat_around us b ls

    -- the slots before the next block
    pub length_next : length (flat (take (i + 1) bs)) ≡ length (flat us) + length here.items
    length_next =
        ap (λ (l : List (Block R A)). length (flat l)) (take_more bs i d within)
        ∙ ap (λ (l : List (ℕ × R)). length l) (flat_around us here [])
        ∙ length-append (flat us) (here.items ++ [])
        ∙ ap (λ (l : List (ℕ × R)). length (flat us) + length l) (append-nil here.items)

    -- a slot of a block among all slots
    pub read_at : (at : ℕ) (s : ℕ × R) → at < length here.items → get_or (flat bs) (length (flat us) + at) s ≡ get_or here.items at s
    read_at at s lt = get_or-flat_map {X = Block R A} {A = ℕ × R} (λ block. block.items) bs i at d s within lt

    pub inside : length (flat us) + length here.items ≤ length (flat bs)
    inside = length-flat_map-take {X = Block R A} {Y = ℕ × R} (λ block. block.items) bs i d within

    -- a slot comes into a block
    pub flat_put : (b : Block R A) (at : ℕ) (s : ℕ × R) → at ≤ length here.items → b.items ≡ list_insert here.items at s → flat (list_set bs i b) ≡ list_insert (flat bs) (length (flat us) + at) s
    flat_put b at s le is =
        flat_set b
        ∙ ap (λ (l : List (ℕ × R)). flat us ++ (l ++ flat ls)) is
        ∙ sym (insert_mid (flat us) here.items (flat ls) at s le)
        ∙ ap (λ (l : List (ℕ × R)). list_insert l (length (flat us) + at) s) (sym flat_parts)

    -- a slot goes out of a block
    pub flat_cut : (b : Block R A) (at : ℕ) → at < length here.items → b.items ≡ list_remove here.items at → flat (list_set bs i b) ≡ list_remove (flat bs) (length (flat us) + at)
    flat_cut b at lt is =
        flat_set b
        ∙ ap (λ (l : List (ℕ × R)). flat us ++ (l ++ flat ls)) is
        ∙ sym (remove_mid (flat us) here.items (flat ls) at lt)
        ∙ ap (λ (l : List (ℕ × R)). list_remove l (length (flat us) + at)) (sym flat_parts)

    -- a block of one slot goes
    pub flat_without : (at : ℕ) → at < length here.items → length here.items ≡ 1 → flat (list_remove bs i) ≡ list_remove (flat bs) (length (flat us) + at)
    flat_without at lt one =
        let gone : list_remove here.items at ≡ [] = only_goes here.items at lt one in
        flat_map-append {X = Block R A} {A = ℕ × R} (λ block. block.items) us ls
        ∙ sym (remove_mid (flat us) here.items (flat ls) at lt ∙ ap (λ (l : List (ℕ × R)). flat us ++ (l ++ flat ls)) gone)
        ∙ ap (λ (l : List (ℕ × R)). list_remove l (length (flat us) + at)) (sym flat_parts)

    pub each_without : All IsBlock bs → All IsBlock (list_remove bs i)
    each_without h = All-append IsBlock us ls (All-take IsBlock i bs h) (All-drop IsBlock (suc i) bs h)

    -- a block in two halves
    module _ (high low : Block R A) (full : length here.items ≡ 16) (high_is : high.items ≡ take 8 here.items) (low_is : low.items ≡ drop 8 here.items)
        (new : List (Block R A)) (is : new ≡ us ++ high ∷ low ∷ drop (i + 1) bs) where
      next : i + 1 ≡ suc i
      next = omega arith

      us_length : length us ≡ i
      us_length = length-take-le i bs (omega arith)

      pub high_length : length high.items ≡ 8
      high_length = ap (λ (l : List (ℕ × R)). length l) high_is ∙ length-take-le 8 here.items (omega arith)

      pub low_length : length low.items ≡ 8
      low_length = let e = length-drop 8 here.items in let f = ap (λ (l : List (ℕ × R)). length l) low_is in omega (arith, e, f)

      pub halved_flat : flat new ≡ flat bs
      halved_flat =
          ap flat is
          ∙ flat_around us high (low ∷ drop (i + 1) bs)
          ∙ ap (λ (l : List (ℕ × R)). flat us ++ l) (sym (append_assoc high.items low.items (flat (drop (i + 1) bs))))
          ∙ ap (λ (l : List (ℕ × R)). flat us ++ ((l ++ low.items) ++ flat (drop (i + 1) bs))) high_is
          ∙ ap (λ (l : List (ℕ × R)). flat us ++ ((take 8 here.items ++ l) ++ flat (drop (i + 1) bs))) low_is
          ∙ ap (λ (l : List (ℕ × R)). flat us ++ (l ++ flat (drop (i + 1) bs))) (take-append-drop 8 here.items)
          ∙ ap (λ k. flat us ++ (here.items ++ flat (drop k bs))) next
          ∙ sym flat_parts

      pub halved_each : All IsBlock bs → IsBlock high → IsBlock low → All IsBlock new
      halved_each each h l =
          let some = All-append IsBlock us (high ∷ low ∷ drop (i + 1) bs) (All-take IsBlock i bs each)
          (All-cons IsBlock high (low ∷ drop (i + 1) bs) h (All-cons IsBlock low (drop (i + 1) bs) l (All-drop IsBlock (i + 1) bs each))) in
          rw is some

      pub at_high : (e : Block R A) → get_or new i e ≡ high
      at_high e = ap (λ (l : List (Block R A)). get_or l i e) is ∙ ap (λ k. get_or (us ++ high ∷ low ∷ drop (i + 1) bs) k e) (sym us_length)
          ∙ get_or-append_seam us high (low ∷ drop (i + 1) bs) e

      pub at_low : (e : Block R A) → get_or new (i + 1) e ≡ low
      at_low e = ap (λ (l : List (Block R A)). get_or l (i + 1) e) is ∙ ap (λ k. get_or (us ++ high ∷ low ∷ drop (i + 1) bs) (k + 1) e) (sym us_length)
          ∙ get_or-append-add us (high ∷ low ∷ drop (i + 1) bs) 1 e

      pub before_high : length (flat (take i new)) ≡ length (flat us)
      before_high =
          ap (λ (l : List (Block R A)). length (flat (take i l))) is
          ∙ ap (λ k. length (flat (take k (us ++ high ∷ low ∷ drop (i + 1) bs)))) (sym us_length)
          ∙ ap (λ (l : List (Block R A)). length (flat l)) (take-append_seam us (high ∷ low ∷ drop (i + 1) bs))

      pub before_low : length (flat (take (i + 1) new)) ≡ length (flat us) + 8
      before_low =
          ap (λ (l : List (Block R A)). length (flat (take (i + 1) l))) is
          ∙ ap (λ k. length (flat (take (k + 1) (us ++ high ∷ low ∷ drop (i + 1) bs)))) (sym us_length)
          ∙ ap (λ (l : List (Block R A)). length (flat l)) (take-append-add us (high ∷ low ∷ drop (i + 1) bs) 1)
          ∙ ap (λ (l : List (ℕ × R)). length l) (flat_around us high [])
          ∙ length-append (flat us) (high.items ++ [])
          ∙ ap (λ (l : List (ℕ × R)). length (flat us) + length l) (append-nil high.items)
          ∙ ap (λ k. length (flat us) + k) high_length

  -- the end of a full block behind which there is none
  pub full_end : (bs : List (Block R A)) (i at : ℕ) → at ≡ 16 → i + 1 ≡ length bs → ((d : Block R A) → length (get_or bs i d).items ≡ 16) → length (flat (take i bs)) + at ≡ length (flat bs)
  full_end [] i at is last full = absurd (omega (arith, last))
  full_end (b ∷ bs) i at is last full =
      let m = length_next (b ∷ bs) i b (omega (arith, last)) in
      let all : length (flat (take (i + 1) (b ∷ bs))) ≡ length (flat (b ∷ bs)) = ap (λ (l : List (Block R A)). length (flat l)) (take_all (i + 1) (b ∷ bs) (omega (arith, last))) in
      let f = full b in
      omega (arith, is, m, all, f)

  -- a slot that is read from a block, among all slots
  pub row_at : (bs : List (Block R A)) (i at : ℕ) (was : Block R A) (slot s : ℕ × R) → i < length bs → was ≡ get_or bs i was → at < length (get_or bs i was).items → slot ≡ get_or was.items at slot
      → slot ≡ get_or (flat bs) (length (flat (take i bs)) + at) s
  row_at bs i at was slot s within here lt read =
      let there : slot ≡ get_or (get_or bs i was).items at slot = read ∙ ap (λ (x : Block R A). get_or x.items at slot) here in
      get_or_read (get_or bs i was).items at slot lt there s ∙ sym (read_at bs i was within at s lt)
