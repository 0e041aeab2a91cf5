-- The rows of a node, around those of one child.
use Rattle.std.proofs.lemmas.Bool.{cases_Bool}
use Rattle.std.proofs.Common.{◌≡◌, ℕ, ◌+◌, ◌<◌, suc, true, false, ◌==◌, inl, inr, Option, None, Some, is_some, List, ◌∷◌, ◌++◌, Box, refl, sym, ap, ◌∙◌, arith, length, take, drop, set, get_or}
use Rattle.std.proofs.Common.{append_assoc, append-nil, option_map, insert, take-append-drop}
use Rattle.std.specs.Option.{option_or}
use Rattle.std.specs.Box.{with_value}
use Rattle.hv_tree.specs.Rows.{children_in}
use Rattle.hv_tree.specs.Nest.{Line, has_row, look, uses, AreDistinct, hang, put_at, IsPart, IsGrownBy}
use Rattle.hv_tree.specs.Below.{below, AreNests}
use Rattle.hv_tree.proofs.Lists.{parted, set-parted}
use Rattle.hv_tree.proofs.Lines.{has-hang, has-look, look-none, look-append, look-hang, hung, uses-append, uses-hang, used, has-unused, one_if, below-append, hang-append, hang-hang, put-append}
use Rattle.hv_tree.proofs.Lines.{put-hang}
use Rattle.hv_tree.proofs.ChildLists.{kids-append, kids-hang, closed-below, AreNests-take, AreNests-drop}

-- a child is put in
pub grown-here : {T A : Type 0} (p : ℕ) (row : Line T) (ks : List (Box (List (Line T)) A)) (i : ℕ) (node : Box (List (Line T)) A) → IsGrownBy p node.value (row ∷ below p ks)
    (row ∷ below p (insert ks i node))
grown-here p row ks i node = (
  row ∷ below p (take i ks),
  (
    below p (drop i ks),
    (
      ap (λ l. row ∷ l) (ap (below p) (sym (take-append-drop i ks)) ∙ below-append p (take i ks) (drop i ks)),
      ap (λ l. row ∷ l) (below-append p (take i ks) (node ∷ drop i ks)),
    ),
  ),
)

-- a value that was found is there
pub found_has : {X Y : Type 0} (q : ℕ) (es : List (ℕ × X)) (f : X → Y) (y : Y) → Some y ≡ option_map f (look q es) → has_row q es ≡ true
found_has {X = X} q es f y e = has-look q es ∙ some_of (look q es) e
  where
    some_of : (o : Option X) → Some y ≡ option_map f o → is_some o ≡ true
    some_of None e = cc
    some_of (Some x) e = refl

-- k is the child at i
module _ {T A : Type 0} (p : ℕ) (ks : List (Box (List (Line T)) A)) (i : ℕ) (k : Box (List (Line T)) A) (lt : i < length ks) (is : k ≡ get_or ks i k) where
  pub around : below p ks ≡ below p (take i ks) ++ (hang p k.value ++ below p (drop (suc i) ks))
  around = ap (below p) (parted ks i k lt is) ∙ below-append p (take i ks) (k ∷ drop (suc i) ks)

  pub around-set : (new : List (Line T)) → below p (set ks i (with_value k new)) ≡ below p (take i ks) ++ (hang p new ++ below p (drop (suc i) ks))
  around-set new = ap (below p) (set-parted ks i (with_value k new) lt) ∙ below-append p (take i ks) (with_value k new ∷ drop (suc i) ks)

  -- where no earlier child has the id
  module _ (q : ℕ) (none : has_row q (below p (take i ks)) ≡ false) where
    some_or : {X : Type 0} (o b : Option X) → is_some o ≡ true → option_or o b ≡ o
    some_or None b e = cc
    some_or (Some x) b e = refl

    some_mapped : {X Y : Type 0} (f : X → Y) (o : Option X) → is_some (option_map f o) ≡ is_some o
    some_mapped f None = refl
    some_mapped f (Some x) = refl

    pub look-child : has_row q k.value ≡ true → look q (below p ks) ≡ option_map (hung p) (look q k.value)
    look-child has =
        ap (look q) around
        ∙ look-append q (below p (take i ks)) (hang p k.value ++ below p (drop (suc i) ks))
        ∙ (rw (look-none q (below p (take i ks)) none, look-append q (hang p k.value) (below p (drop (suc i) ks)), look-hang q p k.value)
        (some_or (option_map (hung p) (look q k.value)) (look q (below p (drop (suc i) ks))) (some_mapped (hung p) (look q k.value) ∙ sym (has-look q k.value) ∙ has)))

    held-mapped : (o : Option (Option ℕ × Option T)) → option_map (λ r. r.1) (option_map (hung p) o) ≡ option_map (λ r. r.1) o
    held-mapped None = refl
    held-mapped (Some r) = refl

    above-mapped : (o : Option (Option ℕ × Option T)) → option_map (λ r. r.0) (option_map (hung p) o) ≡ option_map (λ a. option_or a (Some p)) (option_map (λ r. r.0) o)
    above-mapped None = refl
    above-mapped (Some r) = refl

    -- the content and the parent of a row of the child
    pub held-row : (c : Option T) → (q == p) ≡ false → has_row q k.value ≡ true → option_map (λ r. r.1) (look q ((p, (None, c)) ∷ below p ks)) ≡ option_map (λ r. r.1) (look q k.value)
    held-row c off has = rw off (ap (option_map (λ r. r.1)) (look-child has) ∙ held-mapped (look q k.value))

    pub parent-row : (c : Option T) → (q == p) ≡ false → has_row q k.value ≡ true → option_map (λ r. r.0) (look q ((p, (None, c)) ∷ below p ks)) ≡ option_map (λ a. option_or a (Some p))
        (option_map (λ r. r.0) (look q k.value))
    parent-row c off has = rw off (ap (option_map (λ r. r.0)) (look-child has) ∙ above-mapped (look q k.value))

    pub put-child : (h : Option T) → has_row q k.value ≡ true → put_at q h (below p ks) ≡ below p (set ks i (with_value k (put_at q h k.value)))
    put-child h has =
        ap (put_at q h) around
        ∙ put-append q h (below p (take i ks)) (hang p k.value ++ below p (drop (suc i) ks))
        ∙ (rw (none, put-append q h (hang p k.value) (below p (drop (suc i) ks)), has-hang q p k.value, has, put-hang q p h k.value) (sym (around-set (put_at q h k.value))))

  -- a child grows
  pub grown-child : (row : Line T) (r : ℕ) (es new : List (Line T)) → IsGrownBy r es k.value new → IsGrownBy r es (row ∷ below p ks) (row ∷ below p (set ks i (with_value k new)))
  grown-child row r es new (xs, (ys, (old_is, new_is))) = (
    row ∷ (below p (take i ks) ++ hang p xs),
    (
      hang p ys ++ below p (drop (suc i) ks),
      (
        ap (λ l. row ∷ l) (around ∙ (rw (old_is, hang-append p xs ys) (simp append_assoc))),
        ap (λ l. row ∷ l) (around-set new ∙ (rw (new_is, hang-append p xs (hang r es ++ ys), hang-append p (hang r es) ys, hang-hang p r es) (simp append_assoc))),
      ),
    ),
  )

  -- where no two rows of the node have one id
  module _ (c : Option T) (d : AreDistinct ((p, (None, c)) ∷ below p ks)) where
    uses-around : (q : ℕ) → uses q (below p ks) ≡ uses q (below p (take i ks)) + (uses q k.value + uses q (below p (drop (suc i) ks)))
    uses-around q = ap (uses q) around ∙ (omega (
      arith,
      uses-append q (below p (take i ks)) (hang p k.value ++ below p (drop (suc i) ks)),
      uses-append q (hang p k.value) (below p (drop (suc i) ks)),
      uses-hang q p k.value,
    ))

    pub AreDistinct-child : AreDistinct k.value
    AreDistinct-child = λ q. omega (arith, d q, uses-around q)

    -- a row of the child is of no other child
    module _ (q : ℕ) (has : has_row q k.value ≡ true) where
      pub off_own : (q == p) ≡ false
      off_own = elim (cases_Bool (q == p)) [
        | inl s ↦ absurd (omega (arith, d q, uses-around q, used q k.value has, one_if (q == p) s))
        | inr s ↦ s
      ]

      pub off_before : has_row q (below p (take i ks)) ≡ false
      off_before = has-unused q _ (omega (arith, d q, uses-around q, used q k.value has))

      pub off_after : has_row q (below p (drop (suc i) ks)) ≡ false
      off_after = has-unused q _ (omega (arith, d q, uses-around q, used q k.value has))

      pub kids-child : AreNests ks → children_in q ((p, (None, c)) ∷ below p ks) ≡ children_in q k.value
      kids-child ns =
          ap (children_in q) around
          ∙ kids-append q (below p (take i ks)) (hang p k.value ++ below p (drop (suc i) ks))
          ∙ (rw (
            closed-below q p (take i ks) (AreNests-take ks i ns) off_own off_before,
            kids-append q (hang p k.value) (below p (drop (suc i) ks)),
            kids-hang q p k.value off_own,
            closed-below q p
                (drop (suc i) ks) (AreNests-drop ks (suc i) ns) off_own off_after,
          ) (append-nil (children_in q k.value)))

      pub IsPart-child : AreNests ks → (sub : List (Line T)) → IsPart q k.value sub → IsPart q ((p, (None, c)) ∷ below p ks) sub
      IsPart-child ns sub part = record { distinct = part.distinct; same = kids-child ns ∙ part.same }

    pub above-row : (q : ℕ) (r : Option ℕ) → option_map (λ (r : Option ℕ × Option T). r.0) (look q k.value) ≡ Some r → option_map (λ r. r.0) (look q ((p, (None, c)) ∷ below p ks)) ≡ Some
        (option_or r (Some p))
    above-row q r e = let has = found_has q k.value (λ r. r.0) r (sym e) in parent-row q (off_before q has) c (off_own q has) has ∙ ap (option_map (λ a. option_or a (Some p))) e
