-- A tree once a node is put in.
use Rattle.std.proofs.Common.{◌≡◌, ℕ, ◌+◌, ◌-◌, ◌<◌, ◌^◌, Bool, true, false, cond, ◌==◌, inl, inr, Option, None, Some, List, [], ◌∷◌, ◌++◌, refl, sym, ap, ◌∙◌, arith, length, length-append, eqb-true}
use Rattle.std.specs.Option.{option_or}
use Rattle.std.specs.FinMap.{insert, contains_key}
use Rattle.std.proofs.lemmas.Bool.{cases_Bool}
use Rattle.hv_tree.specs.Rows.{Rows, children, children_in}
use Rattle.hv_tree.specs.Nest.{Line, has_row, look, uses, AreDistinct, IsNest, IsGrownBy}
use Rattle.hv_tree.specs.Full.{full, IsWhole}
use Rattle.hv_tree.proofs.Laws.{same_rows, get_row-insert}
use Rattle.hv_tree.proofs.Lines.{look-append, look-none, uses-append, unused, has-unused}
use Rattle.hv_tree.proofs.ChildLists.{kids-append}
use Rattle.hv_tree.proofs.TreeAsMap.{IsShown, get-listed, look-full, get-seen, has-seen}
use Rattle.hv_tree.proofs.ChildrenOfRow.{count-seen}

none_or : {X : Type 0} (a b : Option X) → a ≡ None → option_or a b ≡ b
none_or a b e = rw e refl

module _ {T : Type 0} (p q : ℕ) (c : Option T) (xs ys : List (Line T)) where
  pub uses-grown : (x : ℕ) → uses x (xs ++ ((q, (Some p, c)) ∷ ys)) ≡ uses x (xs ++ ys) + cond (x == q) 1 0
  uses-grown x = omega (arith, uses-append x xs ((q, (Some p, c)) ∷ ys), uses-append x xs ys)

  pub look-grown : uses q (xs ++ ys) ≡ 0 → (x : ℕ) → look x (xs ++ ((q, (Some p, c)) ∷ ys)) ≡ cond (x == q) (Some (Some p, c)) (look x (xs ++ ys))
  look-grown fresh x = look-append x xs ((q, (Some p, c)) ∷ ys) ∙ (elim (cases_Bool (x == q)) [
    | inl s ↦ rw (s, eqb-true x q s) (none_or (look q xs) _ (look-none q xs (has-unused q xs (omega (arith, fresh, uses-append q xs ys)))))
    | inr s ↦ rw s (sym (look-append x xs ys))
  ])

  pub length-grown : length (xs ++ ((q, (Some p, c)) ∷ ys)) ≡ length (xs ++ ys) + 1
  length-grown = omega (arith, length-append xs ((q, (Some p, c)) ∷ ys), length-append xs ys)

  one_kid : (b : Bool) (es : List ℕ) → length (cond b (q ∷ es) es) ≡ length es + cond b 1 0
  one_kid true es = omega arith
  one_kid false es = omega arith

  pub kids-grown : (x : ℕ) → length (children_in x (xs ++ ((q, (Some p, c)) ∷ ys))) ≡ length (children_in x (xs ++ ys)) + cond (x == p) 1 0
  kids-grown x = omega (
    arith,
    ap length (kids-append x xs ((q, (Some p, c)) ∷ ys)),
    ap length (kids-append x xs ys),
    length-append (children_in x xs) (children_in x ((q, (Some p, c)) ∷ ys)),
    length-append (children_in x xs) (children_in x ys),
    one_kid (x == p) (children_in x ys),
  )

one_more : (x p : ℕ) (many : ℕ) → (x ≡ p → many < 2 ^ 32 - 1) → many < 2 ^ 32 → many + cond (x == p) 1 0 < 2 ^ 32
one_more x p many room few = elim (cases_Bool (x == p)) [
  | inl s ↦ rw s (omega (arith, room (eqb-true x p s)))
  | inr s ↦ rw s (omega (arith, few))
]

-- a leaf was put below p
pub grown-shown : {T : Type 0} {es : List (Line T)} {n : ℕ} {m : Rows T} → IsShown es n m → (new : List (Line T)) (p q : ℕ) (c : T) → IsGrownBy p ((q, (None, Some c)) ∷ []) es new → IsNest new →
    contains_key m q ≡ false → length (children m p) < 2 ^ 32 - 1 → n + 1 < 2 ^ 32 → IsShown new (n + 1) (insert m q (Some p, c))
grown-shown {es = es} {m = m} s new p q c (xs, (ys, (old_is, new_is))) nest free room fits =
    let lacks : has_row q es ≡ false = sym (has-seen s q) ∙ free in
    let fresh : uses q (xs ++ ys) ≡ 0 = rw (← old_is) (unused q es lacks) in
    let at : (x : ℕ) → look x new ≡ cond (x == q) (Some (Some p, Some c)) (look x es) = λ x. rw (new_is, old_is) (look-grown p q (Some c) xs ys fresh x) in
    let distinct : AreDistinct new = λ x. (rw (new_is, uses-grown p q (Some c) xs ys x, ← old_is) (elim (cases_Bool (x == q)) [
      | inl t ↦ rw (t, eqb-true x q t, unused q es lacks) (omega arith)
      | inr t ↦ rw t (omega (arith, s.sound.distinct x))
    ])) in
    let whole : IsWhole new = λ x. (rw (at x) (elim (cases_Bool (x == q)) [ inl t ↦ rw t refl | inr t ↦ rw t (s.sound.whole x) ])) in
    let long : length new ≡ length es + 1 = rw (new_is, old_is) (length-grown p q (Some c) xs ys) in
    record {
      sound = record {
        distinct = distinct;
        nest = nest;
        whole = whole;
        counted = omega (arith, long, s.sound.counted);
        fits = omega (arith, long, s.sound.counted, fits);
        few = λ x. rw (new_is, kids-grown p q (Some c) xs ys x, ← old_is) (one_more x p (length (children_in x es)) (λ e. rw e (omega (arith, room, count-seen s p))) (s.sound.few x));
      };
      seen = same_rows _ _ (λ x. get-listed (full new) x ∙ look-full new distinct whole x ∙
          (rw (at x, get_row-insert m q (Some p, c) x, get-seen s x) (elim (cases_Bool (x == q)) [ inl t ↦ rw t refl | inr t ↦ rw t refl ])));
    }
