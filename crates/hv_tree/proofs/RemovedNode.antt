-- A tree once a node is taken out.
use Rattle.std.proofs.Common.{◌≡◌, ◌≢◌, ℕ, ◌+◌, ◌-◌, ◌≤◌, ◌<◌, ◌^◌, Bool, true, false, cond, ◌==◌, ◌&&◌, inl, inr, Option, None, Some, List, refl, sym, ap, ◌∙◌, is_some, arith, length, option_map}
use Rattle.std.proofs.Common.{eqb-true, eq-eqb, ne_eqb}
use Rattle.std.specs.FinMap.{remove}
use Rattle.std.proofs.lemmas.Bool.{cases_Bool}
use Rattle.hv_tree.specs.Rows.{Rows, parent, content, children, children_in, is_leaf}
use Rattle.hv_tree.specs.Nest.{Line, has_row, look, uses, top, AreDistinct, IsNest, IsWithout}
use Rattle.hv_tree.specs.Full.{full, IsWhole}
use Rattle.hv_tree.proofs.Laws.{same_rows, get_row-remove}
use Rattle.hv_tree.proofs.Lines.{look-none, has-unused, one_if}
use Rattle.hv_tree.proofs.ChildRows.{found_has}
use Rattle.hv_tree.proofs.TreeAsMap.{IsShown, get-listed, look-full, get-seen, parent-seen, parent-named, root_top}
use Rattle.hv_tree.proofs.ChildrenOfRow.{count-seen}
use Rattle.hv_tree.proofs.InsertedNode.{uses-grown, look-grown, length-grown, kids-grown}

and_false : (b : Bool) → (b && false) ≡ false
and_false true = refl
and_false false = refl

some_of : {X : Type 0} (o : Option X) → is_some o ≡ true → (x : X) × (o ≡ Some x)
some_of None e = cc
some_of (Some x) e = (x, refl)

-- what was refused is no leaf
pub no_leaf : {T : Type 0} {es : List (Line T)} {n : ℕ} {m : Rows T} → IsShown es n m → (q : ℕ) → (has_row q es ≡ true → q ≢ top es → 1 ≤ length (children_in q es)) → is_leaf m q ≡ false
no_leaf {es = es} {m = m} s q refused = elim (cases_Bool (is_some (parent m q))) [
  | inr lone ↦ rw lone refl
  | inl has ↦
      let (p, named) = some_of (parent m q) has in
      let above = parent-named s q p named in
      let low : q ≢ top es = λ e. (let f : Some (Some p) ≡ Some None = sym above ∙ ap (λ x. option_map (λ r. r.0) (look x es)) e ∙ root_top es s.sound.nest.topped in cc) in
      let many : 1 ≤ length (children_in q es) = refused (found_has q es (λ r. r.0) (Some p) (sym above)) low in
      rw (ne_eqb (length (children m q)) 0 (λ e. omega (arith, e, count-seen s q))) (and_false (is_some (parent m q)))
]

-- the row q is taken out of a tree
module _ {T : Type 0} {es : List (Line T)} {n : ℕ} {m : Rows T} (s : IsShown es n m) (q : ℕ) (v : Option T) (new : List (Line T)) (w : IsWithout q v es new) where
  uses-gone : (x : ℕ) → uses x es ≡ uses x new + cond (x == q) 1 0
  uses-gone x = rw (w.was, w.is) (uses-grown w.parent q v w.before w.after x)

  gone : uses q new ≡ 0
  gone = omega (arith, uses-gone q, s.sound.distinct q, one_if (q == q) (eq-eqb q q refl))

  look-gone : (x : ℕ) → look x es ≡ cond (x == q) (Some (Some w.parent, v)) (look x new)
  look-gone x = rw (w.was, w.is) (look-grown w.parent q v w.before w.after (rw (← w.is) gone) x)

  pub look-here : look q es ≡ Some (Some w.parent, v)
  look-here = look-gone q ∙ (rw (eq-eqb q q refl) refl)

  pub look-new : (x : ℕ) → look x new ≡ cond (x == q) None (look x es)
  look-new x = elim (cases_Bool (x == q)) [
    | inl t ↦ rw (t, eqb-true x q t) (look-none q new (has-unused q new gone))
    | inr t ↦ rw t (sym (look-gone x ∙ (rw t refl)))
  ]

  pub leaf : is_leaf m q ≡ true
  leaf = rw (parent-seen s q w.parent (rw look-here refl), eq-eqb (length (children m q)) 0 (count-seen s q ∙ ap length w.bare)) refl

  pub held : (c : T) → v ≡ Some c → content m q ≡ Some c
  held c is = rw (get-seen s q, look-here, is) refl

  distinct : AreDistinct new
  distinct = λ x. omega (arith, uses-gone x, s.sound.distinct x)

  counted : n - 1 ≡ length new
  counted = omega (arith, s.sound.counted, length-grown w.parent q v w.before w.after, ap length w.was, ap length w.is)

  fits : length new < 2 ^ 32
  fits = omega (arith, s.sound.fits, length-grown w.parent q v w.before w.after, ap length w.was, ap length w.is)

  few : (x : ℕ) → length (children_in x new) < 2 ^ 32
  few x = omega (arith, s.sound.few x, kids-grown w.parent q v w.before w.after x, ap (λ k. length (children_in x k)) w.was, ap (λ k. length (children_in x k)) w.is)

  pub shrunk-shown : IsNest new → IsShown new (n - 1) (remove m q)
  shrunk-shown nest = record {
    sound = record { distinct = distinct; nest = nest; whole = whole; counted = counted; fits = fits; few = few };
    seen = same_rows _ _ (λ x. get-listed (full new) x ∙ look-full new distinct whole x ∙ (rw (look-new x, get_row-remove m q x) (elim (cases_Bool (x == q)) [
      | inl t ↦ rw t refl
      | inr t ↦ rw t (sym (get-seen s x))
    ])));
  }
    where
      whole : IsWhole new
      whole x = rw (look-new x) (elim (cases_Bool (x == q)) [ inl t ↦ rw t tt | inr t ↦ rw t (s.sound.whole x) ])
