-- An index of the parents, once the rows change.
use Rattle.std.proofs.Common.{◌≡◌, ℕ, true, false, cond, ◌==◌, inl, inr, Option, None, Some, List, [], ◌∷◌, ◌++◌, refl, sym, ◌∙◌, option_map, option_and_then, eqb-true, eq-eqb, ne_eqb}
use Rattle.std.proofs.lemmas.Bool.{cases_Bool, eqb-false}
use Rattle.hv_tree.specs.Nest.{Line, has_row, look, uses, put_at, IsGrownBy}
use Rattle.hv_tree.specs.Index.{IsIndexOf}
use Rattle.hv_tree.proofs.Lines.{unused}
use Rattle.hv_tree.proofs.InsertedNode.{look-grown}
use Rattle.hv_tree.proofs.WrittenContent.{look-put}

-- one row is new, with the parent p
pub index-grown : {T : Type 0} (es new : List (Line T)) (up later : ℕ → Option ℕ) (p q : ℕ) (c : Option T) → IsGrownBy p ((q, (None, c)) ∷ []) es new → has_row q es ≡ false → IsIndexOf es up →
    ((x : ℕ) → later x ≡ cond (q == x) (Some p) (up x)) → IsIndexOf new later
index-grown es new up later p q c (xs, (ys, (old_is, new_is))) lacks f n x =
    let fresh : uses q (xs ++ ys) ≡ 0 = rw (← old_is) (unused q es lacks) in
    let at : look x new ≡ cond (x == q) (Some (Some p, c)) (look x es) = rw (new_is, old_is) (look-grown p q c xs ys fresh x) in
    n x ∙ (elim (cases_Bool (q == x)) [
      | inl t ↦ (let e : (x == q) ≡ true = eq-eqb x q (sym (eqb-true q x t)) in rw (t, at, e) refl)
      | inr t ↦ (let e : (x == q) ≡ false = ne_eqb x q (λ s. eqb-false q x t (sym s)) in rw (t, at, e) (f x))
    ])

-- one row is gone
pub index-gone : {T : Type 0} (es new : List (Line T)) (up later : ℕ → Option ℕ) (q : ℕ) → ((x : ℕ) → look x new ≡ cond (x == q) None (look x es)) → IsIndexOf es up →
    ((x : ℕ) → later x ≡ cond (q == x) None (up x)) → IsIndexOf new later
index-gone es new up later q at f n x = n x ∙ (elim (cases_Bool (q == x)) [
  | inl t ↦ (let e : (x == q) ≡ true = eq-eqb x q (sym (eqb-true q x t)) in rw (t, at x, e) refl)
  | inr t ↦ (let e : (x == q) ≡ false = ne_eqb x q (λ s. eqb-false q x t (sym s)) in rw (t, at x, e) (f x))
])

above_kept : {T : Type 0} (h : Option T) (o : Option (Option ℕ × Option T)) → option_and_then (λ (r : Option ℕ × Option T). r.0)
    (option_map {T = Option ℕ × Option T} {U = Option ℕ × Option T} (λ r. (r.0, h)) o) ≡ option_and_then (λ r. r.0) o
above_kept h None = refl
above_kept h (Some r) = refl

-- a content changes
pub index-put : {T : Type 0} (q : ℕ) (h : Option T) (es : List (Line T)) (up : ℕ → Option ℕ) → IsIndexOf es up → IsIndexOf (put_at q h es) up
index-put q h es up f x = f x ∙ (rw (look-put x q h es) (elim (cases_Bool (x == q)) [
  | inl t ↦ rw t (sym (above_kept h (look x es)))
  | inr t ↦ rw t refl
]))
