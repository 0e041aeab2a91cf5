-- The rows once a content is written among them.
use Rattle.std.proofs.Common.{◌≡◌, ℕ, ◌+◌, true, false, cond, ◌==◌, inl, inr, Option, List, [], ◌∷◌, refl, sym, ap, ◌∙◌, arith, length, option_map, eqb-true, ne_eqb}
use Rattle.std.proofs.lemmas.Bool.{cases_Bool, eqb-false}
use Rattle.hv_tree.specs.Rows.{children_in, is_parent}
use Rattle.hv_tree.specs.Nest.{Line, look, uses, AreDistinct, put_at}

apart : (x q id : ℕ) → (q == id) ≡ false → (x == id) ≡ true → (x == q) ≡ false
apart x q id n e = ne_eqb x q (λ s. eqb-false q id n (sym s ∙ eqb-true x id e))

pub look-put : {T : Type 0} (x q : ℕ) (h : Option T) (es : List (Line T)) → look x (put_at q h es) ≡ cond (x == q) (option_map (λ r. (r.0, h)) (look x es)) (look x es)
look-put x q h [] = elim (cases_Bool (x == q)) [ inl s ↦ rw s refl | inr s ↦ rw s refl ]
look-put x q h (e ∷ es) = elim (cases_Bool (q == e.0)) [
  | inl s ↦ rw s (elim (cases_Bool (x == e.0)) [
    | inl t ↦ rw (t, eqb-true q e.0 s, t) refl
    | inr t ↦ rw (t, eqb-true q e.0 s, t) refl
  ])
  | inr s ↦ rw s (elim (cases_Bool (x == e.0)) [
    | inl t ↦ rw (t, apart x q e.0 s t) refl
    | inr t ↦ rw t (look-put x q h es)
  ])
]

uses-put : {T : Type 0} (x q : ℕ) (h : Option T) (es : List (Line T)) → uses x (put_at q h es) ≡ uses x es
uses-put x q h [] = refl
uses-put x q h (e ∷ es) = elim (cases_Bool (q == e.0)) [
  | inl s ↦ rw s refl
  | inr s ↦ rw s (ap (λ n. cond (x == e.0) 1 0 + n) (uses-put x q h es))
]

pub distinct-put : {T : Type 0} (q : ℕ) (h : Option T) (es : List (Line T)) → AreDistinct es → AreDistinct (put_at q h es)
distinct-put q h es d = λ x. rw (uses-put x q h es) (d x)

pub kids-put : {T : Type 0} (x q : ℕ) (h : Option T) (es : List (Line T)) → children_in x (put_at q h es) ≡ children_in x es
kids-put x q h [] = refl
kids-put x q h (e ∷ es) = elim (cases_Bool (q == e.0)) [
  | inl s ↦ rw s refl
  | inr s ↦ rw s (ap (λ k. cond (is_parent x e.1.0) (e.0 ∷ k) k) (kids-put x q h es))
]

pub length-put : {T : Type 0} (q : ℕ) (h : Option T) (es : List (Line T)) → length (put_at q h es) ≡ length es
length-put q h [] = refl
length-put q h (e ∷ es) = elim (cases_Bool (q == e.0)) [
  | inl s ↦ rw s refl
  | inr s ↦ rw s (omega (arith, length-put q h es))
]
