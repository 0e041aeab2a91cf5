-- Where rows stand once lists are joined or hung, and that a parent stands before its children.
use Rattle.std.proofs.lemmas.Bool.{cases_Bool, eqb-false}
use Rattle.std.proofs.Common.{◌≡◌, ℕ, ◌+◌, ◌<◌, true, false, cond, ◌==◌, ◌⊎◌, inl, inr, Option, None, Some, List, [], ◌∷◌, ◌++◌, Box, refl, sym, ap, ◌∙◌, is_some, arith, length, option_map}
use Rattle.std.specs.Option.{option_or}
use Rattle.hv_tree.specs.Nest.{Line, has_row, look, hang, place}
use Rattle.hv_tree.specs.Below.{below, AreNests, length-hang}
use Rattle.hv_tree.proofs.Lines.{has-hang, has-look, look-none, look-append, look-hang, hung}

pub place-in : {X : Type 0} (q : ℕ) (xs ys : List (ℕ × X)) → has_row q xs ≡ true → place q (xs ++ ys) ≡ place q xs
place-in q [] ys h = cc
place-in q (e ∷ xs) ys h = elim (cases_Bool (q == e.0)) [
  | inl s ↦ rw s refl
  | inr s ↦ rw s (ap (λ n. n + 1) (place-in q xs ys (rw s at h)))
]

pub place-out : {X : Type 0} (q : ℕ) (xs ys : List (ℕ × X)) → has_row q xs ≡ false → place q (xs ++ ys) ≡ length xs + place q ys
place-out q [] ys h = omega arith
place-out q (e ∷ xs) ys h = elim (cases_Bool (q == e.0)) [
  | inl s ↦ absurd (let y : has_row q (e ∷ xs) ≡ true = rw s refl in cc)
  | inr s ↦ rw s (omega (arith, place-out q xs ys (rw s at h)))
]

pub place-has : {X : Type 0} (q : ℕ) (xs : List (ℕ × X)) → has_row q xs ≡ true → place q xs < length xs
place-has q [] h = cc
place-has q (e ∷ xs) h = elim (cases_Bool (q == e.0)) [
  | inl s ↦ rw s (omega arith)
  | inr s ↦ rw s (omega (arith, place-has q xs (rw s at h)))
]

has-place : {X : Type 0} (q : ℕ) (xs : List (ℕ × X)) → place q xs < length xs → has_row q xs ≡ true
has-place q [] h = absurd (omega arith)
has-place q (e ∷ xs) h = elim (cases_Bool (q == e.0)) [
  | inl s ↦ rw s refl
  | inr s ↦ rw s (has-place q xs (let g = rw s at h in omega (arith, g)))
]

pub place-hang : {C : Type 0} (q p : ℕ) (es : List (ℕ × (Option ℕ × C))) → place q (hang p es) ≡ place q es
place-hang q p [] = refl
place-hang q p (e ∷ es) = ap (λ n. cond (q == e.0) 0 (n + 1)) (place-hang q p es)

-- a hung row's parent is the node, or the one that it had
named : {T : Type 0} (p x : ℕ) (o rest : Option (Option ℕ × Option T)) → is_some o ≡ true → option_map (λ r. r.0) (option_or (option_map (hung p) o) rest) ≡ Some (Some x) → (x ≡ p) ⊎
    (option_map (λ r. r.0) o ≡ Some (Some x))
named p x None rest h e = cc
named p x (Some (None, c)) rest h e = inl cc
named p x (Some (Some y, c)) rest h e = inr e

-- among the rows of the children, a parent stands first
pub falls-below : {T A : Type 0} (p : ℕ) (ks : List (Box (List (Line T)) A)) → AreNests ks → (q x : ℕ) → option_map (λ r. r.0) (look q (below p ks)) ≡ Some (Some x) → (x ≡ p) ⊎
    (place x (below p ks) < place q (below p ks))
falls-below p [] ns q x e = cc
falls-below p (k ∷ ks) ns q x e = elim (cases_Bool (has_row q k.value)) [
  | inl has ↦ first has (named p x (look q k.value) (look q (below p ks)) (sym (has-look q k.value) ∙ has) (rw (look-append q (hang p k.value) (below p ks), look-hang q p k.value) at e))
  | inr lacks ↦ later lacks (falls-below p ks ns.1 q x (rw (look-append q (hang p k.value) (below p ks), look-hang q p k.value, look-none q k.value lacks) at e))
]
  where
    place_here : (y : ℕ) → has_row y k.value ≡ true → place y (hang p k.value ++ below p ks) ≡ place y k.value
    place_here y h = place-in y (hang p k.value) (below p ks) (has-hang y p k.value ∙ h) ∙ place-hang y p k.value

    place_there : (y : ℕ) → has_row y k.value ≡ false → place y (hang p k.value ++ below p ks) ≡ length k.value + place y (below p ks)
    place_there y h = place-out y (hang p k.value) (below p ks) (has-hang y p k.value ∙ h) ∙ ap (λ n. n + place y (below p ks)) (length-hang p k.value)

    first : has_row q k.value ≡ true → (x ≡ p) ⊎ (option_map (λ r. r.0) (look q k.value) ≡ Some (Some x)) → (x ≡ p) ⊎ (place x (hang p k.value ++ below p ks) < place q (hang p k.value ++ below p ks))
    first has (inl s) = inl s
    first has (inr f) =
        let lt : place x k.value < place q k.value = ns.0.ordered q x f in
        let end : place q k.value < length k.value = place-has q k.value has in
        inr (omega (arith, lt, place_here q has, place_here x (has-place x k.value (omega arith))))

    later : has_row q k.value ≡ false → (x ≡ p) ⊎ (place x (below p ks) < place q (below p ks)) → (x ≡ p) ⊎ (place x (hang p k.value ++ below p ks) < place q (hang p k.value ++ below p ks))
    later lacks (inl s) = inl s
    later lacks (inr lt) = inr (elim (cases_Bool (has_row x k.value)) [
      | inl h ↦ omega (arith, place_here x h, place-has x k.value h, place_there q lacks)
      | inr h ↦ omega (arith, lt, place_there x h, place_there q lacks)
    ])

-- a node's own row stands first of all
pub ordered-view : {T A : Type 0} (p : ℕ) (c : Option T) (ks : List (Box (List (Line T)) A)) → AreNests ks → (q x : ℕ) → option_map (λ r. r.0) (look q ((p, (None, c)) ∷ below p ks)) ≡ Some (Some x) →
    place x ((p, (None, c)) ∷ below p ks) < place q ((p, (None, c)) ∷ below p ks)
ordered-view p c ks ns q x e = elim (cases_Bool (q == p)) [
  | inl s ↦ absurd (let f : Some None ≡ Some (Some x) = rw s at e in cc)
  | inr s ↦ rw s (elim (falls-below p ks ns q x (rw s at e)) [
    | inl t ↦ (elim (cases_Bool (x == p)) [ inl u ↦ rw u (omega arith) | inr u ↦ absurd (eqb-false x p u t) ])
    | inr t ↦ (elim (cases_Bool (x == p)) [ inl u ↦ rw u (omega arith) | inr u ↦ rw u (omega (arith, t)) ])
  ])
]
