-- What the rows of a list answer once lists are joined, or hung below a node.
use Rattle.std.proofs.lemmas.Bool.{cases_Bool}
use Rattle.std.proofs.Common.{◌≡◌, ℕ, ◌+◌, ◌≤◌, Bool, true, false, cond, ◌==◌, ◌||◌, inl, inr, Option, None, Some, List, [], ◌∷◌, ◌++◌, Box, refl, sym, ap, ◌∙◌, is_some, arith, append_assoc}
use Rattle.std.proofs.Common.{option_map}
use Rattle.std.specs.Option.{option_or}
use Rattle.hv_tree.specs.Nest.{Line, has_row, look, uses, hang, put_at}
use Rattle.hv_tree.specs.Below.{below}

pub or_assoc : (a b c : Bool) → (a || (b || c)) ≡ ((a || b) || c)
or_assoc true b c = refl
or_assoc false b c = refl

pub has-append : {X : Type 0} (q : ℕ) (xs ys : List (ℕ × X)) → has_row q (xs ++ ys) ≡ (has_row q xs || has_row q ys)
has-append q [] ys = refl
has-append q (e ∷ xs) ys = ap (λ b. q == e.0 || b) (has-append q xs ys) ∙ or_assoc (q == e.0) (has_row q xs) (has_row q ys)

pub has-hang : {C : Type 0} (q p : ℕ) (es : List (ℕ × (Option ℕ × C))) → has_row q (hang p es) ≡ has_row q es
has-hang q p [] = refl
has-hang q p (e ∷ es) = ap (λ b. q == e.0 || b) (has-hang q p es)

pub has-below : {T A : Type 0} (q p : ℕ) (k : Box (List (Line T)) A) (ks : List (Box (List (Line T)) A)) → has_row q (below p (k ∷ ks)) ≡ (has_row q k.value || has_row q (below p ks))
has-below q p k ks = has-append q (hang p k.value) (below p ks) ∙ ap (λ b. b || has_row q (below p ks)) (has-hang q p k.value)

pub has-look : {X : Type 0} (q : ℕ) (es : List (ℕ × X)) → has_row q es ≡ is_some (look q es)
has-look q [] = refl
has-look q (e ∷ es) = elim (cases_Bool (q == e.0)) [
  | inl s ↦ rw s refl
  | inr s ↦ rw s (has-look q es)
]

none_of : {X : Type 0} (o : Option X) → is_some o ≡ false → o ≡ None
none_of None e = refl
none_of (Some x) e = cc

pub look-none : {X : Type 0} (q : ℕ) (es : List (ℕ × X)) → has_row q es ≡ false → look q es ≡ None
look-none q es e = none_of (look q es) (sym (has-look q es) ∙ e)

cond-option_or : {X : Type 0} (c : Bool) (x : X) (a b : Option X) → cond c (Some x) (option_or a b) ≡ option_or (cond c (Some x) a) b
cond-option_or true x a b = refl
cond-option_or false x a b = refl

pub look-append : {X : Type 0} (q : ℕ) (xs ys : List (ℕ × X)) → look q (xs ++ ys) ≡ option_or (look q xs) (look q ys)
look-append q [] ys = refl
look-append q (e ∷ xs) ys = ap (cond (q == e.0) (Some e.1)) (look-append q xs ys) ∙ cond-option_or (q == e.0) e.1 (look q xs) (look q ys)

mapped_cond : {X Y : Type 0} (f : X → Y) (c : Bool) (x : X) (a : Option X) → option_map f (cond c (Some x) a) ≡ cond c (Some (f x)) (option_map f a)
mapped_cond f true x a = refl
mapped_cond f false x a = refl

-- what hanging does to a row
abbrev pub hung : {C : Type 0} → ℕ → Option ℕ × C → Option ℕ × C
hung p r = (option_or r.0 (Some p), r.1)

pub look-hang : {C : Type 0} (q p : ℕ) (es : List (ℕ × (Option ℕ × C))) → look q (hang p es) ≡ option_map (hung p) (look q es)
look-hang q p [] = refl
look-hang q p (e ∷ es) = ap (cond (q == e.0) (Some (hung p e.1))) (look-hang q p es) ∙ sym (mapped_cond (hung p) (q == e.0) e.1 (look q es))

pub uses-append : {X : Type 0} (q : ℕ) (xs ys : List (ℕ × X)) → uses q (xs ++ ys) ≡ uses q xs + uses q ys
uses-append q [] ys = omega arith
uses-append q (e ∷ xs) ys = omega (arith, uses-append q xs ys)

pub uses-hang : {C : Type 0} (q p : ℕ) (es : List (ℕ × (Option ℕ × C))) → uses q (hang p es) ≡ uses q es
uses-hang q p [] = refl
uses-hang q p (e ∷ es) = ap (λ n. cond (q == e.0) 1 0 + n) (uses-hang q p es)

pub one_if : (b : Bool) → b ≡ true → ◌≡◌ {A = ℕ} (cond b 1 0) 1
one_if true e = refl
one_if false e = cc

none_if : (b : Bool) → ◌≡◌ {A = ℕ} (cond b 1 0) 0 → b ≡ false
none_if true e = absurd (omega arith)
none_if false e = refl

-- an id is there just where some row uses it
pub used : {X : Type 0} (q : ℕ) (es : List (ℕ × X)) → has_row q es ≡ true → 1 ≤ uses q es
used q [] e = cc
used q (r ∷ es) e = elim (cases_Bool (q == r.0)) [
  | inl s ↦ omega (arith, one_if (q == r.0) s)
  | inr s ↦ omega (arith, used q es (rw s at e))
]

pub unused : {X : Type 0} (q : ℕ) (es : List (ℕ × X)) → has_row q es ≡ false → uses q es ≡ 0
unused q [] e = refl
unused q (r ∷ es) e = elim (cases_Bool (q == r.0)) [
  | inl s ↦ absurd (let yes : has_row q (r ∷ es) ≡ true = rw s refl in cc)
  | inr s ↦ rw s (omega (arith, unused q es (rw s at e)))
]

pub has-unused : {X : Type 0} (q : ℕ) (es : List (ℕ × X)) → uses q es ≡ 0 → has_row q es ≡ false
has-unused q [] e = refl
has-unused q (r ∷ es) e = let no : (q == r.0) ≡ false = none_if (q == r.0) (omega arith) in rw no (has-unused q es (omega arith))

pub below-append : {T A : Type 0} (p : ℕ) (xs ys : List (Box (List (Line T)) A)) → below p (xs ++ ys) ≡ below p xs ++ below p ys
below-append p [] ys = refl
below-append p (k ∷ xs) ys = ap (λ r. hang p k.value ++ r) (below-append p xs ys) ∙ sym (append_assoc (hang p k.value) (below p xs) (below p ys))

pub hang-append : {T : Type 0} (p : ℕ) (xs ys : List (Line T)) → hang p (xs ++ ys) ≡ hang p xs ++ hang p ys
hang-append p [] ys = refl
hang-append p (e ∷ xs) ys = ap (λ l. (e.0, hung p e.1) ∷ l) (hang-append p xs ys)

or_or : (p q : ℕ) (o : Option ℕ) → option_or (option_or o (Some q)) (Some p) ≡ option_or o (Some q)
or_or p q None = refl
or_or p q (Some x) = refl

pub hang-hang : {T : Type 0} (p q : ℕ) (es : List (Line T)) → hang p (hang q es) ≡ hang q es
hang-hang p q [] = refl
hang-hang p q (e ∷ es) = rw (or_or p q e.1.0, hang-hang p q es) refl

-- the rows with another content
pub put-append : {T : Type 0} (q : ℕ) (h : Option T) (xs ys : List (Line T)) → put_at q h (xs ++ ys) ≡ cond (has_row q xs) (put_at q h xs ++ ys) (xs ++ put_at q h ys)
put-append q h [] ys = refl
put-append q h (e ∷ xs) ys = elim (cases_Bool (q == e.0)) [
  | inl s ↦ rw s refl
  | inr s ↦ rw s (elim (cases_Bool (has_row q xs)) [
    | inl t ↦ rw t (ap (λ l. e ∷ l) (put-append q h xs ys ∙ (rw t refl)))
    | inr t ↦ rw t (ap (λ l. e ∷ l) (put-append q h xs ys ∙ (rw t refl)))
  ])
]

pub put-hang : {T : Type 0} (q p : ℕ) (h : Option T) (es : List (Line T)) → put_at q h (hang p es) ≡ hang p (put_at q h es)
put-hang q p h [] = refl
put-hang q p h (e ∷ es) = elim (cases_Bool (q == e.0)) [
  | inl s ↦ rw s refl
  | inr s ↦ rw s (ap (λ l. (e.0, hung p e.1) ∷ l) (put-hang q p h es))
]
