-- The parents of the rows of a node, as the index names them.
use Rattle.std.proofs.lemmas.Bool.{cases_Bool}
use Rattle.std.proofs.Common.{eqb-true, eq-eqb, ◌≡◌, ℕ, zero, suc, ◌<◌, ◌≤◌, true, false, ◌==◌, ◌||◌, ◌⊎◌, inl, inr, Option, None, Some, IfSome, IfNone, List, [], ◌∷◌, Box, refl, sym, ap, ◌∙◌}
use Rattle.std.proofs.Common.{is_some, arith, length, get_or, option_map, option_and_then}
use Rattle.hv_tree.specs.Nest.{Line, has_row, look, uses, top, place, hang, IsNest}
use Rattle.hv_tree.specs.Below.{below}
use Rattle.hv_tree.specs.Index.{IsIndexOf}
use Rattle.hv_tree.proofs.Lines.{has-below, has-look, used, uses-append, uses-hang}
use Rattle.hv_tree.proofs.RemovedRow.{has-nest}
use Rattle.hv_tree.proofs.Laws.{above_parent}
use Rattle.hv_tree.proofs.TreeAsMap.{kid_there, root_only}

pub or_right : {b : _} → (a : _) → b ≡ true → (a || b) ≡ true
or_right true e = refl
or_right false e = e

-- a row of a child is there
pub has-in : {T A : Type 0} (q p : ℕ) (ks : List (Box (List (Line T)) A)) (i : ℕ) (k : Box (List (Line T)) A) → i < length ks → k ≡ get_or ks i k → has_row q k.value ≡ true → has_row q (below p ks) ≡
    true
has-in q p [] i k lt is h = absurd (omega arith)
has-in q p (x ∷ ks) zero k lt is h = has-below q p x ks ∙ (let e : has_row q x.value ≡ true = ap (λ b. has_row q b.value) (sym is) ∙ h in rw e refl)
has-in q p (x ∷ ks) (suc i) k lt is h = has-below q p x ks ∙ or_right (has_row q x.value) (has-in q p ks i k (omega arith) is h)

-- where no two rows have one id, two children have no row in common
pub same_child : {T A : Type 0} (q p : ℕ) (ks : List (Box (List (Line T)) A)) → uses q (below p ks) ≤ 1 → (i j : ℕ) (k m : Box (List (Line T)) A) → i < length ks → j < length ks → k ≡ get_or ks i k →
    m ≡ get_or ks j m → has_row q k.value ≡ true → has_row q m.value ≡ true → i ≡ j
same_child q p [] d i j k m li lj ki mj h g = absurd (omega arith)
same_child q p (x ∷ ks) d zero zero k m li lj ki mj h g = refl
same_child q p (x ∷ ks) d zero (suc j) k m li lj ki mj h g = absurd (omega (
  arith,
  d,
  uses-append q (hang p x.value) (below p ks),
  uses-hang q p x.value,
  used q x.value
      (ap (λ b. has_row q b.value) (sym ki) ∙ h),
  used q (below p ks) (has-in q p ks j m (omega arith) mj g),
))
same_child q p (x ∷ ks) d (suc i) zero k m li lj ki mj h g = absurd (omega (
  arith,
  d,
  uses-append q (hang p x.value) (below p ks),
  uses-hang q p x.value,
  used q x.value
      (ap (λ b. has_row q b.value) (sym mj) ∙ g),
  used q (below p ks) (has-in q p ks i k (omega arith) ki h),
))
same_child q p (x ∷ ks) d (suc i) (suc j) k m li lj ki mj h g = ap suc (same_child q p ks (omega (arith, d, uses-append q (hang p x.value) (below p ks))) i j k m (omega arith) (omega arith) ki mj h g)

-- a row is the first, or its parent is there too
pub climbed : {T : Type 0} (q : ℕ) (es : List (Line T)) → IsNest es → has_row q es ≡ true → (o : Option (Option ℕ × Option T)) → look q es ≡ o → ((q ≡ top es) × (option_map (λ r. r.0) o ≡ Some None))
    ⊎ ((r : ℕ) × (has_row r es ≡ true) × (option_map (λ r. r.0) o ≡ Some (Some r)))
climbed q es n h None e = absurd (let f : true ≡ false = sym h ∙ has-look q es ∙ ap is_some e in cc)
climbed q es n h (Some (None, c)) e = inl (root_only q es n.topped (ap (option_map (λ r. r.0)) e), refl)
climbed q es n h (Some (Some r, c)) e = inr (
  r,
  (elim (cases_Bool (has_row r es)) [
    | inl s ↦ s
    | inr s ↦ absurd (kid_there q r es (ap (option_map (λ r. r.0)) e) (n.closed r s))
  ]),
  refl,
)

-- an id is there where it is the first, or the index names its parent
pub has-indexed : {T : Type 0} (q : ℕ) (es : List (Line T)) (up : ℕ → Option ℕ) → IsNest es → IsIndexOf es up → (q == top es || is_some (up q)) ≡ has_row q es
has-indexed {T = T} q es up n f = ap (λ o. q == top es || is_some o) (f q) ∙ by (look q es) refl ∙ sym (has-look q es)
  where
    by : (o : Option (Option ℕ × Option T)) → look q es ≡ o → (q == top es || is_some (option_and_then (λ r. r.0) o)) ≡ is_some o
    by None e = elim (cases_Bool (q == top es)) [
      | inl s ↦ absurd (let f : has_row q es ≡ true = rw (eqb-true q (top es) s) (has-nest es n) in let g : has_row q es ≡ false = has-look q es ∙ ap is_some e in cc)
      | inr s ↦ rw s refl
    ]
    by (Some (None, c)) e = rw (root_only q es n.topped (ap (option_map (λ r. r.0)) e), eq-eqb (top es) (top es) refl) refl
    by (Some (Some p, c)) e = or_right (q == top es) refl

-- the depth of a row, by the climb
module _ {T : Type 0} (up : ℕ → Option ℕ) (es : List (Line T)) (n : IsNest es) (f : IsIndexOf es up) (at : ℕ) (has : has_row at es ≡ true) where
  above_none : (o : Option (Option ℕ × Option T)) → is_some o ≡ true → option_and_then (λ r. r.0) o ≡ None → option_map (λ r. r.0) o ≡ Some None
  above_none None h e = cc
  above_none (Some (None, c)) h e = refl
  above_none (Some (Some p, c)) h e = cc

  pub at_top : up at ≡ None → option_map (λ r. r.0) (look at es) ≡ Some None
  at_top e = above_none (look at es) (sym (has-look at es) ∙ has) (sym (f at) ∙ e)

  pub over : (r : ℕ) → up at ≡ Some r → option_map (λ r. r.0) (look at es) ≡ Some (Some r)
  over r e = above_parent (look at es) r (sym (f at) ∙ e)

  pub has-over : (r : ℕ) → up at ≡ Some r → has_row r es ≡ true
  has-over r e = elim (cases_Bool (has_row r es)) [
    | inl s ↦ s
    | inr s ↦ absurd (kid_there at r es (over r e) (n.closed r s))
  ]

  pub lower : (r : ℕ) → up at ≡ Some r → place r es < place at es
  lower r e = n.ordered at r (over r e)

pub if_some : {X : Type 0} {P Q : X → Type 0} (o : Option X) → ((x : X) → P x → Q x) → IfSome o P → IfSome o Q
if_some None f h = tt
if_some (Some x) f h = f x h

pub if_none : {X A B : Type 0} (o : Option X) → (A → B) → IfNone o A → IfNone o B
if_none None f h = f h
if_none (Some x) f h = tt
