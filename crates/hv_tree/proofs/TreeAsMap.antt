-- The rows of a tree as the map that it is seen as.
use Rattle.std.proofs.Common.{◌≡◌, ℕ, zero, suc, true, false, cond, ◌==◌, inl, inr, Option, None, Some, List, [], ◌∷◌, refl, sym, ap, ◌∙◌, is_some, arith, option_map, option_and_then, nat_cmp}
use Rattle.std.proofs.Common.{eqb-true, eq-eqb}
use Rattle.std.specs.Cmp.{nat_cmp_total, unsigned_tied}
use Rattle.std.specs.FinMap.{find, get, from_entries, get-from_entries, contains_key}
use Rattle.std.proofs.lemmas.Bool.{cases_Bool, eqb-false}
use Rattle.hv_tree.specs.Rows.{Row, Rows, parent, HasDepth, children_in, IsTree}
use Rattle.hv_tree.specs.Nest.{Line, has_row, look, top, AreDistinct, orphans, HasTop, HasDepthIn}
use Rattle.hv_tree.specs.Full.{add, full, IsFilled, IsWhole, IsSound}
use Rattle.hv_tree.proofs.Laws.{parent_above, above_parent}
use Rattle.hv_tree.proofs.Lines.{has-look, look-none, one_if, has-unused}

pub find-look : {X : Type 0} (q : ℕ) (es : List (ℕ × X)) → find nat_cmp q es ≡ look q es
find-look q [] = refl
find-look q (e ∷ es) = λ i. cond (unsigned_tied q e.0 i) (Some e.1) (find-look q es i)

pub get-listed : {T : Type 0} (es : List (ℕ × Row T)) (q : ℕ) → get (from_entries {R = nat_cmp} es) q ≡ look q es
get-listed es q = get-from_entries nat_cmp_total es q ∙ find-look q es

abbrev pub paired : {T : Type 0} → Option ℕ → Option T → Option (Row T)
paired p None = None
paired p (Some c) = Some (p, c)

-- the row x of a tree, from its line
abbrev pub filled : {T : Type 0} → Option (Option ℕ × Option T) → Option (Row T)
filled None = None
filled (Some r) = paired r.0 r.1

once : {X : Type 0} (e : ℕ × X) (es : List (ℕ × X)) → AreDistinct (e ∷ es) → has_row e.0 es ≡ false
once e es d = has-unused e.0 es (omega (arith, d e.0, one_if (e.0 == e.0) (eq-eqb e.0 e.0 refl)))

pub whole_first : {T : Type 0} (e : Line T) (es : List (Line T)) → IsWhole (e ∷ es) → is_some e.1.1 ≡ true
whole_first e es w = rw (eq-eqb e.0 e.0 refl) at (w e.0)

pub whole_tail : {T : Type 0} (e : Line T) (es : List (Line T)) → AreDistinct (e ∷ es) → IsWhole (e ∷ es) → IsWhole es
whole_tail e es d w x = elim (cases_Bool (x == e.0)) [
  | inl s ↦ rw (eqb-true x e.0 s, look-none e.0 es (once e es d)) tt
  | inr s ↦ (rw s at (w x))
]

look_added : {T : Type 0} (x q : ℕ) (p : Option ℕ) (o : Option T) (es : List (ℕ × Row T)) → is_some o ≡ true → look x (add q p o es) ≡ cond (x == q) (paired p o) (look x es)
look_added x q p None es h = cc
look_added x q p (Some c) es h = refl

pub look-full : {T : Type 0} (es : List (Line T)) → AreDistinct es → IsWhole es → (x : ℕ) → look x (full es) ≡ filled (look x es)
look-full [] d w x = refl
look-full (e ∷ es) d w x =
    let tail = look-full es (λ y. omega (arith, d y)) (whole_tail e es d w) x in
    look_added x e.0 e.1.0 e.1.1 (full es) (whole_first e es w) ∙ (elim (cases_Bool (x == e.0)) [
      | inl s ↦ rw s refl
      | inr s ↦ rw s tail
    ])

some_paired : {T : Type 0} (p : Option ℕ) (o : Option T) → is_some o ≡ true → is_some (paired p o) ≡ true
some_paired p None h = cc
some_paired p (Some c) h = refl

some_filled : {T : Type 0} (o : Option (Option ℕ × Option T)) → IsFilled o → is_some (filled o) ≡ is_some o
some_filled None h = refl
some_filled (Some r) h = some_paired r.0 r.1 h

above_paired : {T : Type 0} (p : Option ℕ) (o : Option T) → is_some o ≡ true → option_map (λ r. r.0) (paired p o) ≡ Some p
above_paired p None h = cc
above_paired p (Some c) h = refl

above_filled : {T : Type 0} (o : Option (Option ℕ × Option T)) → IsFilled o → option_map (λ r. r.0) (filled o) ≡ option_map (λ r. r.0) o
above_filled None h = refl
above_filled (Some r) h = above_paired r.0 r.1 h

-- the rows es are seen as m
pub record IsShown {T : Type 0} (es : List (Line T)) (n : ℕ) (m : Rows T) : Type 0 where
  pub sound : IsSound es n
  pub seen : from_entries (full es) ≡ m

module _ {T : Type 0} {es : List (Line T)} {n : ℕ} {m : Rows T} (s : IsShown es n m) where
  pub get-seen : (x : ℕ) → get m x ≡ filled (look x es)
  get-seen x = rw (← s.seen) (get-listed (full es) x ∙ look-full es s.sound.distinct s.sound.whole x)

  pub has-seen : (x : ℕ) → contains_key m x ≡ has_row x es
  has-seen x = ap is_some (get-seen x) ∙ some_filled (look x es) (s.sound.whole x) ∙ sym (has-look x es)

  -- a row's parent, if it has one
  pub above-seen : (x : ℕ) → option_map (λ r. r.0) (get m x) ≡ option_map (λ r. r.0) (look x es)
  above-seen x = ap (option_map (λ r. r.0)) (get-seen x) ∙ above_filled (look x es) (s.sound.whole x)

  pub parent-seen : (x p : ℕ) → option_map (λ r. r.0) (look x es) ≡ Some (Some p) → parent m x ≡ Some p
  parent-seen x p e = parent_above (get m x) ∙ ap (option_and_then (λ a. a)) (above-seen x ∙ e)

  pub parent-named : (x p : ℕ) → parent m x ≡ Some p → option_map (λ r. r.0) (look x es) ≡ Some (Some p)
  parent-named x p e = sym (above-seen x) ∙ above_parent (get m x) p e

  pub HasDepth-seen : (d q : ℕ) → HasDepthIn es q d → HasDepth m q d
  HasDepth-seen zero q h = above-seen q ∙ h
  HasDepth-seen (suc d) q (p, e, h) = (p, parent-seen q p e, HasDepth-seen d p h)

-- a row that names p is among its children
pub kid_there : {C : Type 0} (q p : ℕ) (es : List (ℕ × (Option ℕ × C))) → option_map (λ r. r.0) (look q es) ≡ Some (Some p) → children_in p es ≡ [] → ⊥
kid_there q p [] e no_kids = cc
kid_there q p ((x, (None, c)) ∷ es) e no_kids = elim (cases_Bool (q == x)) [
  | inl t ↦ (let f : Some None ≡ Some (Some p) = rw t at e in cc)
  | inr t ↦ kid_there q p es (rw t at e) no_kids
]
kid_there q p ((x, (Some y, c)) ∷ es) e no_kids = elim (cases_Bool (p == y)) [
  | inl s ↦ (let k : x ∷ children_in p es ≡ [] = rw s at no_kids in cc)
  | inr s ↦ elim (cases_Bool (q == x)) [
    | inl t ↦ (let f : Some (Some y) ≡ Some (Some p) = rw t at e in let g : p ≡ y = cc in eqb-false p y s g)
    | inr t ↦ kid_there q p es (rw t at e) (rw s at no_kids)
  ]
]

orphan_there : {C : Type 0} (q : ℕ) (es : List (ℕ × (Option ℕ × C))) → option_map (λ r. r.0) (look q es) ≡ Some None → orphans es ≡ [] → ⊥
orphan_there q [] e none = cc
orphan_there q ((x, (None, c)) ∷ es) e none = cc
orphan_there q ((x, (Some p, c)) ∷ es) e none = elim (cases_Bool (q == x)) [
  | inl t ↦ (let f : Some (Some p) ≡ Some None = rw t at e in cc)
  | inr t ↦ orphan_there q es (rw t at e) none
]

pub root_only : {C : Type 0} (q : ℕ) (es : List (ℕ × (Option ℕ × C))) → HasTop es → option_map (λ r. r.0) (look q es) ≡ Some None → q ≡ top es
root_only q [] h e = cc
root_only q (r ∷ es) h e = elim (cases_Bool (q == r.0)) [
  | inl t ↦ eqb-true q r.0 t
  | inr t ↦ absurd (orphan_there q es (rw t at e) h.1)
]

pub root_top : {C : Type 0} (es : List (ℕ × (Option ℕ × C))) → HasTop es → option_map (λ r. r.0) (look (top es) es) ≡ Some None
root_top [] h = absurd h
root_top (r ∷ es) h = rw (eq-eqb r.0 r.0 refl, h.0) refl

-- the rows of a tree: one row alone has no parent, and each parent has a row
pub IsTree-seen : {T : Type 0} {es : List (Line T)} {n : ℕ} {m : Rows T} → IsShown es n m → IsTree m
IsTree-seen {es = es} {m = m} s = record {
  root = top es;
  rooted = above-seen s (top es) ∙ root_top es s.sound.nest.topped;
  alone = λ q r. root_only q es s.sound.nest.topped (sym (above-seen s q) ∙ r);
  closed = λ q p e. has-seen s p ∙ (elim (cases_Bool (has_row p es)) [
    | inl has ↦ has
    | inr lacks ↦ absurd (kid_there q p es (parent-named s q p e) (s.sound.nest.closed p lacks))
  ]);
}

-- the answer for a row that is not there, and for one that is
pub get_none : {T U : Type 0} {es : List (Line T)} {n : ℕ} {m : Rows T} → IsShown es n m → (q : ℕ) (f : Row T → U) → has_row q es ≡ false → option_map f (get m q) ≡ None
get_none {es = es} s q f lacks = ap (option_map f) (get-seen s q ∙ ap filled (look-none q es lacks))

pub get_some : {T U : Type 0} {es : List (Line T)} {n : ℕ} {m : Rows T} → IsShown es n m → (q : ℕ) (u : U) → has_row q es ≡ true → option_map (λ _. u) (get m q) ≡ Some u
get_some {m = m} s q u has = mapped (get m q) u (has-seen s q ∙ has)
  where
    mapped : {X U : Type 0} (o : Option X) (u : U) → is_some o ≡ true → option_map (λ _. u) o ≡ Some u
    mapped None u h = cc
    mapped (Some x) u h = refl

-- a row's parent, from its line
pub parent-indexed : {T : Type 0} {es : List (Line T)} {n : ℕ} {m : Rows T} → IsShown es n m → (q : ℕ) → option_and_then (λ r. r.0) (look q es) ≡ parent m q
parent-indexed {es = es} {m = m} s q = parent_above (look q es) ∙ ap (option_and_then (λ a. a)) (sym (above-seen s q)) ∙ sym (parent_above (get m q))
