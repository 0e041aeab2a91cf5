-- The rows of a node, once contents among them are edited.
use Rattle.std.proofs.Common.{◌≡◌, ℕ, ◌<◌, ◌≤◌, suc, zero, Bool, true, false, ◌==◌, ◌&&◌, ◌⊎◌, inl, inr, Option, None, Some, List, [], ◌∷◌, ◌++◌, Box, refl, sym, ap, ◌∙◌, arith, length, take, drop}
use Rattle.std.proofs.Common.{set, get_or, eq-eqb, option_map}
use Rattle.std.specs.Option.{option_or}
use Rattle.std.specs.Box.{with_value}
use Rattle.std.proofs.lemmas.Bool.{cases_Bool}
use Rattle.hv_tree.specs.Nest.{Line, AreDistinct, hang, has_row, look, top}
use Rattle.hv_tree.specs.Below.{below, AreNests}
use Rattle.hv_tree.specs.Edited.{edited_in, IsEditedFrom}
use Rattle.hv_tree.proofs.Lines.{look-append, look-hang, look-none}
use Rattle.hv_tree.proofs.ChildLists.{closed-below, AreNests-take, AreNests-drop}
use Rattle.hv_tree.proofs.ChildRows.{around, around-set, above-row, off_own, off_before, off_after}
use Rattle.hv_tree.proofs.RemovedRow.{AreNests-get}
use Rattle.hv_tree.proofs.TreeAsMap.{kid_there}
use Rattle.hv_tree.proofs.IndexedParents.{climbed, or_right}

module _ {T : Type 0} (f : T → T) (part : ℕ → Bool) where
  pub edited-append : (xs ys : List (Line T)) → edited_in f part (xs ++ ys) ≡ edited_in f part xs ++ edited_in f part ys
  edited-append [] ys = refl
  edited-append (e ∷ xs) ys = ap (λ l. edited_in f part (e ∷ []) ++ l) (edited-append xs ys)

  pub edited-hang : (p : ℕ) (es : List (Line T)) → edited_in f part (hang p es) ≡ hang p (edited_in f part es)
  edited-hang p [] = refl
  edited-hang p (e ∷ es) = ap (λ l. edited_in f part (hang p (e ∷ [])) ++ l) (edited-hang p es)

  -- rows outside the part stay
  pub edited-none : (es : List (Line T)) → ((q : ℕ) → has_row q es ≡ true → part q ≡ false) → edited_in f part es ≡ es
  edited-none [] h = refl
  edited-none (e ∷ es) h =
      let out : part e.0 ≡ false = h e.0 (rw (eq-eqb e.0 e.0 refl) refl) in
      rw out (ap (λ l. e ∷ l) (edited-none es (λ q has. h q (or_right (q == e.0) has))))

-- two parts with the same rows of the list
pub edited-same : {T : Type 0} (f : T → T) (part other : ℕ → Bool) (es : List (Line T)) → ((q : ℕ) → has_row q es ≡ true → part q ≡ other q) → edited_in f part es ≡ edited_in f other es
edited-same f part other [] h = refl
edited-same f part other (e ∷ es) h =
    let same : part e.0 ≡ other e.0 = h e.0 (rw (eq-eqb e.0 e.0 refl) refl) in
    rw same (ap (λ l. edited_in f other (e ∷ []) ++ l) (edited-same f part other es (λ q has. h q (or_right (q == e.0) has))))

-- the children with f of each content
abbrev pub edited_kids : {T A : Type 0} → (T → T) → List (Box (List (Line T)) A) → List (Box (List (Line T)) A)
edited_kids f [] = []
edited_kids f (k ∷ ks) = with_value k (edited_in f (λ _. true) k.value) ∷ edited_kids f ks

pub edited-below : {T A : Type 0} (f : T → T) (p : ℕ) (ks : List (Box (List (Line T)) A)) → below p (edited_kids f ks) ≡ edited_in f (λ _. true) (below p ks)
edited-below f p [] = refl
edited-below f p (k ∷ ks) = ap (λ l. hang p (edited_in f (λ _. true) k.value) ++ l) (edited-below f p ks) ∙ ap (λ l. l ++ edited_in f (λ _. true) (below p ks))
    (sym (edited-hang f (λ _. true) p k.value)) ∙ sym (edited-append f (λ _. true) (hang p k.value) (below p ks))

-- those before i are edited, and now that at i
pub edited_more : {T A : Type 0} (f : T → T) (ks : List (Box (List (Line T)) A)) (i : ℕ) (k : Box (List (Line T)) A) → i < length ks → k ≡ get_or ks i k
    → set (edited_kids f (take i ks) ++ drop i ks) i (with_value k (edited_in f (λ _. true) k.value)) ≡ edited_kids f (take (suc i) ks) ++ drop (suc i) ks
edited_more f [] i k lt is = absurd (omega arith)
edited_more f (x ∷ ks) zero k lt is = ap (λ b. with_value b (edited_in f (λ _. true) b.value) ∷ ks) is
edited_more f (x ∷ ks) (suc i) k lt is = ap (λ l. with_value x (edited_in f (λ _. true) x.value) ∷ l) (edited_more f ks i k (omega arith) is)

pub drop_whole : {X : Type 0} (xs : List X) (i : ℕ) → length xs ≤ i → drop i xs ≡ []
drop_whole [] zero h = refl
drop_whole [] (suc i) h = refl
drop_whole (x ∷ xs) zero h = absurd (omega arith)
drop_whole (x ∷ xs) (suc i) h = drop_whole xs i (omega arith)

-- the subtree of the first row is all
pub edited_whole : {T : Type 0} (f : T → T) (id : ℕ) (es new : List (Line T)) → id ≡ top es → new ≡ edited_in f (λ _. true) es → IsEditedFrom f id es new
edited_whole f id es new first is = record {
  part = λ _. true;
  is = is;
  here = refl;
  below = λ q p off e. refl;
  above = λ off. absurd (let on : (top es == id) ≡ true = eq-eqb (top es) id (sym first) in cc);
}

either : {X Y : Type 0} (g : X → Y) (y : Y) (a b : Option X) → option_map g (option_or a b) ≡ Some y → (option_map g a ≡ Some y) ⊎ (option_map g b ≡ Some y)
either g y None b e = inr e
either g y (Some x) b e = inl e

-- among the rows of children, a parent that is not the node is there
named_in : {T A : Type 0} (q p own : ℕ) (ks : List (Box (List (Line T)) A)) → AreNests ks → (p == own) ≡ false → option_map (λ r. r.0) (look q (below own ks)) ≡ Some (Some p) → has_row p
    (below own ks) ≡ true
named_in q p own ks ns off e = elim (cases_Bool (has_row p (below own ks))) [
  | inl s ↦ s
  | inr s ↦ absurd (kid_there q p (below own ks) e (closed-below p own ks ns off s))
]

-- the subtree of a row of the child k at i is edited
module _ {T A : Type 0} (f : T → T) (id own : ℕ) (c : Option T) (ks : List (Box (List (Line T)) A)) (i : ℕ) (k : Box (List (Line T)) A) (lt : i < length ks) (is : k ≡ get_or ks i k)
    (d : AreDistinct ((own, (None, c)) ∷ below own ks)) (ns : AreNests ks) (has : has_row id k.value ≡ true) (new : List (Line T)) (w : IsEditedFrom f id k.value new) where
  abbrev within : ℕ → Bool
  within q = has_row q k.value && w.part q

  outside : (q : ℕ) → has_row q k.value ≡ false → within q ≡ false
  outside q out = rw out refl

  inside : (q : ℕ) → has_row q k.value ≡ true → within q ≡ w.part q
  inside q in_k = rw in_k refl

  own_out : has_row own k.value ≡ false
  own_out = elim (cases_Bool (has_row own k.value)) [
    | inl s ↦ absurd (let no = off_own own ks i k lt is c d own s in let yes : (own == own) ≡ true = eq-eqb own own refl in cc)
    | inr s ↦ s
  ]

  -- rows that share no id with the child
  apart : (es : List (Line T)) → ((q : ℕ) → has_row q k.value ≡ true → has_row q es ≡ false) → edited_in f within es ≡ es
  apart es off = edited-none f within es (λ q in_es. elim (cases_Bool (has_row q k.value)) [
    | inl s ↦ absurd (let no = off q s in cc)
    | inr s ↦ outside q s
  ])

  child_rows : edited_in f within (hang own k.value) ≡ hang own new
  child_rows = edited-hang f within own k.value ∙ ap (hang own) (edited-same f within w.part k.value inside ∙ sym w.is)

  rows : below own (set ks i (with_value k new)) ≡ edited_in f within (below own ks)
  rows =
      let before = below own (take i ks) in
      let after = below own (drop (suc i) ks) in
      let first : edited_in f within before ≡ before = apart before (off_before own ks i k lt is c d) in
      let last : edited_in f within after ≡ after = apart after (off_after own ks i k lt is c d) in
      around-set own ks i k lt is new
      ∙ sym (ap (edited_in f within) (around own ks i k lt is)
      ∙ (rw (edited-append f within before (hang own k.value ++ after), edited-append f within (hang own k.value) after, first, child_rows, last) refl))

  -- a row outside the child has its parent outside
  parent_out : (q p : ℕ) → has_row q k.value ≡ false → option_map (λ r. r.0) (look q ((own, (None, c)) ∷ below own ks)) ≡ Some (Some p) → has_row p k.value ≡ false
  parent_out q p out e = elim (cases_Bool (has_row p k.value)) [
    | inr s ↦ s
    | inl s ↦ absurd (elim (cases_Bool (q == own)) [
      | inl t ↦ (let no : Some None ≡ Some (Some p) = rw t at e in cc)
      | inr t ↦ (
          let before = below own (take i ks) in
          let after = below own (drop (suc i) ks) in
          let off = off_own own ks i k lt is c d p s in
          let g : option_map (λ r. r.0) (look q (below own ks)) ≡ Some (Some p) = rw t at e in
          let h : option_map (λ r. r.0) (option_or (look q before) (look q after)) ≡ Some (Some p) = rw
          (around own ks i k lt is, look-append q before (hang own k.value ++ after), look-append q (hang own k.value) after, look-hang q own k.value, look-none q k.value out) at g in
          elim (either (λ r. r.0) (Some p) (look q before) (look q after) h) [
            | inl a ↦ (let yes = named_in q p own (take i ks) (AreNests-take ks i ns) off a in let no = off_before own ks i k lt is c d p s in cc)
            | inr b ↦ (let yes = named_in q p own (drop (suc i) ks) (AreNests-drop ks (suc i) ns) off b in let no = off_after own ks i k lt is c d p s in cc)
          ]
          )
    ])
  ]

  as_parent : (q p : ℕ) → (q == id) ≡ false → option_map (λ r. r.0) (look q ((own, (None, c)) ∷ below own ks)) ≡ Some (Some p) → within q ≡ within p
  as_parent q p off e = elim (cases_Bool (has_row q k.value)) [
    | inr s ↦ outside q s ∙ sym (outside p (parent_out q p s e))
    | inl s ↦ elim (climbed q k.value (AreNests-get ks i k ns lt is) s (look q k.value) refl) [
      | inl h ↦ (
          let g : Some (Some own) ≡ Some (Some p) = sym (above-row own ks i k lt is c d q None h.1) ∙ e in
          let same : own ≡ p = cc in
          let high : w.part q ≡ false = rw h.0 (w.above (rw h.0 at off)) in
          inside q s ∙ high ∙ sym (outside own own_out) ∙ ap within same
          )
      | inr (r, in_k, up) ↦ (
          let g : Some (Some r) ≡ Some (Some p) = sym (above-row own ks i k lt is c d q (Some r) up) ∙ e in
          let same : r ≡ p = cc in
          inside q s ∙ w.below q r off up ∙ sym (inside r in_k) ∙ ap within same
          )
    ]
  ]

  pub edited_child : IsEditedFrom f id ((own, (None, c)) ∷ below own ks) ((own, (None, c)) ∷ below own (set ks i (with_value k new)))
  edited_child = record {
    part = within;
    is = rw (outside own own_out) (ap (λ l. (own, (None, c)) ∷ l) rows);
    here = inside id has ∙ w.here;
    below = as_parent;
    above = λ off. outside own own_out;
  }
