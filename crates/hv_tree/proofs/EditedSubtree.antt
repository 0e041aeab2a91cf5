-- A tree, once the contents in a subtree are edited.
use Rattle.std.proofs.Common.{◌≡◌, ℕ, ◌+◌, ◌<◌, zero, suc, Bool, true, false, cond, ◌==◌, inl, inr, Option, None, Some, is_some, List, [], ◌∷◌, refl, sym, ap, ◌∙◌, arith, length, option_map}
use Rattle.std.proofs.Common.{option_and_then, eqb-true}
use Rattle.std.specs.FinMap.{get, from_entries, contains_key}
use Rattle.std.proofs.lemmas.Bool.{cases_Bool}
use Rattle.hv_tree.specs.Rows.{Row, Rows, parent, children_in, is_parent, IsTree}
use Rattle.hv_tree.specs.Nest.{Line, has_row, look, uses, place, IsNest}
use Rattle.hv_tree.specs.Full.{full, IsFilled}
use Rattle.hv_tree.specs.Index.{IsIndexOf}
use Rattle.hv_tree.specs.Edited.{edited_in, IsEditedFrom}
use Rattle.hv_tree.specs.Subtree.{LeadsUp, IsInSubtree}
use Rattle.hv_tree.proofs.Lines.{look-none}
use Rattle.hv_tree.proofs.TreeAsMap.{IsShown, filled, get-seen, parent-seen, parent-named}
use Rattle.hv_tree.proofs.IndexedParents.{climbed}

-- what an edit leaves of a row, at an id that is in the part or not
abbrev pub edited_line : {T : Type 0} → (T → T) → Bool → Option ℕ × Option T → Option ℕ × Option T
edited_line f b r = (r.0, cond b (option_map f r.1) r.1)

abbrev pub edited_row : {T : Type 0} → (T → T) → Bool → Row T → Row T
edited_row f b r = (r.0, cond b (f r.1) r.1)

module _ {T : Type 0} (f : T → T) (part : ℕ → Bool) where
  pub look-edited : (x : ℕ) (es : List (Line T)) → look x (edited_in f part es) ≡ option_map (edited_line f (part x)) (look x es)
  look-edited x [] = refl
  look-edited x (e ∷ es) = elim (cases_Bool (x == e.0)) [
    | inl s ↦ rw (s, eqb-true x e.0 s) refl
    | inr s ↦ rw s (look-edited x es)
  ]

  uses-edited : (x : ℕ) (es : List (Line T)) → uses x (edited_in f part es) ≡ uses x es
  uses-edited x [] = refl
  uses-edited x (e ∷ es) = ap (λ n. cond (x == e.0) 1 0 + n) (uses-edited x es)

  pub kids-edited : (x : ℕ) (es : List (Line T)) → children_in x (edited_in f part es) ≡ children_in x es
  kids-edited x [] = refl
  kids-edited x (e ∷ es) = ap (λ k. cond (is_parent x e.1.0) (e.0 ∷ k) k) (kids-edited x es)

  length-edited : (es : List (Line T)) → length (edited_in f part es) ≡ length es
  length-edited [] = refl
  length-edited (e ∷ es) = omega (arith, length-edited es)

IsFilled-edited : {T : Type 0} (f : T → T) (b : Bool) (o : Option (Option ℕ × Option T)) → IsFilled o → IsFilled (option_map (edited_line f b) o)
IsFilled-edited f b None h = tt
IsFilled-edited f b (Some (p, None)) h = cc
IsFilled-edited f true (Some (p, Some c)) h = refl
IsFilled-edited f false (Some (p, Some c)) h = refl

filled-edited : {T : Type 0} (f : T → T) (b : Bool) (o : Option (Option ℕ × Option T)) → filled (option_map (edited_line f b) o) ≡ option_map (edited_row f b) (filled o)
filled-edited f b None = refl
filled-edited f true (Some (p, None)) = refl
filled-edited f false (Some (p, None)) = refl
filled-edited f true (Some (p, Some c)) = refl
filled-edited f false (Some (p, Some c)) = refl

above_edited : {C : Type 0} (g : C → C) (o : Option (Option ℕ × C)) → option_map (λ (r : Option ℕ × C). r.0) (option_map {T = Option ℕ × C} {U = Option ℕ × C} (λ r. (r.0, g r.1)) o) ≡ option_map
    (λ r. r.0) o
above_edited g None = refl
above_edited g (Some r) = refl

parent_edited : {C : Type 0} (g : C → C) (o : Option (Option ℕ × C)) → option_and_then (λ (r : Option ℕ × C). r.0) (option_map {T = Option ℕ × C} {U = Option ℕ × C} (λ r. (r.0, g r.1)) o) ≡
    option_and_then (λ r. r.0) o
parent_edited g None = refl
parent_edited g (Some r) = refl

-- the map that rows are seen as
abbrev pub shown : {T : Type 0} → List (Line T) → Rows T
shown es = from_entries (full es)

unedited : {T : Type 0} (f : T → T) (o : Option (Row T)) → option_map (edited_row f false) o ≡ o
unedited f None = refl
unedited f (Some r) = refl

-- an index of just the parents stays one
pub index-edited : {T : Type 0} {f : T → T} {id : ℕ} {es new : List (Line T)} (up : ℕ → Option ℕ) → IsEditedFrom f id es new → IsIndexOf es up → IsIndexOf new up
index-edited {f = f} {es = es} up w known x = known x ∙ (rw (w.is, look-edited f w.part x es) (sym (parent_edited (λ o. cond (w.part x) (option_map f o) o) (look x es))))

module _ {T : Type 0} {f : T → T} {id : ℕ} {es new : List (Line T)} {n : ℕ} {m : Rows T} (s : IsShown es n m) (w : IsEditedFrom f id es new) (nest : IsNest new) where
  -- the rows are seen as some map
  pub edited-shown : IsShown new n (shown new)
  edited-shown = record {
    sound = record {
      distinct = λ x. rw (w.is, uses-edited f w.part x es) (s.sound.distinct x);
      nest = nest;
      whole = λ x. rw (w.is, look-edited f w.part x es) (IsFilled-edited f (w.part x) (look x es) (s.sound.whole x));
      counted = rw (w.is, length-edited f w.part es) s.sound.counted;
      fits = rw (w.is, length-edited f w.part es) s.sound.fits;
      few = λ x. rw (w.is, kids-edited f w.part x es) (s.sound.few x);
    };
    seen = refl;
  }

  get-edited : (x : ℕ) → get (shown new) x ≡ option_map (edited_row f (w.part x)) (get m x)
  get-edited x = get-seen edited-shown x ∙ (rw (w.is, look-edited f w.part x es, get-seen s x) (filled-edited f (w.part x) (look x es)))

  -- what has a chain to the id is in the part
  in_part : (k x : ℕ) → LeadsUp (parent m) x id k → w.part x ≡ true
  in_part zero x e = ap w.part e ∙ w.here
  in_part (suc k) x (p, up, h) = elim (cases_Bool (x == id)) [
    | inl t ↦ ap w.part (eqb-true x id t) ∙ w.here
    | inr t ↦ w.below x p t (parent-named s x p up) ∙ in_part k p h
  ]

  -- each row in the part has one
  has_chain : (b x : ℕ) → place x es < b → has_row x es ≡ true → w.part x ≡ true → IsInSubtree m id x
  has_chain zero x low has on = absurd (omega arith)
  has_chain (suc b) x low has on = elim (cases_Bool (x == id)) [
    | inl t ↦ (0, eqb-true x id t)
    | inr t ↦ elim (climbed x es s.sound.nest has (look x es) refl) [
      | inl h ↦ absurd (let off = rw h.0 at t in let no = w.above off in let yes = rw h.0 at on in cc)
      | inr (p, there, up) ↦ (
          let lower : place p es < place x es = s.sound.nest.ordered x p up in
          let r = has_chain b p (omega arith) there (sym (w.below x p t up) ∙ on) in
          (suc r.0, (p, parent-seen s x p up, r.1))
          )
    ]
  ]

  pub subtree-edited : (x : ℕ) → IsInSubtree m id x → get (shown new) x ≡ option_map (λ r. (r.0, f r.1)) (get m x)
  subtree-edited x (k, h) = get-edited x ∙ (rw (in_part k x h) refl)

  pub others-kept : (x : ℕ) → (IsInSubtree m id x → ⊥) → get (shown new) x ≡ get m x
  others-kept x out = get-edited x ∙ (elim (cases_Bool (w.part x)) [
    | inr t ↦ rw t (unedited f (get m x))
    | inl t ↦ elim (cases_Bool (has_row x es)) [
      | inl has ↦ absurd (out (has_chain (suc (place x es)) x (omega arith) has t))
      | inr lacks ↦ rw (get-seen s x, look-none x es lacks) refl
    ]
  ])

  pub parents-kept : (x : ℕ) → option_map (λ r. r.0) (get (shown new) x) ≡ option_map (λ r. r.0) (get m x)
  parents-kept x = ap (option_map (λ r. r.0)) (get-edited x) ∙ above_edited (λ v. cond (w.part x) (f v) v) (get m x)

-- where the id has no row, its subtree has none
pub subtree-absent : {T : Type 0} (m : Rows T) (id : ℕ) → IsTree m → contains_key m id ≡ false → (k x : ℕ) → LeadsUp (parent m) x id k → get m x ≡ None
subtree-absent m id tree lacks k x h = none_of (get m x) (gone k x h)
  where
    none_of : {X : Type 0} (o : Option X) → is_some o ≡ false → o ≡ None
    none_of None e = refl
    none_of (Some v) e = cc

    gone : (k x : ℕ) → LeadsUp (parent m) x id k → contains_key m x ≡ false
    gone zero x e = ap (contains_key m) e ∙ lacks
    gone (suc k) x (p, up, h) = absurd (let yes = tree.closed x p up in let no = gone k p h in let bad = rw no at yes in cc)
