-- The rows of a node after an edit of the contents in the subtree of one of its rows.
use Rattle.std.specs.Prelude.{◌≡◌, ℕ, Bool, true, false, cond, ◌==◌, Some, List, [], ◌∷◌, option_map}
use Rattle.hv_tree.specs.Nest.{Line, look, top}

-- the rows, with f applied to each content whose id is in the part
abbrev pub edited_in : {T : Type 0} → (T → T) → (ℕ → Bool) → List (Line T) → List (Line T)
edited_in f part [] = []
edited_in f part (e ∷ es) = (e.0, (e.1.0, cond (part e.0) (option_map f e.1.1) e.1.1)) ∷ edited_in f part es

-- new is old with f applied to each content in the part: id, and each other row whose parent is in the part
pub record IsEditedFrom {T : Type 0} (f : T → T) (id : ℕ) (old new : List (Line T)) : Type 0 where
  pub part : ℕ → Bool
  pub is : new ≡ edited_in f part old
  pub here : part id ≡ true
  pub below : (q p : ℕ) → (q == id) ≡ false → option_map (λ r. r.0) (look q old) ≡ Some (Some p)
      → part q ≡ part p
  pub above : (top old == id) ≡ false → part (top old) ≡ false
