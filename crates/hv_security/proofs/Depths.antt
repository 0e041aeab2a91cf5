-- A partition keeps its depth.
use Rattle.std.proofs.Common.{◌≡◌, ℕ, zero, suc, ◌+◌, true, Option, Some, None, is_some, refl, sym, ap, ◌∙◌, option_and_then}
use Rattle.std.specs.FinMap.{contains_key, get}
use Rattle.hv_invariants.proofs.RowsContinue.{FollowOn, runs_there, step_follows}
use Rattle.hv_invariants.proofs.InvariantRows.{parent_running}
use Rattle.hv_invariants.specs.StateInvariant.{StateInvariant}
use Rattle.hv_policy.specs.Count.{depth, depth_within, one_more, parent_of}
use Rattle.hv_policy.specs.Flat.{Flat, PartRow}
use Rattle.hv_policy.specs.Met.{is_running}
use Rattle.hv_policy.specs.Step.{step}
use Rattle.hv_policy.specs.declared.event.Event.{Event}

-- who is there has a row
row_there : (r : Option PartRow) → is_some r ≡ true → (row : PartRow) × (r ≡ Some row)
row_there None h = cc
row_there (Some row) h = (row, refl)

module _ (pages : ℕ) (f g : Flat) (l : StateInvariant pages f) (caller : ℕ) (on : FollowOn f caller g.part g.next) where
  parent_same : (id : ℕ) → contains_key f.part id ≡ true → contains_key g.part id ≡ true → parent_of g id ≡ parent_of f id
  parent_same id there there_too =
      let (old, was) = row_there (get f.part id) there in
      let (new, is) = row_there (get g.part id) there_too in
      ap (option_and_then (λ row. row.parent)) is ∙ (on.olds id old new was is).parent ∙ sym (ap (option_and_then (λ row. row.parent)) was)

  parent_runs : (id p : ℕ) → parent_of f id ≡ Some p → is_running f p ≡ true
  parent_runs id p is = by (get f.part id) refl is
    where
      by : (r : Option PartRow) → get f.part id ≡ r → option_and_then (λ row. row.parent) r ≡ Some p → is_running f p ≡ true
      by None none is = cc
      by (Some row) was is = parent_running pages f l id p row was is

  upward : (t u : ℕ → ℕ) (id : ℕ) → ((p : ℕ) → contains_key f.part p ≡ true → contains_key g.part p ≡ true → t p ≡ u p) → (o : Option ℕ) → parent_of f id ≡ o → one_more t o ≡ one_more u o
  upward t u id rest None is = refl
  upward t u id rest (Some p) is = let runs = parent_runs id p is in ap (λ n. 1 + n) (rest p (runs_there (get f.part p) runs) (on.stays p runs))

  within_kept : (n id : ℕ) → contains_key f.part id ≡ true → contains_key g.part id ≡ true → depth_within n g id ≡ depth_within n f id
  within_kept zero id there there_too = refl
  within_kept (suc n) id there there_too =
      ap (one_more (depth_within n g)) (parent_same id there there_too) ∙ upward (depth_within n g) (depth_within n f) id (within_kept n) (parent_of f id) refl

pub depth_kept : {A : Type 0} (pages : ℕ) (f : Flat) (e : Event A) → StateInvariant pages f → (id : ℕ) → contains_key f.part id ≡ true → contains_key (step f e).0.part id ≡ true → depth (step f e).0
    id ≡ depth f id
depth_kept pages f e l id there there_too = within_kept pages f (step f e).0 l e.by.part (step_follows f pages l e) id id there there_too
