-- The child after another, in a state that a machine stands for.
use Rattle.std.proofs.Common.{◌≡◌, ℕ, ◌<◌, Bool, true, ◌&&◌, nat_lt, Option, Some, None, find, refl, sym, ap, ◌∙◌, arith, eq-eqb, ltb-true, lt-ltb, Contains}
use Rattle.std.specs.FinMap.{get, entries}
use Rattle.hv_defs.proofs.Counts.{passes}
use Rattle.hv_defs.proofs.Maps.{found_least, found_row}
use Rattle.hv_policy.specs.Answer.{first_id, next_child}
use Rattle.hv_policy.specs.Count.{is_parent}
use Rattle.hv_partition.specs.Partition.{PartitionState}
use Rattle.hv_policy.specs.Flat.{Flat, PartRow}
use Rattle.hv_tree.specs.Rows.{Rows, children, IsLeastAbove, parent as tree_parent}
use Rattle.hv_tree.proofs.ChildLaws.{parent-child, child-parent}
use Rattle.hv_admit.proofs.CountedRows.{child_at, named}
use Rattle.hv_admit.proofs.PageHolders.{two_tests}
use Rattle.hv_admit.specs.Tie.{Refines}

abbrev pub id_or_0 : Option ℕ → ℕ
id_or_0 None = 0
id_or_0 (Some id) = id

-- whether an entry is a child of `parent`, and above `previous`
abbrev is_next : ℕ → ℕ → ℕ × PartRow → Bool
is_next parent previous e = is_parent parent e.1.parent && nat_lt previous e.0

module _ (rows : Rows PartitionState) (f : Flat) (flat : Refines rows f) (parent previous : ℕ) where
  -- a row of the flat state that is next is a child that is above
  next_child_is : (q : ℕ) (row : PartRow) → get f.part q ≡ Some row → is_next parent previous (q, row) ≡ true → Contains (children rows parent) q × (previous < q)
  next_child_is q row is next =
      let both = two_tests (is_parent parent row.parent) (nat_lt previous q) next in
      let child = sym (child_at rows f flat parent q) ∙ ap (passes (λ e. is_parent parent e.1.parent) q) is ∙ both.0 in
      (child-parent rows parent q (named parent (tree_parent rows q) child), ltb-true previous q both.1)

  -- and the other way round
  child_is_next : (q : ℕ) → Contains (children rows parent) q → previous < q → (row : PartRow) × (get f.part q ≡ Some row) × (is_next parent previous (q, row) ≡ true)
  child_is_next q child lt = by (get f.part q) refl (child_at rows f flat parent q ∙ ap (is_parent parent) (parent-child rows parent q child) ∙ eq-eqb parent parent refl)
    where
      by : (row : Option PartRow) → get f.part q ≡ row → passes (λ e. is_parent parent e.1.parent) q (get f.part q) ≡ true → (row : PartRow) × (get f.part q ≡ Some row) ×
          (is_next parent previous (q, row) ≡ true)
      by None is h = let none = sym (ap (passes (λ e. is_parent parent e.1.parent) q) is) ∙ h in cc
      by (Some row) is h = let some = sym (ap (passes (λ e. is_parent parent e.1.parent) q) is) ∙ h in (row, is, rw (some, lt-ltb previous q lt) refl)

  abbrev found : Option (ℕ × PartRow)
  found = find (is_next parent previous) (entries f.part)

  -- the child after `previous`, as the tree finds it
  pub next_is : (least : Option ℕ) → IsLeastAbove previous (children rows parent) least → next_child f parent previous ≡ id_or_0 least
  next_is None none = by found refl
    where
      by : (c : Option (ℕ × PartRow)) → found ≡ c → first_id c ≡ 0
      by None is = refl
      by (Some c) is =
          let (there, next) = found_row (is_next parent previous) f.part c is in
          let (child, lt) = next_child_is c.0 c.1 there next in
          absurd (let le = none c.0 child in omega arith)
  next_is (Some k) (child, lt, least) =
      let (row, there, next) = child_is_next k child lt in
      let (c, is, le) = found_least (is_next parent previous) f.part k row there next in
      let (c_there, c_next) = found_row (is_next parent previous) f.part c is in
      let (c_child, c_lt) = next_child_is c.0 c.1 c_there c_next in
      let ge = least c.0 c_child c_lt in
      ap first_id is ∙ (omega arith)
