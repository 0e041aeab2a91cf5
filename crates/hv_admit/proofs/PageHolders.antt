-- Who holds a page.
use Rattle.std.proofs.Common.{◌≡◌, ℕ, Bool, true, false, ◌&&◌, Option, Some, None, refl, sym, ap, ◌∙◌, arith}
use Rattle.std.specs.FinMap.{get}
use Rattle.hv_partition.specs.Partition.{PartitionState}
use Rattle.hv_policy.specs.Flat.{Flat, PageRow}
use Rattle.hv_tree.specs.Rows.{Rows}
use Rattle.hv_admit.specs.Tie.{Refines, is_held, holds}

-- a page's row tells who holds it
pub held_by_owner : (page : PageRow) → is_held page.owner page.pooled (Some page) ≡ true
held_by_owner page = grind arith

pub two_tests : (a b : Bool) → (a && b) ≡ true → (a ≡ true) × (b ≡ true)
two_tests a b h = grind arith

pub held_alone : (page : PageRow) (id : ℕ) (kind : Bool) → is_held id kind (Some page) ≡ true → (id ≡ page.owner) × (kind ≡ page.pooled)
held_alone page id kind h = grind arith

-- the rows of two partitions that are held apart in the flat state share no page
module _ (rows : Rows PartitionState) (f : Flat) (flat : Refines rows f) where
  pub apart_sets : (a b : ℕ) (j k : Bool) → ((a ≡ b) × (j ≡ k) → ⊥) → (page : ℕ) → holds j page (get rows a) ≡ true → holds k page (get rows b) ≡ false
  apart_sets a b j k differ page one = by (get f.page page) (holds k page (get rows b)) refl ((flat.rows a).page page j ∙ one) ((flat.rows b).page page k)
    where
      by : (row : Option PageRow) (h : Bool) → get f.page page ≡ row → is_held a j (get f.page page) ≡ true → is_held b k (get f.page page) ≡ h → h ≡ false
      by row false is first second = refl
      by None true is first second = let none = sym (ap (is_held a j) is) ∙ first in cc
      by (Some row) true is first second =
          let (owner, kind) = held_alone row a j (sym (ap (is_held a j) is) ∙ first) in
          let (other, other_kind) = held_alone row b k (sym (ap (is_held b k) is) ∙ second) in
          absurd (differ (owner ∙ sym other, kind ∙ sym other_kind))
