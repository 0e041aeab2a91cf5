-- Counts over rows by number, compared key by key.
use Rattle.std.proofs.Common.{◌≡◌, ℕ, ◌≤◌, Bool, true, count_by, nat_cmp}
use Rattle.std.specs.Cmp.{nat_cmp_total}
use Rattle.std.specs.FinMap.{FinMap, get, entries, nat_cmp-IsAntisymmetric}
use Rattle.hv_defs.proofs.Counts.{passes}
use Rattle.hv_defs.proofs.Tallies.{count-fewer}

-- by numbers, no more rows that pass
pub numbers-fewer : {X : Type 0} (p : ℕ × X → Bool) (m n : FinMap nat_cmp X) → ((q : ℕ) → passes p q (get m q) ≡ true → passes p q (get n q) ≡ true) → count_by p (entries m) ≤ count_by p (entries n)
numbers-fewer p m n h = count-fewer nat_cmp_total nat_cmp-IsAntisymmetric p p m n h
