-- The counts of a tree.
use Rattle.std.proofs.Common.{ℕ, ◌+◌, ◌/◌, ◌%◌, ◌≤◌, ◌==◌, Bool, true, false, cond, arith}
use Rattle.hv_mail.specs.Tally.{is_key, on_way, total}
use Rattle.hv_mail.specs.declared.tree.Tree.{Tree, Empty, Full'}

-- of a node's own count and one side's, none is counted twice
one_side : (count low high l h : ℕ) (here even : Bool) → l ≤ low → h ≤ high → cond here count 0 + cond even l h ≤ count + low + high
one_side count low high l h true true p q = omega arith
one_side count low high l h true false p q = omega arith
one_side count low high l h false true p q = omega arith
one_side count low high l h false false p q = omega arith

module _ {A : Type 0} where
  -- no way has more than the whole tree
  pub within : (tree : Tree A) (way : ℕ) (key : ℕ × ℕ) → on_way tree way key ≤ total tree
  within Empty way key = omega arith
  within (Full' ptr its count low high) way key =
      one_side count (total low) (total high) (on_way low (way / 2) key) (on_way high (way / 2) key) (is_key its key) (way % 2 == 0) (within low (way / 2) key) (within high (way / 2) key)
