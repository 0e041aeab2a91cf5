-- How a node stands to another one.
use Rattle.std.specs.Prelude.{◌≡◌, ◌≢◌, ℕ, true, false, Some, length}
use Rattle.std.specs.FinMap.{contains_key}
use Rattle.hv_tree.specs.declared.relative.Relative.{Relative}
use Rattle.hv_tree.specs.declared.relative.Relative.TheVariants.{Itself, Child, Other, Absent}
use Rattle.hv_tree.specs.Rows.{Rows, children, content, parent}

-- the row q stands in this way to the row p
abbrev pub IsRelative : {T : Type 0} → Rows T → ℕ → ℕ → Relative T → Type 0
IsRelative m p q Itself = (q ≡ p) × (parent m q ≢ Some p)
IsRelative m p q (Child c count) = (q ≢ p) × (parent m q ≡ Some p) × (content m q ≡ Some c.now) ×
    (count ≡ length (children m q))
IsRelative m p q Other = (q ≢ p) × (contains_key m q ≡ true) × (parent m q ≢ Some p)
IsRelative m p q Absent = (q ≢ p) × (contains_key m q ≡ false)
