-- A table as contracts see it.
use Rattle.std.specs.Prelude.{ℕ, ◌-◌, cond, is_some, List, length, min, Option, refl}
use Rattle.std.specs.Coded.{Coded, code_by, coded×, coded_ℕ}
use Rattle.std.specs.FinMap as map
use Rattle.std.specs.Ordering.{nat_cmp}
use Rattle.hv_ports.specs.declared.table.TheConstants.{MOST}

-- each row by its id, and how many more rows there is room for
pub record TableState (R : Type 0) : Type 0 where
  pub rows : map.FinMap nat_cmp R
  pub room : ℕ

-- such a record is stored as the pair of its fields
abbrev pub table_code : {R : Type 0} → Coded R → Coded (TableState R)
table_code {R} row =
    code_by (map.FinMap nat_cmp R × ℕ) (coded× (map.code coded_ℕ row) coded_ℕ)
    (λ t. (t.rows, t.room)) (λ p. record { rows = p.0; room = p.1 }) (λ _. refl)

-- no rows, and no memory for any
abbrev pub no_rows : {R : Type 0} → TableState R
no_rows = record { rows = map.empty; room = 0 }

-- the table after all rows are removed, with the room that it has
abbrev pub cleared : {R : Type 0} → TableState R → TableState R
cleared t = record { rows = map.empty; room = t.room }

-- the rows of a list of slots, by their ids
unfoldable pub rows_of : {R : Type 0} → List (ℕ × R) → map.FinMap nat_cmp R
rows_of slots = map.from_entries slots

-- the view of a list of slots, with a spare block or none; a spare block is room for one slot more, and there
-- are never more than `MOST`
abbrev pub seen_of : {R S : Type 0} → List (ℕ × R) → Option S → TableState R
seen_of slots spare =
    record { rows = rows_of slots; room = min (cond (is_some spare) 1 0) (MOST - length slots) }
