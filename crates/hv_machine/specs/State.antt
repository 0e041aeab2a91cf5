-- The state of a machine, as contracts see it.
use Rattle.std.specs.Prelude.{ℕ, refl}
use Rattle.std.specs.Coded.{Coded, code_by, coded×, coded_ℕ, coded_option}
use Rattle.std.specs.FinMap as map
use Rattle.hv_partition.specs.Partition.{PartitionState, partition_code}
use Rattle.hv_tree.specs.Rows.{Rows}

-- the partitions by id, each with its parent and without the room of its page sets, processors and tables;
-- the number of pages at boot, the id that the next partition gets, and the number of served events
pub record State : Type 0 where
  pub rows : Rows PartitionState
  pub pages : ℕ
  pub next : ℕ
  pub served : ℕ

-- such a state is stored as the tuple of its fields
abbrev pub state_code : Coded State
state_code =
    code_by (Rows PartitionState × (ℕ × (ℕ × ℕ))) (coded×
    (map.code coded_ℕ (coded× (coded_option coded_ℕ) partition_code))
    (coded× coded_ℕ (coded× coded_ℕ coded_ℕ)))
    (λ s. (s.rows, (s.pages, (s.next, s.served))))
    (λ t. record { rows = t.0; pages = t.1.0; next = t.1.1.0; served = t.1.1.1 }) (λ _. refl)
