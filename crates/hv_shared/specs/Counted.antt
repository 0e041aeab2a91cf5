-- That a history and lists of receipts count the same events, number by number.
use Rattle.std.specs.Prelude.{ℕ, ◌≡◌, ◌≤◌, ◌<◌, ◌-◌, Some, List, [], length, slice_index_or, slice_get}
use Rattle.std.specs.declared.alloc.Global.{Global}
use Rattle.hv_history.specs.declared.entry.Entry.{Entry}
use Rattle.hv_shared.specs.declared.receipts.Receipt.{Receipt}

-- list i has this receipt at place k
abbrev pub StandsAt : List (List Receipt) → ℕ → ℕ → Receipt → Type 0
StandsAt lists i k r = slice_get (slice_index_or lists i []) k ≡ Some r

-- Every number from 1 to the history's length is in some list (`there`), at one place alone (`once`). No
-- other number is in any list (`within`). The numbers of each list rise (`rising`). The event and the reply
-- of a receipt are the history's at its number (`same`).
pub record IsCounted (history : List (Entry Global)) (lists : List (List Receipt)) : Type 0 where
  pub there : (n : ℕ) → 1 ≤ n → n ≤ length history → (i : ℕ) × (k : ℕ) × (r : Receipt) × StandsAt lists i k r
      × (r.number ≡ n)
  pub once : (i k j l : ℕ) (r s : Receipt) → StandsAt lists i k r → StandsAt lists j l s → r.number ≡ s.number
      → (i ≡ j) × (k ≡ l)
  pub within : (i k : ℕ) (r : Receipt) → StandsAt lists i k r → (1 ≤ r.number) × (r.number ≤ length history)
  pub rising : (i k l : ℕ) (r s : Receipt) → StandsAt lists i k r → StandsAt lists i l s → k < l → r.number <
      s.number
  pub same : (i k : ℕ) (r : Receipt) → StandsAt lists i k r → (e : Entry Global) ×
      (slice_get history (r.number - 1) ≡ Some e) × (r.event ≡ e.event) × (r.reply ≡ e.reply)
