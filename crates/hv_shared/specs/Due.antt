-- What the settlement has still to find of a pass's receipts.
use Rattle.std.specs.Prelude.{ℕ, ◌≡◌, ◌+◌, ◌<◌, ◌==◌, List, Some, drop, map, slice_get}
use Rattle.std.specs.declared.alloc.Global.{Global}
use Rattle.std.specs.BinaryHeap.{IsHeap}
use Rattle.hv_history.specs.declared.entry.Entry.{Entry}
use Rattle.hv_shared.specs.Merge.{next_is}
use Rattle.hv_shared.specs.Receipts.{list_of, receipt_of}
use Rattle.hv_shared.specs.contracts.held.settlement.UnsettledOrd.TheImpl as order
use Rattle.hv_shared.specs.declared.held.settlement.Unsettled.{Unsettled}
use Rattle.hv_shared.specs.declared.held.settlement.TheConstants.{NEVER}
use Rattle.hv_shared.specs.declared.receipts.Receipt.{Receipt}

-- After the event with number n, the first of these receipts is found at the number `due`, or never: of the
-- later numbers, `due` alone is that receipt's.
pub record IsDue (n due : ℕ) (list : List Receipt) : Type 0 where
  pub later : n < due
  pub found : (m : ℕ) → n < m → m < NEVER → next_is m list ≡ (due == m)

-- The first `count` receipts are of the first entries, in order, under their numbers from n on.
abbrev pub AreOf : ℕ → List (Entry Global) → List Receipt → ℕ → Type 0
AreOf n entries list count = (i : ℕ) (e : Entry Global) → i < count → slice_get entries i ≡ Some e
    → slice_get list i ≡ Some (receipt_of (n + i) e)

-- the receipts that are still to be found
abbrev pub left_of : Unsettled → List Receipt
left_of rest = drop rest.found (list_of rest.receipts.value)

abbrev pub lefts_of : List Unsettled → List (List Receipt)
lefts_of rests = map left_of rests

abbrev pub IsDueAfter : ℕ → Unsettled → Type 0
IsDueAfter n rest = IsDue n rest.due.0 (left_of rest)

-- the one that is due first is on top
abbrev pub AreHeap : List Unsettled → Type 0
AreHeap rests = IsHeap (order.ghosts).cmp rests
