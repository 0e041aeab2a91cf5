-- The events of each caller in a history.
use Rattle.std.specs.Prelude.{ℕ, ◌≡◌, ◌<◌, ◌+◌, ◌==◌, ◌&&◌, Bool, if◌then◌else◌, List, [], ◌∷◌, length}
use Rattle.std.specs.Prelude.{slice_index_or, All}
use Rattle.std.specs.declared.alloc.Global.{Global}
use Rattle.hv_history.specs.declared.entry.Entry.{Entry}
use Rattle.hv_policy.specs.declared.event.Caller.{Caller}
use Rattle.hv_shared.specs.Pass.{receipt}
use Rattle.hv_shared.specs.declared.receipts.Receipt.{Receipt}

-- both are the same virtual processor
abbrev pub is_caller : Caller → Caller → Bool
is_caller by other = (other.part == by.part) && (other.vp == by.vp)

-- the receipts of the entries of this caller, in order; the first entry has the number n
abbrev pub receipts_by : Caller → ℕ → List (Entry Global) → List Receipt
receipts_by by n [] = []
receipts_by by n (e ∷ entries) =
    if is_caller by e.event.by then receipt n e.event e.reply ∷ receipts_by by (n + 1) entries else
    receipts_by by (n + 1) entries

-- the callers all differ
abbrev pub AreDifferent : List Caller → Type 0
AreDifferent callers = (i j : ℕ) (c : Caller) → i < length callers → j < length callers → slice_index_or
    callers i c ≡ slice_index_or callers j c → i ≡ j

-- each list has only receipts of events by the caller at its place
abbrev pub AreTheirs : List Caller → List (List Receipt) → Type 0
AreTheirs callers lists = (i : ℕ) (c : Caller) → i < length callers → All
    (λ r. r.event.by ≡ slice_index_or callers i c) (slice_index_or lists i [])
