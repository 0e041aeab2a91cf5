-- What packed receipts stand for.
use Rattle.std.specs.Prelude.{ℕ, ◌+◌, ◌-◌, min, List, [], ◌∷◌, vec_len, vec_capacity}
use Rattle.std.specs.declared.alloc.Global.{Global}
use Rattle.hv_history.specs.History.{entries, entry_by, room_of}
use Rattle.hv_history.specs.declared.entry.Entry.{Entry}
use Rattle.hv_shared.specs.Pass.{receipt}
use Rattle.hv_shared.specs.declared.receipts.Receipt.{Receipt}
use Rattle.hv_shared.specs.declared.receipts.ReceiptRef.{ReceiptRef}
use Rattle.hv_shared.specs.declared.receipts.Receipts.{Receipts}

-- an entry under a number
abbrev pub receipt_of : ℕ → Entry Global → Receipt
receipt_of number entry = receipt number entry.event entry.reply

-- each number with the entry beside it
abbrev pub receipts_from : List ℕ → List (Entry Global) → List Receipt
receipts_from [] entries = []
receipts_from (n ∷ numbers) [] = []
receipts_from (n ∷ numbers) (e ∷ entries) = receipt_of n e ∷ receipts_from numbers entries

-- the receipts, in their order
abbrev pub list_of : Receipts → List Receipt
list_of r = receipts_from r.numbers.items (entries r.packed)

-- the borrowed receipt
abbrev pub receipt_by : ReceiptRef → Receipt
receipt_by r = receipt_of r.number (entry_by r.entry)

-- each entry under its number, from this one on
abbrev pub numbered : ℕ → List (Entry Global) → List Receipt
numbered n [] = []
numbered n (e ∷ entries) = receipt_of n e ∷ numbered (n + 1) entries

-- the number of further receipts for which there is room
abbrev pub room_in : Receipts → ℕ
room_in r = min (vec_capacity r.numbers - vec_len r.numbers) (room_of r.packed)
