-- The merge of the passes' receipts into a history.
use Rattle.std.specs.Prelude.{ℕ, ◌≡◌, ◌≢◌, ◌+◌, ◌<◌, ◌==◌, Bool, true, false, ◌⊎◌, if◌then◌else◌, List, []}
use Rattle.std.specs.Prelude.{◌∷◌, Option, None, Some, length, drop, map, All, slice_index_or, slice_set}
use Rattle.std.specs.declared.alloc.Global.{Global}
use Rattle.hv_history.specs.declared.entry.Entry.{Entry}
use Rattle.hv_shared.specs.Pass.{receipt}
use Rattle.hv_shared.specs.PassValue.{PassValue}
use Rattle.hv_shared.specs.declared.receipts.Receipt.{Receipt}
use Rattle.hv_shared.specs.declared.fault.SettleFault.{SettleFault}
use Rattle.hv_shared.specs.declared.fault.SettleFault.TheVariants.{Missing, Differs}

-- the receipts of the entries that pass `i` owns, in order; the first entry has the number n
abbrev pub owned : ℕ → ℕ → List ℕ → List (Entry Global) → List Receipt
owned i n [] entries = []
owned i n (owner ∷ owners) [] = []
owned i n (owner ∷ owners) (e ∷ entries) =
    if owner == i then receipt n e.event e.reply ∷ owned i (n + 1) owners entries else owned i (n + 1) owners
    entries

-- each entry has one owner, and each pass's list is exactly the entries that it owns, in order, with their
-- numbers
pub record IsMergeFrom (n : ℕ) (history : List (Entry Global)) (lists : List (List Receipt)) : Type 0 where
  pub owners : List ℕ
  pub one_each : length owners ≡ length history
  pub there : All (λ i. i < length lists) owners
  pub each : (i : ℕ) → slice_index_or lists i [] ≡ owned i n owners history

abbrev pub IsMerge : List (Entry Global) → List (List Receipt) → Type 0
IsMerge history lists = IsMergeFrom 1 history lists

-- the first receipt has this number
abbrev pub next_is : ℕ → List Receipt → Bool
next_is n [] = false
next_is n (r ∷ rs) = r.number == n

-- the first receipt is of this entry
abbrev pub IsOf : Entry Global → List Receipt → Type 0
IsOf e [] = ⊥
IsOf e (r ∷ rs) = (r.event ≡ e.event) × (r.reply ≡ e.reply)

abbrev pub IsNext : ℕ → List (List Receipt) → ℕ → Type 0
IsNext n lists i = next_is n (slice_index_or lists i []) ≡ true

-- exactly one list has this number next, with this entry
pub record IsOnlyNext (n : ℕ) (e : Entry Global) (lists : List (List Receipt)) (i : ℕ) : Type 0 where
  pub there : i < length lists
  pub next : IsNext n lists i
  pub alone : (j : ℕ) → IsNext n lists j → j ≡ i
  pub same : IsOf e (slice_index_or lists i [])

-- two lists have this number next, or one has it with another event or reply
abbrev pub IsContested : ℕ → Entry Global → List (List Receipt) → Type 0
IsContested n e lists =
    ((i : ℕ) × (j : ℕ) × (i ≢ j) × IsNext n lists i × IsNext n lists j)
    ⊎ ((i : ℕ) × IsNext n lists i × (IsOf e (slice_index_or lists i []) → ⊥))

-- the lists without the first receipt of one of them
abbrev pub without : List (List Receipt) → ℕ → List (List Receipt)
without lists i = slice_set lists i (drop 1 (slice_index_or lists i []))

abbrev pub AreDone : List (List Receipt) → Type 0
AreDone lists = (i : ℕ) → slice_index_or lists i [] ≡ []

-- the lists fail at this number, and this is the fault
abbrev pub FailsAt : ℕ → Entry Global → List (List Receipt) → Option SettleFault → Type 0
FailsAt n e lists found = ((found ≡ Some Missing) × ((i : ℕ) → IsNext n lists i → ⊥)) ⊎
    ((found ≡ Some Differs) × IsContested n e lists)

-- The first fault of the lists against the history from number n on, or none if they merge into it. It is at
-- the least number that no list has next, that two have next, or that one has with another event or reply; or
-- receipts are left over.
abbrev pub SettlesAs : ℕ → List (Entry Global) → List (List Receipt) → Option SettleFault → Type 0
SettlesAs n [] lists None = AreDone lists
SettlesAs n [] lists (Some fault) = (fault ≡ Differs) × (AreDone lists → ⊥)
SettlesAs n (e ∷ history) lists found = FailsAt n e lists found ⊎
    ((i : ℕ) × IsOnlyNext n e lists i × SettlesAs (n + 1) history (without lists i) found)

abbrev pub receipts_of : List PassValue → List (List Receipt)
receipts_of passes = map (λ p. p.receipts) passes

abbrev pub shares_of : List PassValue → List ℕ
shares_of passes = map (λ p. p.share) passes
