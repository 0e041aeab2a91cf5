-- The receipts of a processor's own entries.
use Rattle.std.proofs.Common.{◌≡◌, ℕ, ◌+◌, List, [], ◌∷◌, ◌++◌, length, refl, ap, ◌∙◌, arith, Bool, true, false, if◌then◌else◌, map, All, Global}
use Rattle.std.proofs.lemmas.List.Elements.{All-head, All-tail}
use Rattle.hv_history.specs.declared.entry.Entry.{Entry}
use Rattle.hv_policy.specs.declared.event.Caller.{Caller}
use Rattle.hv_shared.proofs.Callers.{is_itself}
use Rattle.hv_shared.specs.ByCaller.{is_caller, receipts_by}
use Rattle.hv_shared.specs.Drive.{entry_in}
use Rattle.hv_shared.specs.Pass.{receipt}
use Rattle.hv_shared.specs.declared.receipts.Receipt.{Receipt}

-- the entry is this caller's
abbrev pub IsBy : Caller → Entry Global → Type 0
IsBy by e = e.event.by ≡ by

behind : (b : Bool) (r : Receipt) (xs ys zs : List Receipt) → zs ≡ xs ++ ys → (if b then r ∷ zs else zs) ≡ (if b then r ∷ xs else xs) ++ ys
behind true r xs ys zs is = ap (λ (l : List Receipt). r ∷ l) is
behind false r xs ys zs is = is

-- the receipts of entries, and of more of them
pub receipts-append : (by : Caller) (n : ℕ) (xs ys : List (Entry Global)) → receipts_by by n (xs ++ ys) ≡ receipts_by by n xs ++ receipts_by by (n + length xs) ys
receipts-append by n [] ys = ap (λ (k : ℕ). receipts_by by k ys) (omega arith)
receipts-append by n (e ∷ xs) ys =
    behind (is_caller by e.event.by) (receipt n e.event e.reply) (receipts_by by (n + 1) xs) (receipts_by by (n + length (e ∷ xs)) ys) (receipts_by by (n + 1) (xs ++ ys))
    (receipts-append by (n + 1) xs ys ∙ ap (λ (k : ℕ). receipts_by by (n + 1) xs ++ receipts_by by k ys) (omega arith))

-- an own entry has a receipt
pub own_first : (by : Caller) (n : ℕ) (e : Entry Global) (es : List (Entry Global)) → e.event.by ≡ by → receipts_by by n (e ∷ es) ≡ receipt n e.event e.reply ∷ receipts_by by (n + 1) es
own_first by n e es own =
    ap (λ (b : Bool). if b then receipt n e.event e.reply ∷ receipts_by by (n + 1) es else receipts_by by (n + 1) es) (is_itself by e.event.by own)

-- own entries are those of their receipts
pub own_entries : (by : Caller) (n : ℕ) (es : List (Entry Global)) → All (IsBy by) es → map entry_in (receipts_by by n es) ≡ es
own_entries by n [] all = refl
own_entries by n (e ∷ es) all =
    ap (map entry_in) (own_first by n e es (All-head (IsBy by) e es all)) ∙ ap (λ (l : List (Entry Global)). e ∷ l) (own_entries by (n + 1) es (All-tail (IsBy by) e es all))
