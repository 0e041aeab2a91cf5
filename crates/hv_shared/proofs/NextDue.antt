-- When the settlement finds the next receipt of a list.
use Rattle.std.proofs.Common.{◌≡◌, ℕ, Some, ◌<◌, ◌≤◌, List, false, length, sym, ◌∙◌, drop, arith, option_map, slice_get, ne_eqb}
use Rattle.hv_shared.specs.Due.{IsDue}
use Rattle.hv_shared.specs.Merge.{next_is}
use Rattle.hv_shared.specs.declared.held.settlement.TheConstants.{NEVER}
use Rattle.hv_shared.specs.declared.receipts.Receipt.{Receipt}
use Rattle.hv_shared.proofs.PackedReceipts.{next_number, no_number}

-- it has a later number
pub due_later : (n m at : ℕ) (rs : List Receipt) → n < m → option_map (λ r. r.number) (slice_get rs at) ≡ Some m → IsDue n m (drop at rs)
due_later n m at rs later is = record { later = later; found = λ x _ _. next_number rs at m x is }

never : (n : ℕ) (list : List Receipt) → n < NEVER → ((x : ℕ) → n < x → next_is x list ≡ false) → IsDue n NEVER list
never n list few none = record { later = few; found = λ x after less. none x after ∙ sym (ne_eqb NEVER x (omega arith)) }

-- it has an earlier one
pub due_past : (n m at : ℕ) (rs : List Receipt) → n < NEVER → m ≤ n → option_map (λ r. r.number) (slice_get rs at) ≡ Some m → IsDue n NEVER (drop at rs)
due_past n m at rs few past is = never n (drop at rs) few (λ x after. next_number rs at m x is ∙ ne_eqb m x (omega arith))

-- there is none
pub due_none : (n at : ℕ) (rs : List Receipt) → n < NEVER → length rs ≤ at → IsDue n NEVER (drop at rs)
due_none n at rs few past = never n (drop at rs) few (λ x after. no_number rs at x past)
