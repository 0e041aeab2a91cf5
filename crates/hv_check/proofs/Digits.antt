-- Digits of a number, one more at a time.
use Rattle.std.proofs.Common.{◌≡◌, ℕ, zero, suc, ◌+◌, ◌*◌, ◌<◌, ◌≤◌, List, [], ◌∷◌, length, get_or, take, arith}
use Rattle.std.specs.Char.{digit_value}
use Rattle.std.specs.Str.Parse.{AllDigits, digits_value}
use Rattle.std.proofs.lemmas.Int.Digits.{digits_value_more}
use Rattle.std.proofs.lemmas.Str.Parse.{digits_value-take-le}

pub all_digits_at : (base : ℕ) (ds : List ℕ) (i : ℕ) → AllDigits base ds → i < length ds → digit_value (get_or ds i 0) < base
all_digits_at base [] i h lt = absurd (omega arith)
all_digits_at base (c ∷ cs) zero h lt = h.0
all_digits_at base (c ∷ cs) (suc i) h lt = all_digits_at base cs i h.1 (omega arith)

-- the number with one digit more is at most the whole one
pub one_more_le : (base value : ℕ) (ds : List ℕ) (i : ℕ) → 1 ≤ base → i < length ds → value ≡ digits_value base (take i ds)
    → value * base + digit_value (get_or ds i 0) ≤ digits_value base ds
one_more_le base value ds i least lt is =
    let more = digits_value_more base ds i lt in
    let le = digits_value-take-le base ds (i + 1) least in
    rw is (rw (← more) le)
