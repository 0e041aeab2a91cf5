-- Fields of the bytes of numbers, and of lists that end.
use Rattle.std.proofs.Common.{◌≡◌, ℕ, zero, suc, ◌+◌, ◌-◌, ◌*◌, ◌/◌, ◌%◌, ◌^◌, ◌<◌, ◌≤◌, List, [], ◌++◌, length, slice_index, refl, sym, ap, ◌∙◌, arith, add-zero, pow-add, pow_pos}
use Rattle.std.proofs.lemmas.List.{get_or_past, get_or-append_right}
use Rattle.std.proofs.Math.Nat.{pow-suc, mod-lt}
use Rattle.std.proofs.Math.Pow.{pow_mono}
use Rattle.std.specs.Int.{byte_at, bytes_low_first, to_le_bytes, w64}
use Rattle.byteorder.specs.Numbers.{little_from-bytes}
use Rattle.hv_calls.proofs.Copies.{little_from-copy}
use Rattle.hv_defs.specs.Field.{field}

-- where the bytes end before a field, it is 0
pub field-past : (bytes : List ℕ) (at n : ℕ) → length bytes ≤ at → field bytes at n ≡ 0
field-past bytes at zero past = refl
field-past bytes at (suc n) past =
    let here = get_or_past bytes at 0 past in
    let rest = field-past bytes (at + 1) n (omega arith) in
    rw (here, rest) refl

-- a field past the first of two lists stands in the second
pub field-second : (xs ys : List ℕ) (len at n : ℕ) → length xs ≡ len → field (xs ++ ys) (len + at) n ≡ field ys at n
field-second xs ys len at zero is = refl
field-second xs ys len at (suc n) is =
    let place : len + at - len ≡ at = omega arith in
    let next : len + at + 1 ≡ len + (at + 1) = omega arith in
    let here = get_or-append_right xs ys len (len + at) 0 is (omega arith) ∙ ap (slice_index ys) place in
    let rest = field-second xs ys len (at + 1) n is in
    rw (here, next, rest) refl

-- the worth of a byte
pub pow256 : (k : ℕ) → 256 ^ k ≡ 2 ^ (8 * k)
pow256 zero = refl
pow256 (suc k) =
    let split : 8 * suc k ≡ 8 * k + 8 = omega arith in
    rw (split, pow-add 2 (8 * k) 8, ← pow256 k) (pow-suc 256 k)

byte_in : (i n k x : ℕ) (rest : List ℕ) → k < n → slice_index (bytes_low_first i n x ++ rest) k ≡ byte_at (i + k) x
byte_in i zero k x rest less = elim less [ ]
byte_in i (suc n) zero x rest less = ap (λ j. byte_at j x) (sym (add-zero i))
byte_in i (suc n) (suc k) x rest less =
    let place : suc i + k ≡ i + suc k = omega arith in
    byte_in (suc i) n k x rest (omega arith) ∙ ap (λ j. byte_at j x) place

-- a field within the bytes of a number
pub field-bytes : (x : ℕ) (rest : List ℕ) (at n : ℕ) → at + n ≤ 8 → field (to_le_bytes w64 x ++ rest) at n ≡ x / 256 ^ at % 256 ^ n
field-bytes x rest at n within =
    let from : (k : ℕ) → 0 + (at + k) ≡ at + k = λ k. omega arith in
    let copied = little_from-copy (bytes_low_first at n x ++ []) (to_le_bytes w64 x ++ rest) at 0 n
    (λ k less. byte_in at n k x [] (omega (arith, less)) ∙ sym (byte_in 0 8 (at + k) x rest (omega (arith, less, within)) ∙ ap (λ j. byte_at j x) (from k))) in
    let place = add-zero at in
    ap (λ i. field (to_le_bytes w64 x ++ rest) i n) (sym place) ∙ sym copied ∙ little_from-bytes n at x []

-- one within the second of two numbers
pub field-bytes-second : (x y at n : ℕ) → 8 ≤ at → at + n ≤ 16 → field (to_le_bytes w64 x ++ to_le_bytes w64 y) at n ≡ y / 256 ^ (at - 8) % 256 ^ n
field-bytes-second x y at n past within =
    let place : 8 + (at - 8) ≡ at = omega arith in
    ap (λ i. field (to_le_bytes w64 x ++ to_le_bytes w64 y) i n) (sym place)
    ∙ field-second (to_le_bytes w64 x) (to_le_bytes w64 y) 8 (at - 8) n refl
    ∙ field-bytes y [] (at - 8) n (omega arith)

-- so many bytes fit
pub low-fits : (x n : ℕ) → x % 256 ^ n < 2 ^ (8 * n)
low-fits x n = rw (pow256 n) (mod-lt x (pow_pos (8 * n)))

-- and one more
pub more-fits : (number byte k : ℕ) → number < 2 ^ (8 * k) → byte < 256 → number * 256 + byte < 2 ^ (8 * suc k)
more-fits number byte k small less =
    let wider : 2 ^ (8 * suc k) ≡ 2 ^ (8 * k) * 256 = sym (pow256 (suc k)) ∙ pow-suc 256 k ∙ ap (λ n. n * 256) (pow256 k) in
    omega (arith, wider)

-- up to seven
pub few-fit : (number k : ℕ) → number < 2 ^ (8 * k) → k ≤ 7 → number < 2 ^ 56
few-fit number k small few =
    let most : 2 ^ (8 * k) ≤ 2 ^ 56 = pow_mono {j = 56} (omega arith) in
    omega arith

-- and none
pub some-fit : (k : ℕ) → 0 < 2 ^ (8 * k)
some-fit k = pow_pos (8 * k)

-- the field from the byte before on
pub one-more : (bytes : List ℕ) (end n number byte : ℕ) → 0 < end → number ≡ field bytes end n → byte ≡ slice_index bytes (end - 1) → number * 256 + byte ≡ field bytes (end - 1) (suc n)
one-more bytes end n number byte some is here =
    let next : end - 1 + 1 ≡ end = omega arith in
    rw (next, ← is, ← here) (omega arith)
