-- A number and bytes read from a copy of some bytes.
use Rattle.std.proofs.Common.{◌≡◌, ℕ, zero, suc, ◌+◌, ◌-◌, ◌<◌, ◌≤◌, List, [], ◌∷◌, ◌++◌, drop, length, take, slice_index, refl, sym, ap, ◌∙◌, arith, get_or-drop}
use Rattle.std.proofs.Math.ListN.{replicate}
use Rattle.std.proofs.lemmas.List.{get_or_past, take-replicate}
use Rattle.byteorder.specs.Endian.{little_from}
use Rattle.hv_defs.specs.Field.{field}
use Rattle.hv_calls.specs.Bytes.{bytes_at}

-- where the copy has the bytes from a place on, it reads as the field at that place
pub little_from-copy : (copy bytes : List ℕ) (at i n : ℕ) → ((k : ℕ) → k < i + n → slice_index copy k ≡ slice_index bytes (at + k)) → little_from i n copy ≡ field bytes (at + i) n
little_from-copy copy bytes at i zero h = refl
little_from-copy copy bytes at i (suc n) h =
    let next : at + suc i ≡ at + i + 1 = omega arith in
    let rest = little_from-copy copy bytes at (suc i) n (λ k less. h k (omega arith)) in
    let first = h i (omega arith) in
    rw (first, rest, next) refl

-- bytes read from the rest of a block are those of the block further on
pub bytes_at-drop : (block : List ℕ) (at i n : ℕ) → bytes_at (drop at block) i n ≡ bytes_at block (at + i) n
bytes_at-drop block at i zero = refl
bytes_at-drop block at i (suc n) =
    let next : at + i + 1 ≡ at + (i + 1) = omega arith in
    let rest = bytes_at-drop block at (i + 1) n in
    rw (get_or-drop at block i 0, rest, next) refl

-- bytes that are all there
pub bytes_at-there : (block : List ℕ) (n : ℕ) → n ≤ length block → bytes_at block 0 n ≡ take n block
bytes_at-there block zero within = refl
bytes_at-there [] (suc n) within = absurd (omega (arith, within))
bytes_at-there (byte ∷ block) (suc n) within = ap (λ rest. byte ∷ rest) (sym (bytes_at-drop (byte ∷ block) 1 0 n) ∙ bytes_at-there block n (omega (arith, within)))

-- bytes past the end
bytes_at-past : (block : List ℕ) (at n : ℕ) → length block ≤ at → bytes_at block at n ≡ replicate n 0
bytes_at-past block at zero past = refl
bytes_at-past block at (suc n) past =
    let here = get_or_past block at 0 past in
    let rest = bytes_at-past block (at + 1) n (omega arith) in
    rw (here, rest) refl

-- bytes of which the last are past it
pub bytes_at-ended : (block : List ℕ) (n : ℕ) → length block ≤ n → bytes_at block 0 n ≡ block ++ replicate (n - length block) 0
bytes_at-ended [] n within = let all : n - 0 ≡ n = omega arith in rw all (bytes_at-past [] 0 n (omega arith))
bytes_at-ended (byte ∷ block) zero within = absurd (omega (arith, within))
bytes_at-ended (byte ∷ block) (suc n) within =
    let left : suc n - suc (length block) ≡ n - length block = omega arith in
    rw left (ap (λ rest. byte ∷ rest) (sym (bytes_at-drop (byte ∷ block) 1 0 n) ∙ bytes_at-ended block n (omega (arith, within))))

-- a copy of bytes that are all there, and one of those that are there with zeros behind them
pub copied : (block made all : List ℕ) (n : ℕ) → made ≡ [] → all ≡ made ++ take n block → n ≤ length block → all ≡ bytes_at block 0 n
copied block made all n none is within = is ∙ ap (λ bytes. bytes ++ take n block) none ∙ sym (bytes_at-there block n within)

pub copied-ended : (block made put all : List ℕ) (n : ℕ) → made ≡ [] → put ≡ made ++ block → all ≡ put ++ take (n - length block) (replicate 240 0) → length block ≤ n → n ≤ 240 → all ≡ bytes_at block
    0 n
copied-ended block made put all n none first second within most =
    second
    ∙ ap (λ bytes. bytes ++ take (n - length block) (replicate 240 0)) (first ∙ ap (λ bytes. bytes ++ block) none)
    ∙ ap (λ zeros. block ++ zeros) (take-replicate (n - length block) 240 0 (omega arith))
    ∙ sym (bytes_at-ended block n within)
