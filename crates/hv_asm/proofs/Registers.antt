-- A list in the two registers of a fast call.
use Rattle.std.proofs.Common.{◌≡◌, ℕ, zero, suc, ◌+◌, ◌-◌, ◌/◌, ◌^◌, ◌<◌, List, [], ◌∷◌, ◌++◌, length, take, drop, get_or, get_or-drop, get_or-take, slice_index, add-zero, refl, sym, ap, ◌∙◌}
use Rattle.std.proofs.Common.{arith, append-nil}
use Rattle.std.specs.Prelude.{replicate}
use Rattle.std.specs.Int.{byte_at, bytes_low_first, from_le_bytes, to_le_bytes, w64}
use Rattle.std.proofs.Math.Nat.{mod-lt}
use Rattle.std.proofs.Math.ListN.{get_or-append}
use Rattle.std.proofs.lemmas.List.{get_or_past, get_or-append_right}
use Rattle.std.proofs.lemmas.Nat.{le_bytes_8}
use Rattle.byteorder.specs.Endian.{little_from}
use Rattle.byteorder.specs.Numbers.{little_from-append}
use Rattle.hv_calls.proofs.Copies.{little_from-copy}
use Rattle.hv_calls.proofs.Numbers.{field-past, field-second}
use Rattle.hv_defs.specs.Field.{field}
use Rattle.hv_script.proofs.CutLemmas.{choose}

-- numbers that are bytes
abbrev pub AreBytes : List ℕ → Type 0
AreBytes list = (i : ℕ) → get_or list i 0 < 256

byte_small : (k x : ℕ) → byte_at k x < 256
byte_small zero x = mod-lt x (omega arith)
byte_small (suc k) x = mod-lt (x / 256 ^ suc k) (omega arith)

no_bytes : AreBytes []
no_bytes i = omega arith

pub number_bytes : (j n x : ℕ) → AreBytes (bytes_low_first j n x)
number_bytes j zero x i = no_bytes i
number_bytes j (suc n) x zero = byte_small j x
number_bytes j (suc n) x (suc i) = number_bytes (suc j) n x i

pub zero_bytes : (n : ℕ) → AreBytes (replicate n 0)
zero_bytes zero i = no_bytes i
zero_bytes (suc n) zero = omega arith
zero_bytes (suc n) (suc i) = zero_bytes n i

pub both_bytes : (one other : List ℕ) → AreBytes one → AreBytes other → AreBytes (one ++ other)
both_bytes [] other first second i = second i
both_bytes (x ∷ one) other first second zero = first 0
both_bytes (x ∷ one) other first second (suc i) = both_bytes one other (λ k. first (suc k)) second i

-- a number from the start of some bytes
as_little : (bytes : List ℕ) (n : ℕ) → field bytes 0 n ≡ little_from 0 n bytes
as_little bytes n =
    let same : (k : ℕ) → k ≡ 0 + k = λ k. omega arith in
    sym (little_from-copy bytes bytes 0 0 n (λ k less. ap (slice_index bytes) (same k)))

worth : (bytes : List ℕ) → little_from 0 8 bytes ≡ from_le_bytes w64 bytes
worth bytes = omega arith

-- eight bytes that are read as a number are its bytes
eight_back : (list bytes rest : List ℕ) → list ≡ bytes ++ rest → length bytes ≡ 8 → AreBytes bytes → to_le_bytes w64 (field list 0 8) ≡ bytes
eight_back list bytes rest is long small =
    le_bytes_8 bytes (field list 0 8) long small
    (ap (λ (l : List ℕ). field l 0 8) is ∙ as_little (bytes ++ rest) 8 ∙ little_from-append 8 bytes rest (omega (arith, long)) ∙ worth bytes)

-- the bytes in RDX and R8
abbrev pub registers : List ℕ → List ℕ
registers list = to_le_bytes w64 (field list 0 8) ++ to_le_bytes w64 (field list 8 8)

-- those of eight bytes
pub one_register : (bytes : List ℕ) → length bytes ≡ 8 → AreBytes bytes → registers bytes ≡ bytes ++ replicate 8 0
one_register bytes long small =
    ap (λ (l : List ℕ). l ++ to_le_bytes w64 (field bytes 8 8)) (eight_back bytes bytes [] (sym (append-nil bytes)) long small)
    ∙ ap (λ (n : ℕ). bytes ++ to_le_bytes w64 n) (field-past bytes 8 8 (omega (arith, long)))

-- and of sixteen
pub two_registers : (one other : List ℕ) → length one ≡ 8 → length other ≡ 8 → AreBytes one → AreBytes other → registers (one ++ other) ≡ one ++ other
two_registers one other long longer small smaller =
    ap (λ (l : List ℕ). l ++ to_le_bytes w64 (field (one ++ other) 8 8)) (eight_back (one ++ other) one other refl long small)
    ∙ ap (λ (n : ℕ). one ++ to_le_bytes w64 n) (field-second one other 8 0 8 long)
    ∙ ap (λ (l : List ℕ). one ++ l) (eight_back other other [] (sym (append-nil other)) longer smaller)

zero_at : (n k : ℕ) → slice_index (replicate n 0) k ≡ 0
zero_at zero k = refl
zero_at (suc n) zero = refl
zero_at (suc n) (suc k) = zero_at n k

-- zeros behind a list are read as nothing is
padded : (list zeros new : List ℕ) (n k : ℕ) → zeros ≡ replicate n 0 → new ≡ list ++ zeros → slice_index new k ≡ slice_index list k
padded list zeros new n k none is =
    ap (λ (l : List ℕ). slice_index l k) is
    ∙ choose k (length list) (λ less. get_or-append list zeros 0 k less)
    (λ past. get_or-append_right list zeros (length list) k 0 refl past ∙ ap (λ (l : List ℕ). get_or l (k - length list) 0) none ∙ zero_at n (k - length list) ∙ sym (get_or_past list k 0 past))

-- eight bytes of a list with zeros behind it
pub register_read : (list zeros new : List ℕ) (n at : ℕ) → zeros ≡ replicate n 0 → new ≡ list ++ zeros → little_from 0 8 (take 8 (drop at new)) ≡ field list at 8
register_read list zeros new n at none is =
    little_from-copy (take 8 (drop at new)) list at 0 8 (λ k less. get_or-take 8 (drop at new) k 0 less ∙ get_or-drop at new k 0 ∙ padded list zeros new n (at + k) none is)
    ∙ ap (λ (p : ℕ). field list p 8) (add-zero at)
