-- The text of an output.
use Rattle.std.proofs.Common.{ℕ, ◌≤◌, List, [], ◌∷◌, length, arith}
use Rattle.hex.proofs.HexLemmas.{length-encode_with}
use Rattle.hex.specs.Hex.{lower_digits}
use Rattle.hv_text.specs.Audit.{output_text}

pub shown_length : (bytes : List ℕ) → length bytes ≤ 256 → length (output_text bytes) ≤ 512
shown_length [] few = omega arith
shown_length (x ∷ xs) few = omega (arith, length-encode_with lower_digits (x ∷ xs))
