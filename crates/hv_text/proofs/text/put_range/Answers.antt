use Rattle.std.proofs.Common.{ℕ, ◌+◌, ◌*◌, ◌/◌, ◌%◌, ◌==◌, Bool, true, ◌&&◌, slice_index, refl, arith, eqb-true}
use Rattle.std.proofs.lemmas.Bool.{agree_below_at, and_parts}
use Rattle.hex.proofs.Pairs.{encode_step}
use Rattle.hex.specs.Hex.{lower_digits}
use Rattle.hv_text.specs.declared.text.TheConstants.{PAIRS}
use Rattle.hv_text.proofs.text.put_range.Goals as goal

-- whether the table has this byte's high digit, and its low digit
abbrev has_high : ℕ → Bool
has_high byte = slice_index PAIRS (2 * byte) == slice_index lower_digits (byte / 16)

abbrev has_low : ℕ → Bool
has_low byte = slice_index PAIRS (2 * byte + 1) == slice_index lower_digits (byte % 16)

pub loop-at-preserved : goal.loop-at-preserved
loop-at-preserved c =
    let byte = slice_index c.args.bytes.now c.loop-at.at in
    let both = and_parts (has_high byte) (has_low byte) (agree_below_at (λ byte. has_high byte && has_low byte) (λ byte. true) 256 byte refl (omega arith)) in
    encode_step lower_digits _ _ c.loop-at.at _ _ (omega arith) (omega arith) (eqb-true _ _ both.0) (eqb-true _ _ both.1) c.loop-at.invariant
