use Rattle.std.proofs.Common.{◌≡◌, ◌+◌, ◌*◌, ◌<◌, ◌≤◌, None, length, get_or, take, arith, rules, tests, ap, sym, ◌∙◌, take_all}
use Rattle.std.specs.Char.{digit_value}
use Rattle.std.specs.Str.Parse.{AllDigits, digits_value}
use Rattle.std.proofs.lemmas.Int.Digits.{digits_more, digits_value_more}
use Rattle.hv_check.proofs.Digits.{all_digits_at, one_more_le}
use Rattle.hv_check.proofs.reader.decimal.Goals as goal

pub returns-in_err-digit : goal.returns-in_err-digit
returns-in_err-digit c =
    let none : c.from_residual.result ≡ None = search rules in
    let lt : c.loop-byte.byte-index < length c.args.word.now = omega arith in
    let byte : c.from.result ≡ get_or c.args.word.now c.loop-byte.byte-index 0 = search rules in
    rw none (λ h. c.in_err-digit.ensures.value (rw byte (all_digits_at 10 c.args.word.now c.loop-byte.byte-index h.0.1 lt)))

pub returns-in_err-checked_mul : goal.returns-in_err-checked_mul
returns-in_err-checked_mul c =
    let none : c.from_residual-in_err-checked_mul.result ≡ None = search rules in
    let lt : c.loop-byte.byte-index < length c.args.word.now = omega arith in
    let le = one_more_le 10 c.loop-byte.value c.args.word.now c.loop-byte.byte-index (omega arith) lt c.loop-byte.invariant.value in
    rw none (λ h. c.in_err-checked_mul.ensures (omega (arith, le, h.1)))

pub returns-in_err-value : goal.returns-in_err-value
returns-in_err-value c =
    let none : c.from_residual-in_err-value.result ≡ None = search rules in
    let lt : c.loop-byte.byte-index < length c.args.word.now = omega arith in
    let byte : c.from.result ≡ get_or c.args.word.now c.loop-byte.byte-index 0 = search rules in
    let digit : c.in_ok-digit.digit ≡ digit_value (get_or c.args.word.now c.loop-byte.byte-index 0) =
    c.in_ok-digit.ensures.value.1 ∙ ap digit_value byte in
    let product : c.in_ok-checked_mul.field-0 ≡ c.loop-byte.value * 10 = c.in_ok-checked_mul.ensures.1 in
    let wide : c.from-in-loop-byte.result ≡ c.in_ok-digit.digit = search rules in
    let le = one_more_le 10 c.loop-byte.value c.args.word.now c.loop-byte.byte-index (omega arith) lt c.loop-byte.invariant.value in
    let whole : c.in_ok-checked_mul.field-0 + c.from-in-loop-byte.result ≤ digits_value 10 c.args.word.now = rw (product, wide, digit) le in
    rw none (λ h. c.in_err-value.ensures (omega (arith, whole, h.1)))

pub loop-byte-preserved : goal.loop-byte-preserved
loop-byte-preserved c =
    let lt : c.loop-byte.byte-index < length c.args.word.now = omega arith in
    let byte : c.from.result ≡ get_or c.args.word.now c.loop-byte.byte-index 0 = search rules in
    let digit : c.in_ok-digit.digit ≡ digit_value (get_or c.args.word.now c.loop-byte.byte-index 0) =
    c.in_ok-digit.ensures.value.1 ∙ ap digit_value byte in
    let product : c.in_ok-checked_mul.field-0 ≡ c.loop-byte.value * 10 = c.in_ok-checked_mul.ensures.1 in
    let wide : c.from-in-loop-byte.result ≡ c.in_ok-digit.digit = search rules in
    let sum : c.in_ok-value.value ≡ c.in_ok-checked_mul.field-0 + c.from-in-loop-byte.result = c.in_ok-value.ensures.1 in
    let below : digit_value c.from.result < 10 = c.in_ok-digit.ensures.value.0 in
    let more = digits_value_more 10 c.args.word.now c.loop-byte.byte-index lt in
    record {
      value = sum ∙ rw (product, wide, digit, c.loop-byte.invariant.value) (sym more);
      small = rw sum c.in_ok-value.ensures.0;
      digits = digits_more 10 c.args.word.now c.loop-byte.byte-index lt c.loop-byte.invariant.digits (rw byte at below);
    }

pub returns : goal.returns
returns c =
    let whole : take c.loop-byte.byte-index c.args.word.now ≡ c.args.word.now = take_all _ _ (omega arith) in
    let digits : AllDigits 10 c.args.word.now = rw whole at c.loop-byte.invariant.digits in
    let value : c.loop-byte.value ≡ digits_value 10 c.args.word.now = rw whole at c.loop-byte.invariant.value in
    let some : 0 < length c.args.word.now = search (rules, tests) in
    (((some, digits), rw (← value) c.loop-byte.invariant.small), value)
