use Rattle.std.proofs.Common.{◌≡◌, ◌<◌, None, length, take, arith, rules, tests, sym, ◌∙◌, take_all}
use Rattle.std.specs.Str.Parse.{AllDigits, digits_value}
use Rattle.std.proofs.lemmas.Int.Digits.{digits_more, digits_value_more}
use Rattle.hv_script.proofs.NumberLemmas.{all_digits_at, one_more_le}
use Rattle.hv_script.proofs.number.digits.Goals as goal

pub returns-in_err-value : goal.returns-in_err-value
returns-in_err-value c =
    let word = c.args.word.now in
    let at = c.loop-byte.byte-index in
    let none : c.from_residual.result ≡ None = search rules in
    let lt : at < length word = omega arith in
    let le = one_more_le c.args.base c.loop-byte.value word at (omega arith) lt c.loop-byte.invariant.value in
    rw none (λ h. c.in_err-value.ensures (all_digits_at c.args.base word at h.0.1 lt, omega (arith, le, h.1)))

pub loop-byte-preserved : goal.loop-byte-preserved
loop-byte-preserved c =
    let word = c.args.word.now in
    let at = c.loop-byte.byte-index in
    let lt : at < length word = omega arith in
    let step = c.in_ok-value.ensures in
    record {
      value = step.1 ∙ rw c.loop-byte.invariant.value (sym (digits_value_more c.args.base word at lt));
      small = rw step.1 step.0.1;
      digits = digits_more c.args.base word at lt c.loop-byte.invariant.digits step.0.0;
    }

pub returns : goal.returns
returns c =
    let whole : take c.loop-byte.byte-index c.args.word.now ≡ c.args.word.now = take_all _ _ (omega arith) in
    let digits : AllDigits c.args.base c.args.word.now = rw whole at c.loop-byte.invariant.digits in
    let value : c.loop-byte.value ≡ digits_value c.args.base c.args.word.now = rw whole at c.loop-byte.invariant.value in
    let some : 0 < length c.args.word.now = search (rules, tests) in
    (((some, digits), rw (← value) c.loop-byte.invariant.small), value)
