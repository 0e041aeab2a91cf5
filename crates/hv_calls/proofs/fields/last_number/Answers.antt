use Rattle.std.proofs.Common.{◌≡◌, ℕ, suc, ◌+◌, ◌-◌, refl, sym, arith}
use Rattle.hv_calls.proofs.Numbers.{field-past, more-fits, few-fit, one-more, some-fit}
use Rattle.hv_calls.proofs.fields.last_number.Goals as goal
use Rattle.hv_calls.proofs.fields.last_number.Goals.{then-end-input, else-end-input}

pub returns-then-at-input-clause-number : goal.returns-then-at-input-clause-number
returns-then-at-input-clause-number c = sym (field-past c.args.input.now c.args.at c.args.size (omega (arith, c.if-at-input.true)))

pub loop-end-init : goal.loop-end-init
loop-end-init c =
    let all : ℕ = c.args.at + c.args.size in
    elim c.if-end-input.branch [
      | then-end-input w ↦ record {
        low = omega (arith, w.end-is, c.if-at-input.false);
        high = omega (arith, w.end-is, w.if-end-input.true);
        within = omega (arith, w.end-is);
        number = sym (field-past c.args.input.now c.if-end-input.end (all - c.if-end-input.end) (omega (arith, w.end-is)));
        small = some-fit (all - c.if-end-input.end);
      }
      | else-end-input w ↦
          let none : all - c.if-end-input.end ≡ 0 = omega (arith, w.end-is) in
          record {
            low = omega (arith, w.end-is);
            high = omega (arith, w.end-is);
            within = omega (arith, w.end-is, w.if-end-input.false);
            number = rw none refl;
            small = some-fit (all - c.if-end-input.end);
          }
    ]

pub overflow_mul-number : goal.overflow_mul-number
overflow_mul-number c =
    let small = few-fit c.loop-end.number (c.args.at + c.args.size - c.loop-end.end) c.loop-end.invariant.small (omega (arith, c.loop-end-test.true, c.requires)) in
    omega arith

pub overflow_add-number : goal.overflow_add-number
overflow_add-number c =
    let small = few-fit c.loop-end.number (c.args.at + c.args.size - c.loop-end.end) c.loop-end.invariant.small (omega (arith, c.loop-end-test.true, c.requires)) in
    omega (arith, small, c.from.ensures, c.type_inv.input (c.loop-end.end - 1))

pub loop-end-preserved : goal.loop-end-preserved
loop-end-preserved c =
    let left : ℕ = c.args.at + c.args.size - c.loop-end.end in
    let more : c.args.at + c.args.size - (c.loop-end.end - 1) ≡ suc left = omega (arith, c.loop-end-test.true, c.loop-end.invariant.high) in
    record {
      low = omega (arith, c.loop-end-test.true);
      high = omega (arith, c.loop-end.invariant.high);
      within = omega (arith, c.loop-end.invariant.within);
      number = rw more (one-more c.args.input.now c.loop-end.end left c.loop-end.number c.from.result (omega (arith, c.loop-end-test.true)) c.loop-end.invariant.number c.from.ensures);
      small = rw more (more-fits c.loop-end.number c.from.result left c.loop-end.invariant.small (omega (arith, c.from.ensures, c.type_inv.input (c.loop-end.end - 1))));
    }
