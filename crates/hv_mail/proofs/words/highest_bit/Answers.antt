use Rattle.std.proofs.Common.{◌+◌, ◌-◌, ◌*◌, ◌≡◌, length, arith, refl}
use Rattle.hv_mail.proofs.WordBits.{clear_past, clear_word, top_is_set, clear_above_top}
use Rattle.hv_mail.proofs.words.highest_bit.Goals as goal

pub loop-place-init : goal.loop-place-init
loop-place-init c = (omega arith, clear_past c.args.words.now (64 * length c.args.words.now) (omega arith))

pub returns-then-word-ne0-clause-some : goal.returns-then-word-ne0-clause-some
returns-then-word-ne0-clause-some c =
    top_is_set c.args.words.now (c.loop-place.place - 1) _ refl (omega (arith, c.if-word-ne0.true)) (c.type_inv.words (c.loop-place.place - 1)).fits

pub returns-then-word-ne0-clause-highest : goal.returns-then-word-ne0-clause-highest
returns-then-word-ne0-clause-highest c k above =
    let last : c.loop-place.place - 1 + 1 ≡ c.loop-place.place = omega arith in
    clear_above_top c.args.words.now (c.loop-place.place - 1) _ refl (omega (arith, c.if-word-ne0.true)) (c.type_inv.words (c.loop-place.place - 1)).fits
    (rw last c.loop-place.invariant.1) k (omega arith)

pub loop-place-preserved : goal.loop-place-preserved
loop-place-preserved c =
    let last : c.loop-place.place - 1 + 1 ≡ c.loop-place.place = omega arith in
    (omega (arith, c.loop-place.invariant.0), clear_word c.args.words.now (c.loop-place.place - 1) c.if-word-ne0.false (rw last c.loop-place.invariant.1))

pub returns-clause-none : goal.returns-clause-none
returns-clause-none c _ k = c.loop-place.invariant.1 k (omega arith)
