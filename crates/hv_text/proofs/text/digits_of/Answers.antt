use Rattle.std.proofs.Common.{arith}
use Rattle.std.proofs.lemmas.Fmt.{length-decimal-le}
use Rattle.itoa.proofs.Decimal.{length_one, length_step_wide}
use Rattle.hv_text.proofs.text.digits_of.Goals as goal

pub overflow_add-count : goal.overflow_add-count
overflow_add-count c = omega (arith, c.loop-rest.invariant, length-decimal-le 20 c.args.number (omega arith) (omega arith) c.ranges.number.fits)

pub loop-rest-preserved : goal.loop-rest-preserved
loop-rest-preserved c = omega (arith, c.loop-rest.invariant, length_step_wide c.loop-rest.rest c.loop-rest-test.true (omega (arith, c.loop-rest.auto.rest-fits.fits)))

pub returns-clause-is : goal.returns-clause-is
returns-clause-is c = omega (arith, c.loop-rest.invariant, length_one c.loop-rest.rest (omega arith))

pub returns-clause-most : goal.returns-clause-most
returns-clause-most c = length-decimal-le 20 c.args.number (omega arith) (omega arith) c.ranges.number.fits
