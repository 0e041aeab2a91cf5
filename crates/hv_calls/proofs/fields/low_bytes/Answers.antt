use Rattle.std.proofs.Common.{◌≡◌, arith, refl}
use Rattle.byteorder.proofs.Bytes.{low_mask}
use Rattle.hv_calls.proofs.Numbers.{pow256}
use Rattle.hv_calls.proofs.fields.low_bytes.Goals as goal

pub returns-then-size-eq8 : goal.returns-then-size-eq8
returns-then-size-eq8 c =
    let size : c.args.size ≡ 8 = c.if-size-eq8.true in
    let at : c.args.at ≡ 0 = omega (arith, c.requires, size) in
    rw (at, size) (omega (arith, c.ranges.number.fits))

pub returns : goal.returns
returns c = rw (low_mask c.args.size (omega (arith, c.requires, c.if-size-eq8.false)), pow256 c.args.at, pow256 c.args.size) refl
