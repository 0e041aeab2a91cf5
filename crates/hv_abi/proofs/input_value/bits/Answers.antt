use Rattle.std.proofs.Common.{◌≡◌, ◌+◌, ◌*◌, ◌%◌, ◌^◌, ◌<◌, ◌≤◌, arith}
use Rattle.std.proofs.lemmas.Nat.{and_mask}
use Rattle.std.proofs.Math.Pow.{shl_exact}
use Rattle.hv_abi.proofs.input_value.bits.Goals as goal

pub returns : goal.returns
returns c =
    let fits : 1 + c.args.count ≤ 64 = omega arith in
    let small : 1 < 2 ^ 1 = omega arith in
    let shifted : 1 * 2 ^ c.args.count % 2 ^ 64 ≡ 2 ^ c.args.count = omega (arith, shl_exact {a = 1} 1 c.args.count 64 small fits) in
    rw (shifted, and_mask)
