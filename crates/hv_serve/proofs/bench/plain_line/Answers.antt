use Rattle.std.proofs.Common.{◌<◌, ◌≤◌, length, arith}
use Rattle.hv_script.specs.declared.script.TheConstants.{MOST_BYTES}
use Rattle.hv_serve.proofs.Named.{did_whole, too_long}
use Rattle.hv_serve.proofs.bench.plain_line.Goals as goal

pub returns-then-text-gt-MOST_BYTES-clause-taken : goal.returns-then-text-gt-MOST_BYTES-clause-taken
returns-then-text-gt-MOST_BYTES-clause-taken c =
    let long = c.if-text-gt-MOST_BYTES.true in
    λ before stands one. too_long c.args.bench.now before c.args.text.now stands (omega (arith, long))

pub returns-clause-taken : goal.returns-clause-taken
returns-clause-taken c =
    let short = c.if-text-gt-MOST_BYTES.false in
    λ before stands one. did_whole c.do_line.new.bench before c.args.text.now c.do_line.result one (c.do_line.ensures.taken before stands (omega (arith, short)))
