use Rattle.std.proofs.Common.{◌∙◌, ◌<◌, ◌≤◌, ap, arith, Some}
use Rattle.hv_defs.specs.declared.sizes.TheConstants.{SINTS}
use Rattle.hv_looks.proofs.ProcessorLooks.{no_flags, past_sint, flags_is}
use Rattle.hv_looks.proofs.processors.flags_in.Goals as goal

pub returns-then-from-ge-SINTS : goal.returns-then-from-ge-SINTS
returns-then-from-ge-SINTS g c f flat =
    let past : SINTS ≤ c.args.sint = omega (arith, c.from.ensures, c.if-from-ge-SINTS.true) in
    past_sint c.args.sint _ past

pub returns-in-Some : goal.returns-in-Some
returns-in-Some g c f flat =
    let within : c.args.sint < SINTS = omega (arith, c.from.ensures, c.if-from-ge-SINTS.false) in
    ap Some c.flags.ensures ∙ flags_is c.args.tree.now f flat c.args.of c.in-Some.vp.now c.in-Some.ensures c.args.sint within

pub returns-in-None : goal.returns-in-None
returns-in-None g c f flat = no_flags c.args.tree.now f flat c.args.of c.in-None.ensures c.args.sint
