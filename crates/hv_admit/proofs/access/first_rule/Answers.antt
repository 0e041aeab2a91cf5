use Rattle.std.proofs.Common.{◌∙◌}
use Rattle.hv_policy.specs.Rules.{caller_asks}
use Rattle.hv_policy.proofs.Unmet.{first_of_back, first_of_front}
use Rattle.hv_admit.proofs.access.first_rule.Goals as goal

pub returns-in-Ok : goal.returns-in-Ok
returns-in-Ok g c f asks flat first = first_of_back (caller_asks f c.args.by) asks (c.in-Ok.ensures.met f flat) ∙ first

pub returns-in-Err : goal.returns-in-Err
returns-in-Err g c f asks flat first = first_of_front (caller_asks f c.args.by) asks c.in-Err.earlier (c.in-Err.ensures.unmet f flat)
