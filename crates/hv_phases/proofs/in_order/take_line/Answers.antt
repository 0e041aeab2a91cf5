use Rattle.std.proofs.Common.{◌∙◌, subst, sym}
use Rattle.std.proofs.lemmas.Option.{same_Some}
use Rattle.hv_phases.proofs.LinesRan.{nothing_taken}
use Rattle.hv_phases.proofs.in_order.take_line.Goals as goal
use Rattle.hv_phases.specs.PassMap.{HasTaken, IsAny}
use Rattle.hv_shared.specs.PassValue.{PassValue}

pub returns-then-is_some-clause-any : goal.returns-then-is_some-clause-any
returns-then-is_some-clause-any g c = λ was pass at here.
    let stop = c.args.runner.now.stop in
    subst (λ (q : PassValue). HasTaken IsAny c.args.action stop stop was q) (same_Some was pass (sym at ∙ here)) (nothing_taken IsAny c.args.action stop
    (sym c.is_some.ensures ∙ c.if-is_some.true) was)
