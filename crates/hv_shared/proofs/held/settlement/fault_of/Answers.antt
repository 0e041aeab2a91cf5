use Rattle.std.proofs.Common.{rules, ◌≡◌, ◌∙◌, sym}
use Rattle.hv_shared.proofs.MergedHistory.{made}
use Rattle.hv_shared.proofs.held.settlement.fault_of.Goals as goal

pub returns-clause-none : goal.returns-clause-none
returns-clause-none c =
    let config : c.args.kept.now.config ≡ c.args.config = search rules in
    made _ _ c.args.kept.now _ c.first_fault.result config (sym c.limit.ensures ∙ c.if-limit.false) (rw c.history.ensures.list at c.first_fault.ensures.none)
