use Rattle.std.proofs.Common.{◌∙◌, rules}
use Rattle.hv_admit.proofs.TargetFound.{found_available}
use Rattle.hv_port_calls.specs.Calls.{connect_with}
use Rattle.hv_port_calls.proofs.port_connection.ask_connect.Goals as goal

pub returns-then-balance_of-need-clause-unmet : goal.returns-then-balance_of-need-clause-unmet
returns-then-balance_of-need-clause-unmet g c f found flat =
    let of = c.args.found in
    let has = c.balance_of.ensures.available
    ∙ found_available c.args.tree.now f flat c.args.by (connect_with c.args.partition c.args.new) of.need of.caller.now of.target.now of.children found in
    search rules

pub returns-clause-unmet : goal.returns-clause-unmet
returns-clause-unmet g c f found flat =
    let of = c.args.found in
    let has = c.balance_of.ensures.available
    ∙ found_available c.args.tree.now f flat c.args.by (connect_with c.args.partition c.args.new) of.need of.caller.now of.target.now of.children found in
    search rules
