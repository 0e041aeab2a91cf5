use Rattle.std.proofs.Common.{◌∙◌, rules}
use Rattle.hv_admit.proofs.TargetFound.{found_available}
use Rattle.hv_port_calls.specs.Calls.{create_with}
use Rattle.hv_port_calls.proofs.port_creation.ask_create_port.Goals as goal

pub returns-then-balance_of-need : goal.returns-then-balance_of-need
returns-then-balance_of-need g c f partition found flat =
    let of = c.args.found in
    let has = c.balance_of.ensures.available
    ∙ found_available c.args.tree.now f flat c.args.by (create_with partition c.args.new) of.need of.caller.now of.target.now of.children found in
    search rules

pub returns : goal.returns
returns g c f partition found flat =
    let of = c.args.found in
    let has = c.balance_of.ensures.available
    ∙ found_available c.args.tree.now f flat c.args.by (create_with partition c.args.new) of.need of.caller.now of.target.now of.children found in
    search rules
