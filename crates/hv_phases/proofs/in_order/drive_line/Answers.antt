use Rattle.std.proofs.Common.{◌∙◌, None, Some, ap, length}
use Rattle.hv_phases.proofs.LinesRan.{taken_of}
use Rattle.hv_phases.proofs.in_order.drive_line.Goals as goal
use Rattle.hv_shared.specs.Receipts.{list_of}

pub returns-in-Ok-clause-took : goal.returns-in-Ok-clause-took
returns-in-Ok-clause-took g c =
    let did = c.in-Ok.ensures.performed in
    taken_of c.highest_above-now.result c.args.last c.len-before.result (list_of c.receipts-2.result.now) c.args.action None c.args.pass.now
    c.drive-done.new.pass did.more did.gained did.whole
    (c.len-before.ensures ∙ ap length c.receipts.ensures) c.receipts-2.ensures c.highest_above-now.ensures

pub returns-in-Err-clause-took : goal.returns-in-Err-clause-took
returns-in-Err-clause-took g c =
    let did = c.in-Err.ensures.refused in
    taken_of c.highest_above-now.result c.args.last c.len-before.result (list_of c.receipts-2.result.now) c.args.action (Some c.in-Err.why) c.args.pass.now
    c.drive-done.new.pass did.more did.gained
    did.stopped (c.len-before.ensures ∙ ap length c.receipts.ensures) c.receipts-2.ensures c.highest_above-now.ensures
