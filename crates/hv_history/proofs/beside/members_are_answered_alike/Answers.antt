use Rattle.std.proofs.Common.{rules}
use Rattle.hv_history.proofs.PairedHistories.{answered_alike, left_alike}
use Rattle.hv_history.specs.Kept.{IsRun}
use Rattle.hv_history.proofs.beside.members_are_answered_alike.Goals as goal

pub returns-clause-replies : goal.returns-clause-replies
returns-clause-replies g c members both =
    let is : IsRun c.args.here.now = search rules in
    let is_too : IsRun c.args.there.now = search rules in
    answered_alike members c.args.here.now c.args.there.now is is_too both

pub returns-clause-left : goal.returns-clause-left
returns-clause-left g c members both =
    let is : IsRun c.args.here.now = search rules in
    let is_too : IsRun c.args.there.now = search rules in
    left_alike members c.args.here.now c.args.there.now is is_too both
