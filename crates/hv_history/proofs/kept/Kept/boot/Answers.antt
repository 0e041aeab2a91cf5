use Rattle.std.proofs.Common.{[], refl, arith}
use Rattle.hv_history.proofs.Runs.{is_run}
use Rattle.hv_history.specs.Kept.{Kept}
use Rattle.hv_history.proofs.kept.Kept.boot.Goals as goal

pub invariant_of-result : goal.invariant_of-result
invariant_of-result g c =
    let m = c.in_ok-machine.ensures in
    let k : Kept g.row.A.Denot = record { config = c.args.config; limit = c.args.limit; history = []; machine = c.in_ok-machine.machine } in
    rw c.new.ensures (is_run k m.state refl (omega arith) m.accepted m.pages m.sound)

pub returns-clause-run : goal.returns-clause-run
returns-clause-run g c = invariant_of-result g c
