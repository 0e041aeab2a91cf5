use Rattle.std.proofs.Common.{◌≡◌, length, take, map}
use Rattle.hv_phases.proofs.barrier.counts_of.Given as goal

abbrev pub invariant-loop-at : goal.invariant-loop-at
invariant-loop-at g l = l.counts.items ≡ map (λ work. length work.pass.receipts) (take l.at l.works)
