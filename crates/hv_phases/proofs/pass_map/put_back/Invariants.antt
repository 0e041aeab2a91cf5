use Rattle.std.proofs.Common.{◌≡◌, ◌++◌, List, length, map}
use Rattle.hv_phases.specs.PassMap.{HasBack, back_of_work}
use Rattle.hv_threads.specs.declared.phase.Work.{Work}
use Rattle.hv_phases.proofs.pass_map.put_back.Given as goal

-- the works that went back come behind those that are left
abbrev pub invariant-loop-work : goal.invariant-loop-work
invariant-loop-work g l = (back : List (Work g.row.L.Denot)) × (l.left.items ++ back ≡ l.fn.works.items) × HasBack (map back_of_work back) l.fn.runners
    l.runners

abbrev pub decreases-loop-work : goal.decreases-loop-work
decreases-loop-work g l = length l.left.items
