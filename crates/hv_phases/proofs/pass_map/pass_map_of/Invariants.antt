use Rattle.std.proofs.Common.{◌≡◌, ◌≤◌, ◌++◌, List, All, length, vec_capacity}
use Rattle.indexmap.specs.IndexMap.{spare}
use Rattle.hv_phases.specs.PassMap.{AreGoing, Each, HasPass, IsFresh}
use Rattle.hv_shared.specs.PassValue.{PassValue}
use Rattle.hv_phases.proofs.pass_map.pass_map_of.Given as goal

-- the passes that are in the map come behind those that are left
abbrev pub invariant-loop-pass : goal.invariant-loop-pass
invariant-loop-pass g l = record {
  moved : (moved : List PassValue) × (l.passes.items ++ moved ≡ l.fn.passes.items) × All (λ pass. HasPass l.runners pass.caller) moved;
  fresh : Each IsFresh l.runners;
  going : AreGoing l.runners;
  room : length l.passes.items ≤ spare l.runners;
  capacity : vec_capacity l.passes ≡ vec_capacity l.fn.passes;
}

abbrev pub decreases-loop-pass : goal.decreases-loop-pass
decreases-loop-pass g l = length l.passes.items
