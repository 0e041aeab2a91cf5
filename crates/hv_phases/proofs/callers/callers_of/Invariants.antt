use Rattle.std.proofs.Common.{◌≡◌, [], take, All, map, Contains}
use Rattle.hv_phases.specs.PassMap.{key_of}
use Rattle.hv_phases.specs.Lines.{callers_in}
use Rattle.hv_phases.proofs.NamedProcessors.{caller_of}
use Rattle.hv_phases.proofs.callers.callers_of.Given as goal

abbrev pub invariant-loop-at : goal.invariant-loop-at
invariant-loop-at l = record {
  named : All (λ line. Contains l.seen.keys (key_of line.by)) (take l.at l.lines);
  order : map caller_of l.seen.keys ≡ callers_in [] (take l.at l.lines);
}

abbrev pub invariant-loop-place : goal.invariant-loop-place
invariant-loop-place l = l.callers.items ≡ map caller_of (take l.place l.keys.items)
