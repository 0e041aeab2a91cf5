use Rattle.std.proofs.Common.{List, length, Global}
use Rattle.hv_script.specs.declared.line.Line.{Line}
use Rattle.hv_check.specs.From.{HasMoved}
use Rattle.hv_phases.specs.Schedule.{IsBegun, StandsFor}
use Rattle.hv_check.proofs.audit.follow.Given as goal

abbrev pub invariant-loop-kept : goal.invariant-loop-kept
invariant-loop-kept l = record {
  moved : (lines : List (Line Global)) → StandsFor l.fn.schedule lines → HasMoved l.ask.rules l.fn.kept l.kept l.schedule lines l.fn.audit l.text;
  begun : IsBegun l.schedule;
}

abbrev pub decreases-loop-kept : goal.decreases-loop-kept
decreases-loop-kept l = length l.text
