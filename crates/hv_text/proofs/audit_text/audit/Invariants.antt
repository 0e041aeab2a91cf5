-- The lines of the events so far went out.
use Rattle.std.proofs.Common.{◌+◌, ◌*◌, ◌≤◌, ◌++◌, codes, decimal, drop, length}
use Rattle.hv_history.specs.History.{entries}
use Rattle.hv_text.specs.Audit.{audit_text, entries_text}
use Rattle.hv_text.specs.Fault.{HasSent}
use Rattle.hv_text.specs.declared.text.TheConstants.{LINE}
use Rattle.hv_text.proofs.audit_text.audit.Given as goal

abbrev pub invariant-loop-at : goal.invariant-loop-at
invariant-loop-at g l = record {
  sent : HasSent (g.W.Write.contents l.initial.out) (g.W.Write.contents l.out) (audit_text l.kept.history)
      (entries_text (l.at + 1) (drop l.at (entries l.history)) ++ codes "events " ++ decimal (length (entries l.history)) ++ codes "\n") l.written;
  few : l.written ≤ LINE * l.at;
}
