-- The lines of the entries so far went out.
use Rattle.std.proofs.Common.{◌+◌, ◌-◌, drop, take}
use Rattle.std.specs.Io.KnownBytes.{Appends}
use Rattle.hv_history.specs.History.{entries}
use Rattle.hv_text.specs.Audit.{entries_text}
use Rattle.hv_serve.proofs.answer.put_entries.Given as goal

abbrev pub invariant-loop-at : goal.invariant-loop-at
invariant-loop-at g l = Appends (g.W.Write.contents l.initial.out) (g.W.Write.contents l.out) (entries_text (l.before + 1) (take (l.at - l.before) (drop l.before (entries l.history))))
