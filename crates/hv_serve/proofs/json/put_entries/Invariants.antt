-- The strings of the events so far went out.
use Rattle.std.proofs.Common.{◌+◌, ◌-◌, drop, take}
use Rattle.std.specs.Io.KnownBytes.{Appends}
use Rattle.hv_history.specs.History.{entries}
use Rattle.hv_serve.specs.Json.{events_value}
use Rattle.hv_serve.proofs.json.put_entries.Given as goal

abbrev pub invariant-loop-at : goal.invariant-loop-at
invariant-loop-at g l = Appends (g.W.Write.contents l.initial.out) (g.W.Write.contents l.out) (events_value (l.before + 1) (take (l.at - l.before) (drop l.before (entries l.history))))
