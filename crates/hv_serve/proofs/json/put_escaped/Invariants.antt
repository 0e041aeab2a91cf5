-- The bytes so far went out.
use Rattle.std.proofs.Common.{take}
use Rattle.std.specs.Io.KnownBytes.{Appends}
use Rattle.hv_serve.specs.Json.{all_escaped}
use Rattle.hv_serve.proofs.json.put_escaped.Given as goal

abbrev pub invariant-loop-at : goal.invariant-loop-at
invariant-loop-at g l = Appends (g.W.Write.contents l.initial.out) (g.W.Write.contents l.out) (all_escaped (take l.at l.text))
