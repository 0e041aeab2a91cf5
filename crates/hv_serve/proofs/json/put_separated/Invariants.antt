-- The bytes so far went out.
use Rattle.std.proofs.Common.{map, take}
use Rattle.std.specs.Io.KnownBytes.{Appends}
use Rattle.hv_serve.specs.Json.{separated}
use Rattle.hv_serve.proofs.json.put_separated.Given as goal

abbrev pub invariant-loop-at : goal.invariant-loop-at
invariant-loop-at g l = Appends (g.W.Write.contents l.initial.out) (g.W.Write.contents l.out) (map separated (take l.at l.text))
