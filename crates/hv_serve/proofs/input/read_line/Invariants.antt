-- The bytes of the line so far came, and were kept.
use Rattle.hv_serve.proofs.ReadLines.{IsReading}
use Rattle.hv_serve.proofs.input.read_line.Given as goal

abbrev pub invariant-loop : goal.invariant-loop
invariant-loop g l = IsReading l.line.items l.lost (g.R.Read.remaining l.initial.reader) (g.R.Read.remaining l.reader)
