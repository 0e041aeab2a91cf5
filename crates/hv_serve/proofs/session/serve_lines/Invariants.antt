-- The lines before this one were read and answered.
use Rattle.hv_serve.specs.Turned.{IsServing}
use Rattle.hv_serve.proofs.session.serve_lines.Given as goal

abbrev pub invariant-loop-number : goal.invariant-loop-number
invariant-loop-number g l = IsServing l.form l.names l.number l.bench (g.R.Read.remaining l.initial.reader) (g.R.Read.remaining l.reader) (g.W.Write.contents l.initial.out) (g.W.Write.contents l.out)
