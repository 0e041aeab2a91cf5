use Rattle.std.proofs.KnownBytes.{Keeps-refl}
use Rattle.hv_run.proofs.Parts.{part_none}
use Rattle.hv_serve.proofs.SessionSteps.{served_none}
use Rattle.hv_serve.proofs.session.serve.Goals as goal

pub returns-clause-failed : goal.returns-clause-failed
returns-clause-failed g c = λ done. served_none c.args.form c.args.names _ _ _ _ (part_none _ _ _ (Keeps-refl (g.W.Write.contents c.args.out.now)))
