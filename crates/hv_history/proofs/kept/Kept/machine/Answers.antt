use Rattle.std.proofs.Common.{rules}
use Rattle.hv_history.specs.Kept.{IsRun}
use Rattle.hv_history.proofs.kept.Kept.machine.Goals as goal

pub returns-clause-justified : goal.returns-clause-justified
returns-clause-justified g c = let run : IsRun c.args.self.now = search rules in run.justified
