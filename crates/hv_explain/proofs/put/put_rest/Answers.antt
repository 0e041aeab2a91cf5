use Rattle.std.proofs.Common.{refl}
use Rattle.hv_run.proofs.Parts.{part_cut}
use Rattle.hv_explain.proofs.put.put_rest.Goals as goal

pub returns-in-Err-clause-cut : goal.returns-in-Err-clause-cut
returns-in-Err-clause-cut g c = (refl, part_cut _ _ _ c.in-Err.field-0 c.in-Err.ensures.cut)
