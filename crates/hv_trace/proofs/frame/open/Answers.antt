use Rattle.std.proofs.Common.{subst}
use Rattle.std.specs.Io.KnownBytes.{Appends}
use Rattle.hv_run.proofs.Parts.{part_whole}
use Rattle.hv_trace.proofs.frame.open.Goals as goal

pub returns-in-Ok-clause-part : goal.returns-in-Ok-clause-part
returns-in-Ok-clause-part g c = part_whole _ _ _ (subst (Appends _ _) c.as_bytes.ensures.value c.in-Ok.ensures.ok)
