use Rattle.std.proofs.KnownBytes.{Keeps-refl}
use Rattle.hv_run.proofs.Parts.{part_none}
use Rattle.hv_serve.proofs.answer.put_greeting.Goals as goal

pub returns-in-Text-clause-part : goal.returns-in-Text-clause-part
returns-in-Text-clause-part g c = part_none _ _ _ (Keeps-refl _)
