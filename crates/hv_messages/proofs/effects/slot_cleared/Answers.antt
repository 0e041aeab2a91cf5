use Rattle.std.proofs.Common.{sym, ◌∙◌, arith}
use Rattle.hv_messages.proofs.VpEffects.{freed_told}
use Rattle.hv_messages.proofs.effects.slot_cleared.Goals as goal

pub returns : goal.returns
returns c f v is port = rw c.quiet.ensures (freed_told f c.args.part c.args.index v is c.args.sint c.in-Some.port (omega arith) c.requires (sym c.in-Some.is ∙ port))
