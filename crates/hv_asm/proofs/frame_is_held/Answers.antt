use Rattle.hv_asm.proofs.Frames.{frame_holds}
use Rattle.hv_asm.proofs.frame_is_held.Goals as goal

pub returns : goal.returns
returns g c = frame_holds
