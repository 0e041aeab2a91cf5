use Rattle.hv_security.proofs.Depths.{depth_kept}
use Rattle.hv_security.proofs.noninterference.a_partition_keeps_its_depth.Goals as goal

pub returns : goal.returns
returns g c = depth_kept
