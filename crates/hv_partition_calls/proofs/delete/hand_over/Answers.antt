use Rattle.hv_partition_calls.proofs.LentPartition.{has_taken_over}
use Rattle.hv_partition_calls.proofs.delete.hand_over.Goals as goal

pub returns : goal.returns
returns g c = has_taken_over c.args.tree.now c.args.new_owner c.args.gone c.in-Some.partition.now c.take_over.new.self c.in-Some.ensures.value c.take_over.ensures.pages c.take_over.ensures.rest
