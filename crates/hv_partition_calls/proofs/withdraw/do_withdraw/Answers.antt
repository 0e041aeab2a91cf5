use Rattle.hv_partition_calls.proofs.PoolNeeds.{withdraw_needs}
use Rattle.hv_partition_calls.proofs.withdraw.do_withdraw.Goals as goal

pub move_page-requires : goal.move_page-requires
move_page-requires g c =
    rw c.resolve_partition_id-target.ensures (withdraw_needs c.args.tree.now c.args.caller c.args.partition c.args.page c.requires.page)
