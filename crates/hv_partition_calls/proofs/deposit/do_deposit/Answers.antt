use Rattle.std.proofs.Common.{◌≡◌, rules}
use Rattle.hv_partition_calls.proofs.PoolNeeds.{deposit_needs}
use Rattle.hv_partition_calls.proofs.deposit.do_deposit.Goals as goal

pub move_page-requires : goal.move_page-requires
move_page-requires g c =
    let number : c.in-Ok.number ≡ c.args.page = search rules in
    rw (number, c.resolve_partition_id-target.ensures) (deposit_needs c.args.tree.now c.args.caller c.args.partition c.args.page c.requires).0
