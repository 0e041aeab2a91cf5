use Rattle.std.proofs.Common.{◌≡◌, true, rules}
use Rattle.hv_tree.specs.Rows.{is_leaf}
use Rattle.hv_partition_calls.proofs.LentPartition.{can_take_over, still_leaf}
use Rattle.hv_partition_calls.proofs.Needs.{is_ending}
use Rattle.hv_partition_calls.proofs.LifeEffects.{has_deleted}
use Rattle.hv_partition_calls.proofs.delete.do_delete_partition.Goals as goal

pub unreachable-requires : goal.unreachable-requires
unreachable-requires g c =
    let ending = is_ending c.args.tree.now c.args.caller c.args.partition c.resolve_partition_id-target.result c.args.runs c.resolve_partition_id-target.ensures c.requires in
    let leaf : is_leaf c.make_room.new.tree c.resolve_partition_id-target.result ≡ true =
    still_leaf c.args.tree.now c.make_room.new.tree c.args.caller c.resolve_partition_id-target.result c.args.runs ending c.in_ok-make_room.ensures.room in
    search rules

pub hand_over-requires : goal.hand_over-requires
hand_over-requires g c =
    let ending = is_ending c.args.tree.now c.args.caller c.args.partition c.resolve_partition_id-target.result c.args.runs c.resolve_partition_id-target.ensures c.requires in
    rw c.in-Some.ensures.removed (can_take_over c.args.tree.now c.make_room.new.tree c.args.caller c.resolve_partition_id-target.result c.args.runs ending c.in_ok-make_room.ensures.room c.in-Some.gone
    c.in-Some.ensures.content)

pub returns : goal.returns
returns g c f flat =
    rw c.effect_of-effect.ensures (has_deleted c.args.tree.now c.make_room.new.tree c.hand_over.new.tree c.args.caller c.args.partition c.resolve_partition_id-target.result c.args.runs
    c.resolve_partition_id-target.ensures c.requires c.in_ok-make_room.ensures.room c.in-Some.gone c.in-Some.ensures.content (rw (← c.in-Some.ensures.removed) c.hand_over.ensures) f flat)
