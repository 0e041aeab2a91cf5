use Rattle.std.proofs.Common.{true, false, sym, ◌∙◌}
use Rattle.hv_partition_calls.proofs.LifeEffects.{has_finalized}
use Rattle.hv_partition_calls.proofs.finalize.do_finalize.Goals as goal

pub returns-then-finalize : goal.returns-then-finalize
returns-then-finalize g c f flat =
    has_finalized c.args.tree.now c.args.caller c.args.partition c.resolve_partition_id-target.result c.resolve_partition_id-target.ensures c.requires f flat true
    (sym c.if-finalize.true ∙ c.finalize.ensures.vps) c.finalize.new.tree c.finalize.ensures.rows

pub returns-else-finalize : goal.returns-else-finalize
returns-else-finalize g c f flat =
    has_finalized c.args.tree.now c.args.caller c.args.partition c.resolve_partition_id-target.result c.resolve_partition_id-target.ensures c.requires f flat false
    (sym c.if-finalize.false ∙ c.finalize.ensures.vps) c.finalize.new.tree c.finalize.ensures.rows
