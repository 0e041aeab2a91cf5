use Rattle.hv_partition_calls.proofs.MovedPages.{can_gain, can_hold, move_told, moved_tied, went_back}
use Rattle.hv_partition_calls.specs.PoolChange.{HasGained, HasLost, HasPages, kind_of}
use Rattle.std.proofs.Common.{not}
use Rattle.hv_partition_calls.proofs.pages.move_page.Goals as goal

pub give-requires : goal.give-requires
give-requires g c =
    let lost : HasPages c.args.tree.now c.take.new.tree c.args.from (kind_of c.args.pooled) (HasLost c.args.page) = rw c.kind_of-kind.ensures at c.in-Ok.ensures.taken in
    rw c.kind_of-other.ensures (can_hold c.args.tree.now c.take.new.tree c.args.from c.args.to c.args.page c.args.pooled c.requires lost)

pub put-requires : goal.put-requires
put-requires g c =
    let lost : HasPages c.args.tree.now c.take.new.tree c.args.from (kind_of c.args.pooled) (HasLost c.args.page) = rw c.kind_of-kind.ensures at c.in-Ok.ensures.taken in
    rw (c.in-Err-give.ensures.kept, c.kind_of-kind.ensures) (can_gain c.args.tree.now c.take.new.tree c.args.from c.args.to c.args.page c.args.pooled c.requires lost)

pub returns-in-Ok-give-clause-moved : goal.returns-in-Ok-give-clause-moved
returns-in-Ok-give-clause-moved g c =
    let lost : HasPages c.args.tree.now c.take.new.tree c.args.from (kind_of c.args.pooled) (HasLost c.args.page) = rw c.kind_of-kind.ensures at c.in-Ok.ensures.taken in
    let gained : HasPages c.take.new.tree c.give.new.tree c.args.to (kind_of (not c.args.pooled)) (HasGained c.args.page) = rw c.kind_of-other.ensures at c.in-Ok-give.ensures.given in
    moved_tied c.args.tree.now c.take.new.tree c.args.from c.args.to c.args.page c.args.pooled c.requires lost c.give.new.tree gained

pub returns-in-Err-give-clause-kept : goal.returns-in-Err-give-clause-kept
returns-in-Err-give-clause-kept g c =
    let lost : HasPages c.args.tree.now c.take.new.tree c.args.from (kind_of c.args.pooled) (HasLost c.args.page) = rw c.kind_of-kind.ensures at c.in-Ok.ensures.taken in
    let gained : HasPages c.take.new.tree c.put.new.tree c.args.from (kind_of c.args.pooled) (HasGained c.args.page) = rw (c.in-Err-give.ensures.kept, c.kind_of-kind.ensures) at c.put.ensures in
    went_back c.args.tree.now c.take.new.tree c.args.from c.args.to c.args.page c.args.pooled c.requires lost c.put.new.tree gained

pub returns-in-Ok-give-clause-told : goal.returns-in-Ok-give-clause-told
returns-in-Ok-give-clause-told g c f flat = move_told c.args.tree.now c.args.from c.args.to c.args.page c.args.pooled c.requires f flat
