use Rattle.std.proofs.Common.{get_or, arith}
use Rattle.std.proofs.lemmas.List.Elements.{All-get_or}
use Rattle.std.proofs.lemmas.Option.{slice_get-get_or}
use Rattle.std.specs.FinMap.{get}
use Rattle.std.specs.Option.{IsSome}
use Rattle.hv_draw.proofs.Blocks.{all_of_them, none_yet, one_more, row_of}
use Rattle.hv_draw.proofs.graph.push_blocks.Goals as goal

pub push_block-requires : goal.push_block-requires
push_block-requires c = All-get_or (λ id. IsSome (get c.args.tree.now id)) c.args.ids.now c.loop-id.id-index 0 c.loop-id-test.true c.requires

pub loop-id-init : goal.loop-id-init
loop-id-init c = none_yet c.args.tree.now c.args.ids.now c.args.text.now.items

pub loop-id-preserved : goal.loop-id-preserved
loop-id-preserved c =
    let tree = c.args.tree.now in
    let ids = c.args.ids.now in
    let at = c.loop-id.id-index in
    let there = All-get_or (λ id. IsSome (get tree id)) ids at 0 c.loop-id-test.true c.requires in
    let row = row_of tree (get_or ids at 0) there in
    one_more tree ids at (get_or ids at 0) row.0 _ _ _ c.loop-id.invariant (slice_get-get_or ids at 0 c.loop-id-test.true) row.1 (c.in_ok-push_block.ensures row.0 row.1)

pub returns : goal.returns
returns c = all_of_them c.args.tree.now c.args.ids.now c.loop-id.id-index _ _ c.loop-id.invariant (omega arith)
