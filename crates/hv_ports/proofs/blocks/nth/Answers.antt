use Rattle.std.proofs.Common.{◌≡◌, ◌<◌, List, length, get_or, take, take_all, arith, ap, refl, sym, subst}
use Rattle.std.proofs.lemmas.List.{get_or_default}
use Rattle.std.proofs.lemmas.Option.{slice_get_past, slice_get_read}
use Rattle.hv_ports.specs.Blocks.{Block, flat}
use Rattle.hv_ports.proofs.BlockLists.{inside, row_at}
use Rattle.hv_ports.proofs.blocks.nth.Goals as goal

pub returns-then-at-len : goal.returns-then-at-len
returns-then-at-len g c =
    let bs = c.args.blocks.now in
    let i = c.loop-block.block in
    let at = c.loop-block.at in
    let first : Block g.row.R.Denot g.row.A.Denot = c.index-blocks-block.result in
    let was : Block g.row.R.Denot g.row.A.Denot = c.index-blocks-block-then-at-len.result in
    let within : i < length bs = omega (arith, c.loop-block-test.true) in
    let long : length first.items ≡ length (get_or bs i first).items = ap (λ (x : Block g.row.R.Denot g.row.A.Denot). length x.items) c.index-blocks-block.is in
    let first_lt : at < length (get_or bs i first).items = omega (arith, c.if-at-len.true, c.len-len.ensures, first.ok.0, long) in
    let lt = subst (λ (x : Block g.row.R.Denot g.row.A.Denot). at < length x.items) (get_or_default bs i first was within) first_lt in
    let most = inside bs i was within in
    let slot = row_at bs i at was c.index.result.now c.index.result.now within c.index-blocks-block-then-at-len.is lt c.index.ensures in
    let here = subst (λ k. c.index.result.now ≡ get_or (flat bs) k c.index.result.now) c.loop-block.invariant.1 slot in
    sym (slice_get_read (flat bs) (length (flat bs)) c.args.place c.index.result.now refl (omega (arith, most, lt, c.loop-block.invariant.1)) here)

pub returns : goal.returns
returns g c =
    let bs = c.args.blocks.now in
    let all : length (flat (take c.loop-block.block bs)) ≡ length (flat bs) =
    ap (λ (l : List (Block g.row.R.Denot g.row.A.Denot)). length (flat l)) (take_all c.loop-block.block bs (omega (arith, c.loop-block-test.false))) in
    sym (slice_get_past (flat bs) c.args.place (omega (arith, all, c.loop-block.invariant.1)))
