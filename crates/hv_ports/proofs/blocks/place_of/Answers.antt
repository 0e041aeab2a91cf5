use Rattle.std.proofs.Common.{◌≡◌, ℕ, ◌<◌, ◌≤◌, ◌∙◌, List, HoldsAt, length, get_or, arith, ap, sym, subst}
use Rattle.std.specs.List.Sorted.{IsPartitionPoint}
use Rattle.hv_ports.specs.Blocks.{Block, IsRising}
use Rattle.hv_ports.proofs.Places.{block_rising, found_in, gap_found}
use Rattle.hv_ports.proofs.blocks.place_of.Goals as goal

pub search-requires : goal.search-requires
search-requires g c =
    let bs = c.args.blocks.now in
    let i = c.saturating_sub-block.result in
    let d : Block g.row.R.Denot g.row.A.Denot = c.index-blocks-block.result in
    let within : i < length bs = omega (arith, c.if-block-blocks.true) in
    let e : c.as_slice.result.now ≡ (get_or bs i d).items = c.as_slice.ensures.value ∙ ap (λ (x : Block g.row.R.Denot g.row.A.Denot). x.items) c.index-blocks-block.is in
    subst (λ (l : List (ℕ × g.row.R.Denot)). IsRising l) (sym e) (block_rising bs c.requires.rising i d within)

pub returns-in-Ok-clause-found : goal.returns-in-Ok-clause-found
returns-in-Ok-clause-found g c =
    let bs = c.args.blocks.now in
    let i = c.saturating_sub-block.result in
    let d : Block g.row.R.Denot g.row.A.Denot = c.index-blocks-block.result in
    let within : i < length bs = omega (arith, c.if-block-blocks.true) in
    let e : c.as_slice.result.now ≡ (get_or bs i d).items = c.as_slice.ensures.value ∙ ap (λ (x : Block g.row.R.Denot g.row.A.Denot). x.items) c.index-blocks-block.is in
    let lt = subst (λ (l : List (ℕ × g.row.R.Denot)). c.in-Ok.at < length l) e c.in-Ok.ensures.within in
    found_in bs c.requires.rising i d within c.args.id c.in-Ok.at lt
    (subst (λ (l : List (ℕ × g.row.R.Denot)). HoldsAt (λ slot. slot.0 ≡ c.args.id) l c.in-Ok.at) e c.in-Ok.ensures.found)

pub returns-in-Err-clause-between : goal.returns-in-Err-clause-between
returns-in-Err-clause-between g c =
    let bs = c.args.blocks.now in
    let i = c.saturating_sub-block.result in
    let d : Block g.row.R.Denot g.row.A.Denot = c.index-blocks-block.result in
    let within : i < length bs = omega (arith, c.if-block-blocks.true) in
    let e : c.as_slice.result.now ≡ (get_or bs i d).items = c.as_slice.ensures.value ∙ ap (λ (x : Block g.row.R.Denot g.row.A.Denot). x.items) c.index-blocks-block.is in
    let le = subst (λ (l : List (ℕ × g.row.R.Denot)). c.in-Err.at ≤ length l) e c.in-Err.ensures.within in
    let gap = subst (λ (l : List (ℕ × g.row.R.Denot)). IsPartitionPoint (λ slot. slot.0 < c.args.id) (λ slot. c.args.id < slot.0) l c.in-Err.at) e c.in-Err.ensures.between in
    gap_found bs c.requires.rising c.requires.each c.args.id c.search_blocks.result i c.in-Err.at d c.saturating_sub-block.ensures within
    c.search_blocks.ensures.from c.search_blocks.ensures.above le gap
