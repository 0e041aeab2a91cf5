use Rattle.std.proofs.Common.{◌≡◌, ◌+◌, ◌-◌, ◌<◌, ◌≤◌, length, get_or, arith, ap}
use Rattle.std.proofs.lemmas.List.{get_or_read}
use Rattle.hv_pages.specs.Blocks.{Block}
use Rattle.hv_pages.proofs.BlockLists.{joined_flat}
use Rattle.hv_pages.proofs.Dense.{dense_apart, dense_before, dense_next}
use Rattle.hv_pages.proofs.blocks.Blocks.join_around.Goals as goal
use Rattle.hv_pages.proofs.blocks.Blocks.join_around.Goals.{else-next-len-via-then-next-len+else-len-le-HALF, else-next-len-via-else-next-len, else-block-gt0-via-then-block-gt0+else-len-le-HALF-2}
use Rattle.hv_pages.proofs.blocks.Blocks.join_around.Goals.{else-block-gt0-via-else-block-gt0}

pub returns-then-len-le-HALF-clause-blocks : goal.returns-then-len-le-HALF-clause-blocks
returns-then-len-le-HALF-clause-blocks g c =
    let d : Block = c.index.result.now in
    let within : c.args.block + 1 < length c.args.self.now.blocks.items = omega (arith, c.if-next-len.true, c.len.ensures, c.args.self.now.blocks.ok.0) in
    record {
      each = c.join_next.ensures.blocks.each;
      fits = c.join_next.ensures.blocks.fits;
      dense = rw (c.join_next.ensures.items d) (dense_next c.args.self.now.blocks.items c.args.block d c.requires.blocks.each c.requires.loose within);
    }

pub returns-then-len-le-HALF-clause-runs : goal.returns-then-len-le-HALF-clause-runs
returns-then-len-le-HALF-clause-runs g c =
    let d : Block = c.index.result.now in
    let within : c.args.block + 1 < length c.args.self.now.blocks.items = omega (arith, c.if-next-len.true, c.len.ensures, c.args.self.now.blocks.ok.0) in
    rw (c.join_next.ensures.items d) (joined_flat c.args.self.now.blocks.items c.args.block d within)

pub returns-then-len-le-HALF-2-clause-blocks : goal.returns-then-len-le-HALF-2-clause-blocks
returns-then-len-le-HALF-2-clause-blocks g c =
    let d : Block = c.index.result.now in
    let next : c.args.block - 1 + 1 ≡ c.args.block = omega (arith, c.if-block-gt0.true) in
    let within : c.args.block - 1 + 1 < length c.args.self.now.blocks.items = omega (arith, c.requires.block, c.if-block-gt0.true, c.args.self.now.blocks.ok.0) in
    record {
      each = c.join_next-then-len-le-HALF-2.ensures.blocks.each;
      fits = c.join_next-then-len-le-HALF-2.ensures.blocks.fits;
      dense = rw (c.join_next-then-len-le-HALF-2.ensures.items d) (dense_before c.args.self.now.blocks.items c.args.block d c.requires.blocks.each c.requires.loose (c.args.block - 1) next within);
    }

pub returns-then-len-le-HALF-2-clause-runs : goal.returns-then-len-le-HALF-2-clause-runs
returns-then-len-le-HALF-2-clause-runs g c =
    let d : Block = c.index.result.now in
    let within : c.args.block - 1 + 1 < length c.args.self.now.blocks.items = omega (arith, c.requires.block, c.if-block-gt0.true, c.args.self.now.blocks.ok.0) in
    rw (c.join_next-then-len-le-HALF-2.ensures.items d) (joined_flat c.args.self.now.blocks.items (c.args.block - 1) d within)

pub returns-else-block-gt0-clause-blocks : goal.returns-else-block-gt0-clause-blocks
returns-else-block-gt0-clause-blocks g c =
    let d : Block = c.index.result.now in
    let within : c.args.block < length c.args.self.now.blocks.items = omega (arith, c.requires.block, c.args.self.now.blocks.ok.0) in
    let here : length d.items ≡ length (get_or c.args.self.now.blocks.items c.args.block d).items = ap (λ (x : Block). length x.items) c.index.ensures in
    let next : c.args.block + 1 < length c.args.self.now.blocks.items
    → 128 < length (get_or c.args.self.now.blocks.items c.args.block d).items + length (get_or c.args.self.now.blocks.items (c.args.block + 1) d).items =
    λ lt.
    elim c.else-next-len.branch [
      | else-next-len-via-then-next-len+else-len-le-HALF w ↦
          let lower = ap (λ (x : Block). length x.items) (get_or_read c.args.self.now.blocks.items (c.args.block + 1) w.index-then-next-len.result.now lt w.index-then-next-len.ensures d) in
          omega (arith, here, lower, w.if-len-le-HALF.false, c.len-len.ensures.value, w.len-then-next-len.ensures.value)
      | else-next-len-via-else-next-len w ↦ absurd (omega (arith, lt, w.if-next-len.false, c.len.ensures, c.args.self.now.blocks.ok.0))
    ]
    in
    let before : 1 ≤ c.args.block
    → 128 < length (get_or c.args.self.now.blocks.items (c.args.block - 1) d).items + length (get_or c.args.self.now.blocks.items c.args.block d).items =
    λ some.
    elim c.else-block-gt0.branch [
      | else-block-gt0-via-then-block-gt0+else-len-le-HALF-2 w ↦
          let upper = ap (λ (x : Block). length x.items) (get_or_read c.args.self.now.blocks.items (c.args.block - 1) w.index-then-block-gt0.result.now (omega (arith, within))
          w.index-then-block-gt0.ensures d) in
          omega (arith, here, upper, w.if-len-le-HALF-2.false, c.len-len.ensures.value, w.len-then-block-gt0.ensures.value)
      | else-block-gt0-via-else-block-gt0 w ↦ absurd (omega (arith, some, w.if-block-gt0.false))
    ]
    in
    record {
      each = c.requires.blocks.each;
      fits = c.requires.blocks.fits;
      dense = dense_apart c.args.self.now.blocks.items c.args.block d c.requires.blocks.each c.requires.loose within next before;
    }
