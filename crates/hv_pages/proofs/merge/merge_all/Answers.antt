use Rattle.std.proofs.Common.{◌≡◌, ◌+◌, ◌≤◌, ◌++◌, [], List, length, drop, arith, refl, ap, sym, subst, ◌∙◌}
use Rattle.std.proofs.lemmas.List.Elements.{All-nil}
use Rattle.hv_pages.specs.declared.blocks.Place.{Place}
use Rattle.hv_pages.specs.declared.runs.Run.{Run}
use Rattle.hv_pages.specs.Blocks.{Block, flat}
use Rattle.hv_pages.specs.Merge.{IsCursor, IsNext, left, places_before}
use Rattle.hv_pages.specs.Runs.{spread}
use Rattle.hv_pages.proofs.BlockLists.{weight_low}
use Rattle.hv_pages.proofs.MergedRuns.{IsMerging, merging_start, next_run}
use Rattle.hv_pages.proofs.Merges.{cursor_bound, weight_high}
use Rattle.hv_pages.proofs.MergeSteps.{cursor_after, cursor_start, fewer_after, merging_after, place_next, room_after}
use Rattle.hv_pages.proofs.merge.merge_all.Goals as goal

-- what is read of slices is read of the blocks
next_same : (own seen more others : List Block) (r s a b : Place) (run : Run) → seen ≡ own → others ≡ more
    → IsNext run (left seen r) (left seen s) (left others a) (left others b)
    → IsNext run (left own r) (left own s) (left more a) (left more b)
next_same own seen more others r s a b run e f next =
    subst (λ (l : List Block). IsNext run (left l r) (left l s) (left more a) (left more b)) e
    (subst (λ (l : List Block). IsNext run (left seen r) (left seen s) (left l a) (left l b)) f next)

pub make_gap-requires : goal.make_gap-requires
make_gap-requires g c =
    let low = weight_low c.args.blocks.now.blocks.items in
    omega (arith, low, c.requires.blocks.fits, c.requires.room, c.requires.many, c.div_ceil-gap.ensures, c.args.blocks.now.blocks.ok.0)

pub loop-run-init : goal.loop-run-init
loop-run-init g c =
    let own : List Block = c.args.blocks.now.blocks.items in
    let more : List Block = c.args.more.now.blocks.items in
    let none_last : length c.new.result.items ≡ 0 = ap (λ (l : List Run). length l) c.new.ensures in
    let runs : flat (drop c.div_ceil-gap.result c.make_gap.new.blocks.items) ≡ flat own = ap flat c.make_gap.ensures.items in
    let count : length (flat (drop c.div_ceil-gap.result c.make_gap.new.blocks.items)) ≡ length (flat own) = ap (λ (l : List Run). length l) runs in
    let len : length c.make_gap.new.blocks.items ≡ length own + c.div_ceil-gap.result = omega (
      arith,
      c.make_gap.ensures.len,
      c.make_gap.new.blocks.ok.0,
      c.args.blocks.now.blocks.ok.0,
    ) in (
      record { within = omega arith; full = All-nil (λ (b : Block). length b.items ≡ 256); few = omega (arith, none_last); begun = λ e. refl },
      cursor_start c.make_gap.new.blocks.items own (record { block = c.div_ceil-gap.result; at = 0 }) c.make_gap.ensures.items len refl c.requires.blocks.each,
      cursor_start more more (record { block = 0; at = 0 }) refl (omega arith) refl c.requires.more.each,
      subst (λ (l : List Run). IsMerging (spread (flat own) ++ spread (flat more)) l (flat (drop c.div_ceil-gap.result c.make_gap.new.blocks.items))
          (flat more)) (sym c.new.ensures)
          (subst (λ (l : List Run). IsMerging (spread (flat own) ++ spread (flat more)) [] l (flat more)) (sym runs)
          (merging_start (flat own) (flat more) c.requires.runs c.requires.more_runs c.requires.disjoint)),
      omega (arith, none_last, c.requires.count, c.div_ceil-gap.ensures),
      omega (arith, none_last, count),
      λ e. omega arith,
      c.make_gap.ensures.capacity,
      refl,
    )

pub write_below-requires-clause-place : goal.write_below-requires-clause-place
write_below-requires-clause-place g c =
    let cursor : IsCursor c.loop-run.blocks.blocks.items c.read_next.new.read = subst (λ (l : List Block). IsCursor l c.read_next.new.read)
    c.deref.ensures.value c.read_next.ensures.own in
    let next : IsNext c.in-Some.run' (left c.loop-run.blocks.blocks.items c.loop-run.read) (left c.loop-run.blocks.blocks.items c.read_next.new.read)
    (left c.args.more.now.blocks.items c.loop-run.at) (left c.args.more.now.blocks.items c.read_next.new.at) =
    next_same c.loop-run.blocks.blocks.items c.deref.result.now c.args.more.now.blocks.items c.deref-in-loop-run.result.now c.loop-run.read
    c.read_next.new.read c.loop-run.at c.read_next.new.at
    c.in-Some.run' c.deref.ensures.value c.deref-in-loop-run.ensures.value c.in-Some.ensures.some in
    let places : places_before c.loop-run.read + length (left c.args.more.now.blocks.items c.read_next.new.at) + 1
    ≤ places_before c.read_next.new.read + length (left c.args.more.now.blocks.items c.loop-run.at) =
    subst (λ (l : List Block). places_before c.loop-run.read + length (left l c.read_next.new.at) + 1 ≤ places_before c.read_next.new.read + length
    (left l c.loop-run.at)) c.deref-in-loop-run.ensures.value
    c.in-Some.ensures.places in
    let now : List Block = c.loop-run.blocks.blocks.items in
    let place = place_next now now c.args.more.now.blocks.items c.loop-run.read c.read_next.new.read c.loop-run.at c.read_next.new.at c.loop-run.w c.loop-run.w
    _ cursor
    next places c.loop-run.invariant.4 in
    omega (arith, place, c.loop-run.blocks.blocks.ok.0)

pub write_below-requires-clause-under : goal.write_below-requires-clause-under
write_below-requires-clause-under g c =
    let next : IsNext c.in-Some.run' (left c.loop-run.blocks.blocks.items c.loop-run.read) (left c.loop-run.blocks.blocks.items c.read_next.new.read)
    (left c.args.more.now.blocks.items c.loop-run.at) (left c.args.more.now.blocks.items c.read_next.new.at) =
    next_same c.loop-run.blocks.blocks.items c.deref.result.now c.args.more.now.blocks.items c.deref-in-loop-run.result.now c.loop-run.read
    c.read_next.new.read c.loop-run.at c.read_next.new.at
    c.in-Some.run' c.deref.ensures.value c.deref-in-loop-run.ensures.value c.in-Some.ensures.some in
    (next_run _ _ _ _ _ _ _ c.loop-run.invariant.3 next).1

pub loop-run-smaller : goal.loop-run-smaller
loop-run-smaller g c =
    let cursor : IsCursor c.loop-run.blocks.blocks.items c.read_next.new.read = subst (λ (l : List Block). IsCursor l c.read_next.new.read)
    c.deref.ensures.value c.read_next.ensures.own in
    let next : IsNext c.in-Some.run' (left c.loop-run.blocks.blocks.items c.loop-run.read) (left c.loop-run.blocks.blocks.items c.read_next.new.read)
    (left c.args.more.now.blocks.items c.loop-run.at) (left c.args.more.now.blocks.items c.read_next.new.at) =
    next_same c.loop-run.blocks.blocks.items c.deref.result.now c.args.more.now.blocks.items c.deref-in-loop-run.result.now c.loop-run.read
    c.read_next.new.read c.loop-run.at c.read_next.new.at
    c.in-Some.run' c.deref.ensures.value c.deref-in-loop-run.ensures.value c.in-Some.ensures.some in
    let places : places_before c.loop-run.read + length (left c.args.more.now.blocks.items c.read_next.new.at) + 1
    ≤ places_before c.read_next.new.read + length (left c.args.more.now.blocks.items c.loop-run.at) =
    subst (λ (l : List Block). places_before c.loop-run.read + length (left l c.read_next.new.at) + 1 ≤ places_before c.read_next.new.read + length
    (left l c.loop-run.at)) c.deref-in-loop-run.ensures.value
    c.in-Some.ensures.places in
    let now : List Block = c.loop-run.blocks.blocks.items in
    let len : length c.write_below.new.blocks.items ≡ length now = omega (
      arith,
      c.write_below.ensures.len,
      c.write_below.new.blocks.ok.0,
      c.loop-run.blocks.blocks.ok.0,
    ) in
    let fewer = fewer_after now c.write_below.new.blocks.items c.args.more.now.blocks.items c.loop-run.read c.read_next.new.read c.loop-run.at
    c.read_next.new.at c.loop-run.w c.write_below.new.w _
    cursor next places c.loop-run.invariant.4 len c.write_below.ensures.rest c.write_below.ensures.some c.write_below.ensures.count in
    omega (arith, fewer)

pub loop-run-preserved : goal.loop-run-preserved
loop-run-preserved g c =
    let cursor : IsCursor c.loop-run.blocks.blocks.items c.read_next.new.read = subst (λ (l : List Block). IsCursor l c.read_next.new.read)
    c.deref.ensures.value c.read_next.ensures.own in
    let next : IsNext c.in-Some.run' (left c.loop-run.blocks.blocks.items c.loop-run.read) (left c.loop-run.blocks.blocks.items c.read_next.new.read)
    (left c.args.more.now.blocks.items c.loop-run.at) (left c.args.more.now.blocks.items c.read_next.new.at) =
    next_same c.loop-run.blocks.blocks.items c.deref.result.now c.args.more.now.blocks.items c.deref-in-loop-run.result.now c.loop-run.read
    c.read_next.new.read c.loop-run.at c.read_next.new.at
    c.in-Some.run' c.deref.ensures.value c.deref-in-loop-run.ensures.value c.in-Some.ensures.some in
    let places : places_before c.loop-run.read + length (left c.args.more.now.blocks.items c.read_next.new.at) + 1
    ≤ places_before c.read_next.new.read + length (left c.args.more.now.blocks.items c.loop-run.at) =
    subst (λ (l : List Block). places_before c.loop-run.read + length (left l c.read_next.new.at) + 1 ≤ places_before c.read_next.new.read + length
    (left l c.loop-run.at)) c.deref-in-loop-run.ensures.value
    c.in-Some.ensures.places in
    let now : List Block = c.loop-run.blocks.blocks.items in
    let new : List Block = c.write_below.new.blocks.items in
    let more : List Block = c.args.more.now.blocks.items in
    let len : length new ≡ length now = omega (arith, c.write_below.ensures.len, c.write_below.new.blocks.ok.0, c.loop-run.blocks.blocks.ok.0) in
    let fewer = fewer_after now new more c.loop-run.read c.read_next.new.read c.loop-run.at c.read_next.new.at c.loop-run.w c.write_below.new.w _
    cursor next places c.loop-run.invariant.4 len c.write_below.ensures.rest c.write_below.ensures.some c.write_below.ensures.count in (
      c.write_below.ensures.written,
      cursor_after now new more c.loop-run.read c.read_next.new.read c.loop-run.at c.read_next.new.at c.loop-run.w c.write_below.new.w _
          cursor next places c.loop-run.invariant.4 len c.write_below.ensures.rest c.write_below.ensures.some c.write_below.ensures.count,
      subst (λ (l : List Block). IsCursor l c.read_next.new.at) c.deref-in-loop-run.ensures.value c.read_next.ensures.more,
      merging_after now new more c.loop-run.read c.read_next.new.read c.loop-run.at c.read_next.new.at c.loop-run.w c.write_below.new.w _
          cursor next places c.loop-run.invariant.4 len c.write_below.ensures.rest c.write_below.ensures.some c.write_below.ensures.count
          (spread (flat c.args.blocks.now.blocks.items) ++ spread (flat more)) c.loop-run.invariant.3 c.write_below.ensures.pushed,
      room_after now new more c.loop-run.read c.read_next.new.read c.loop-run.at c.read_next.new.at c.loop-run.w c.write_below.new.w _
          cursor next places c.loop-run.invariant.4 len c.write_below.ensures.rest c.write_below.ensures.some c.write_below.ensures.count,
      omega (arith, fewer, c.write_below.ensures.count, c.loop-run.invariant.5),
      λ e. absurd (omega (arith, e, c.write_below.ensures.some)),
      c.write_below.ensures.capacity ∙ c.loop-run.invariant.7,
      c.loop-run.invariant.8,
    )

pub finish-requires-clause-place : goal.finish-requires-clause-place
finish-requires-clause-place g c =
    let bound = cursor_bound c.loop-run.blocks.blocks.items c.loop-run.read c.loop-run.invariant.1 in
    omega (arith, bound, c.loop-run.invariant.4, c.loop-run.blocks.blocks.ok.0)

pub returns-clause-blocks : goal.returns-clause-blocks
returns-clause-blocks g c =
    let high = weight_high c.args.blocks.now.blocks.items in
    record {
      each = c.finish.ensures.each;
      fits = omega (
        arith,
        high,
        c.finish.ensures.weight,
        c.finish.ensures.capacity,
        c.loop-run.invariant.5,
        c.loop-run.invariant.7,
        c.loop-run.invariant.8,
        c.requires.blocks.fits,
        c.requires.count,
        c.requires.room,
      );
      dense = c.finish.ensures.dense;
    }
