use Rattle.std.proofs.Common.{◌++◌, take, arith, sym, subst, IsPermutation}
use Rattle.hv_pages.specs.declared.runs.Run.{Run}
use Rattle.hv_pages.specs.Blocks.{flat, before}
use Rattle.hv_pages.specs.RunList.{blocks_in}
use Rattle.hv_pages.specs.Runs.{IsRun, spread}
use Rattle.hv_pages.proofs.Edits.{place_within, place_bound}
use Rattle.hv_pages.proofs.MovedRuns.{moved_more, moved_free}
use Rattle.hv_pages.proofs.RunLists.{run_at}
use Rattle.hv_pages.proofs.runs.add_all.Goals as goal

pub add-requires-clause-run : goal.add-requires-clause-run
add-requires-clause-run g c =
    let within = place_within (blocks_in c.args.more.now) c.loop-run.at c.in-Some.ensures.some.0 in
    let is = c.in-Some.ensures.some.1 c.in-Some.run' in
    subst (λ (r : Run). IsRun r) (sym is) (run_at (flat (blocks_in c.args.more.now)) c.requires.more_runs (before (blocks_in c.args.more.now) c.loop-run.at)
    c.in-Some.run' within)

pub add-requires-clause-free : goal.add-requires-clause-free
add-requires-clause-free g c =
    let within = place_within (blocks_in c.args.more.now) c.loop-run.at c.in-Some.ensures.some.0 in
    let is = c.in-Some.ensures.some.1 c.in-Some.run' in
    λ page low high. moved_free (spread (flat (blocks_in c.loop-run.list))) (spread (flat (blocks_in c.args.list.now)))
    (flat (blocks_in c.args.more.now))
    (before (blocks_in c.args.more.now) c.loop-run.at) c.in-Some.run' c.in-Some.run' page c.requires.more_runs within is c.requires.disjoint
    c.loop-run.invariant.3 low high

pub loop-run-preserved : goal.loop-run-preserved
loop-run-preserved g c =
    let within = place_within (blocks_in c.args.more.now) c.loop-run.at c.in-Some.ensures.some.0 in
    let is = c.in-Some.ensures.some.1 c.in-Some.run' in
    let next = c.next-at.ensures.next in
    let moved = moved_more (spread (flat (blocks_in c.add.new.list))) (spread (flat (blocks_in c.loop-run.list)))
    (spread (flat (blocks_in c.args.list.now)))
    (flat (blocks_in c.args.more.now)) (before (blocks_in c.args.more.now) c.loop-run.at) c.in-Some.run' c.in-Some.run' within is c.add.ensures.pages
    c.loop-run.invariant.3 in (
      c.add.ensures.kept,
      c.add.ensures.runs,
      c.next-at.ensures.place,
      subst (λ n. IsPermutation (spread (flat (blocks_in c.add.new.list))) ((spread (flat (blocks_in c.args.list.now))) ++ spread
          (take n (flat (blocks_in c.args.more.now))))) (sym next) moved,
      omega (arith, next, c.add.ensures.room, c.loop-run.invariant.4),
    )

pub returns-clause-room : goal.returns-clause-room
returns-clause-room g c =
    let bound = place_bound (blocks_in c.args.more.now) c.loop-run.at c.loop-run.invariant.2 in
    omega (arith, bound, c.loop-run.invariant.4)
