use Rattle.std.proofs.Common.{◌≡◌, ◌+◌, ◌-◌, List, length, get_or, set as list_set, take, length-set, arith, ap, ◌∙◌}
use Rattle.arrayvec.specs.ArrayVec.{with_items}
use Rattle.arrayvec.proofs.ArrayVecLemmas.{items-with_items}
use Rattle.hv_pages.specs.declared.runs.Run.{Run}
use Rattle.hv_pages.specs.Blocks.{flat}
use Rattle.hv_pages.specs.Merge.{written}
use Rattle.hv_pages.proofs.Merges.{last_over, list_ends, set_end, written_apart, written_first, written_joined, written_none}
use Rattle.hv_pages.proofs.merge.write_below.Goals as goal
use Rattle.hv_pages.proofs.merge.write_below.Goals.{else-len-gt0-via-then-len-gt0+else-run-deref, else-len-gt0-via-else-len-gt0}

abbrev no_run : Run
no_run = record { first = 0; last = 0 }

pub returns-then-run-deref-clause-pushed : goal.returns-then-run-deref-clause-pushed
returns-then-run-deref-clause-pushed g c =
    let front : List Run = flat (take c.args.w.now.full c.args.blocks.now.items) in
    let runs : List Run = c.args.w.now.last.items in
    let end : c.len-len.result - 1 + 1 ≡ length runs = omega (arith, c.len-len.ensures.value, c.if-len-gt0.true) in
    let upper : Run = get_or runs (c.len-len.result - 1) no_run in
    let same : (get_or c.deref.result.now (c.len-len.result - 1) no_run).first ≡ upper.first = ap
    (λ (l : List Run). (get_or l (c.len-len.result - 1) no_run).first) c.deref.ensures.0 in
    let long = length-set runs (c.len-len.result - 1) (record { first = c.args.run.first; last = upper.last }) in
    written_joined front (take (c.len-len.result - 1) runs) runs upper c.args.run (list_ends runs (c.len-len.result - 1) no_run end) c.requires.runs
    c.requires.run c.requires.under
    (with_items c.args.w.now.last (list_set c.deref_mut.result.now (c.len-len.result - 1)
    (record { first = c.args.run.first; last = (get_or c.deref_mut.result.now (c.len-len.result - 1) no_run).last }))).items
    (ap (λ (l : List Run). (with_items c.args.w.now.last (list_set l (c.len-len.result - 1)
    (record { first = c.args.run.first; last = (get_or l (c.len-len.result - 1) no_run).last }))).items) c.deref_mut.ensures.value
    ∙ items-with_items c.args.w.now.last (list_set runs (c.len-len.result - 1) (record { first = c.args.run.first; last = upper.last })) long
    ∙ set_end runs (c.len-len.result - 1) (record { first = c.args.run.first; last = upper.last }) end)
    (omega (arith, c.if-run-deref.true, same))

pub returns-else-len-gt0-clause-pushed : goal.returns-else-len-gt0-clause-pushed
returns-else-len-gt0-clause-pushed g c =
    elim c.else-len-gt0.branch [
      | else-len-gt0-via-then-len-gt0+else-run-deref w ↦
          let front : List Run = flat (take c.args.w.now.full c.args.blocks.now.items) in
          let runs : List Run = c.args.w.now.last.items in
          let end : c.len-len.result - 1 + 1 ≡ length runs = omega (arith, c.len-len.ensures.value, w.if-len-gt0.true) in
          let upper : Run = get_or runs (c.len-len.result - 1) no_run in
          let split = list_ends runs (c.len-len.result - 1) no_run end in
          let over = last_over front (take (c.len-len.result - 1) runs) runs upper c.args.run split c.requires.runs c.requires.run c.requires.under in
          let same : (get_or w.deref.result.now (c.len-len.result - 1) no_run).first ≡ upper.first = ap
          (λ (l : List Run). (get_or l (c.len-len.result - 1) no_run).first) w.deref.ensures.0 in
          written_apart front (take (c.len-len.result - 1) runs) runs upper c.args.run split c.requires.runs c.requires.run c.requires.under
          (written c.write.new.blocks.items c.write.new.w) c.write.ensures.runs (omega (arith, over, same, w.if-run-deref.false))
      | else-len-gt0-via-else-len-gt0 w ↦
          written_first (written c.args.blocks.now.items c.args.w.now) (written c.write.new.blocks.items c.write.new.w) c.args.run
          (written_none c.args.blocks.now.items c.args.w.now c.requires.written (omega (arith, c.len-len.ensures.value, w.if-len-gt0.false)))
          c.write.ensures.runs c.requires.run
    ]
