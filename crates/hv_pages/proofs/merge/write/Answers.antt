use Rattle.std.proofs.Common.{◌≡◌, ◌+◌, ◌++◌, ◌∷◌, [], List, length, arith, refl, ap, ◌∙◌}
use Rattle.hv_pages.specs.declared.merge.Written.{Written}
use Rattle.hv_pages.specs.declared.runs.Run.{Run}
use Rattle.hv_pages.specs.Blocks.{Block}
use Rattle.hv_pages.proofs.Merges.{written_flushed, written_more}
use Rattle.hv_pages.proofs.merge.write.Goals as goal
use Rattle.hv_pages.proofs.merge.write.Goals.{then-len-eq-FULL, else-len-eq-FULL}

pub returns-clause-written : goal.returns-clause-written
returns-clause-written g c =
    elim c.if-len-eq-FULL.branch [
      | then-len-eq-FULL w ↦
          let last : c.push.new.self.items ≡ c.args.run ∷ [] =
          c.push.ensures.items
          ∙ ap (λ (x : Written). x.last.items ++ c.args.run ∷ []) w.w-is
          ∙ ap (λ (x : Block). x.items ++ c.args.run ∷ []) w.replace.ensures.after
          ∙ ap (λ (l : List Run). l ++ c.args.run ∷ []) w.new.ensures
          in
          let long : length w.replace.result.items ≡ 256 = ap (λ (x : Block). length x.items) w.replace.ensures.value
          ∙ omega (arith, c.len.ensures.value, w.if-len-eq-FULL.true) in
          rw (w.blocks-is, w.w-is)
          (written_flushed c.args.blocks.now.items c.args.w.now (record { full = c.args.w.now.full + 1; last = c.push.new.self }) w.replace.result c.args.run
          c.requires.written
          (omega (arith, c.requires.place, c.len.ensures.value, w.if-len-eq-FULL.true, c.args.blocks.now.ok.0)) long refl last)
      | else-len-eq-FULL w ↦
          rw (w.blocks-is, w.w-is)
          (written_more c.args.blocks.now.items c.args.w.now (record { full = c.args.w.now.full; last = c.push.new.self }) c.args.run c.requires.written
          (omega (arith, c.requires.written.few, c.len.ensures.value, w.if-len-eq-FULL.false)) refl
          (c.push.ensures.items ∙ ap (λ (x : Written). x.last.items ++ c.args.run ∷ []) w.w-is))
    ]
