use Rattle.std.proofs.Common.{◌≡◌, ◌<◌, List, length, get_or, set as list_set, arith, ap, subst, sym, ◌∙◌, remove as list_remove}
use Rattle.hv_pages.specs.declared.blocks.Blocks.{Blocks}
use Rattle.std.proofs.lemmas.List.Edits.{length-remove}
use Rattle.hv_pages.specs.declared.runs.Run.{Run}
use Rattle.hv_pages.specs.Blocks.{Block, IsLoose}
use Rattle.hv_pages.proofs.BlockLists.{flat_removed}
use Rattle.hv_pages.proofs.Dense.{loose_set}
use Rattle.hv_pages.proofs.blocks.Blocks.remove_in.Goals as goal
use Rattle.hv_pages.proofs.blocks.Blocks.remove_in.Goals.{then-len-gt-HALF, else-len-gt-HALF}

pub returns-clause-runs : goal.returns-clause-runs
returns-clause-runs g c =
    let kept : c.if-len-gt-HALF.self.blocks.items ≡ c.args.self.now.blocks.items =
    elim c.if-len-gt-HALF.branch [
      | then-len-gt-HALF w ↦ ap (λ (s : Blocks g.row.A.Denot). s.blocks.items) w.self-is
      | else-len-gt-HALF w ↦ ap (λ (s : Blocks g.row.A.Denot). s.blocks.items) w.self-is
    ]
    in
    let was : Block = c.index_mut.result.now in
    let here : was ≡ get_or c.if-len-gt-HALF.self.blocks.items c.args.block was = c.index_mut.ensures.value in
    let long : length was.items ≡ length (get_or c.args.self.now.blocks.items c.args.block was).items =
    ap (λ (x : Block). length x.items) (here ∙ ap (λ (l : List Block). get_or l c.args.block was) kept)
    in
    let lt = c.requires.at was in
    let within : c.args.block < length c.args.self.now.blocks.items = omega (arith, c.requires.block, c.args.self.now.blocks.ok.0) in
    flat_removed c.args.self.now.blocks.items c.if-len-gt-HALF.self.blocks.items c.args.block c.args.at c.remove.new.self was kept here within (omega (arith, long, lt)) c.remove.ensures.items

pub returns-clause-loose : goal.returns-clause-loose
returns-clause-loose g c =
    let kept : c.if-len-gt-HALF.self.blocks.items ≡ c.args.self.now.blocks.items =
    elim c.if-len-gt-HALF.branch [
      | then-len-gt-HALF w ↦ ap (λ (s : Blocks g.row.A.Denot). s.blocks.items) w.self-is
      | else-len-gt-HALF w ↦ ap (λ (s : Blocks g.row.A.Denot). s.blocks.items) w.self-is
    ]
    in
    let was : Block = c.index_mut.result.now in
    let here : was ≡ get_or c.if-len-gt-HALF.self.blocks.items c.args.block was = c.index_mut.ensures.value in
    let long : length was.items ≡ length (get_or c.args.self.now.blocks.items c.args.block was).items =
    ap (λ (x : Block). length x.items) (here ∙ ap (λ (l : List Block). get_or l c.args.block was) kept)
    in
    let lt = c.requires.at was in
    let within : c.args.block < length c.args.self.now.blocks.items = omega (arith, c.requires.block, c.args.self.now.blocks.ok.0) in
    let shorter = length-remove was.items c.args.at (omega (arith, long, lt)) in
    let left : length c.remove.new.self.items ≡ length (list_remove was.items c.args.at) = ap (λ (l : List Run). length l) c.remove.ensures.items in
    subst (λ (l : List Block). IsLoose (list_set l c.args.block c.remove.new.self) c.args.block) (sym kept)
    (loose_set c.args.self.now.blocks.items c.args.block was c.remove.new.self within c.requires.blocks.dense (omega (arith, shorter, left, long)))
