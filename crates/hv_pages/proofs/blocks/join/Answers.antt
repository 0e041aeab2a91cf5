use Rattle.std.proofs.Common.{◌≡◌, suc, ◌+◌, ◌<◌, ◌++◌, ◌∷◌, List, length, get_or, set as list_set, take, drop, arith, ap, ◌∙◌, remove as list_remove}
use Rattle.std.proofs.lemmas.List.{get_or_read}
use Rattle.hv_pages.specs.declared.runs.Run.{Run}
use Rattle.hv_pages.specs.Blocks.{Block}
use Rattle.hv_pages.proofs.BlockLists.{set_remove_next, get_remove_next}
use Rattle.hv_pages.proofs.blocks.join.Goals as goal

abbrev of_items : List Run → Block
of_items l = record { items = l }

pub returns-clause-items : goal.returns-clause-items
returns-clause-items g c =
    λ b.
    let next : c.args.at + 1 ≡ suc c.args.at = omega arith in
    let after : suc (suc c.args.at) ≡ c.args.at + 2 = omega arith in
    let within : suc c.args.at < length c.args.blocks.now.items = omega (arith, c.args.blocks.now.ok.0, c.requires.next) in
    let left : c.remove-lower.new.self.items ≡ list_remove c.args.blocks.now.items (suc c.args.at) = c.remove-lower.ensures.items ∙ ap (λ k. list_remove c.args.blocks.now.items k) next in
    let lower : c.remove-lower.result.items ≡ (get_or c.args.blocks.now.items (c.args.at + 1) b).items =
    ap (λ (x : Block). x.items) (get_or_read c.args.blocks.now.items (c.args.at + 1) c.remove-lower.result (omega (arith, within)) c.remove-lower.ensures.value b)
    in
    let was : c.index_mut.result.now ≡ get_or c.args.blocks.now.items c.args.at c.index_mut.result.now =
    c.index_mut.ensures.value ∙ ap (λ (l : List Block). get_or l c.args.at c.index_mut.result.now) left ∙ get_remove_next c.args.blocks.now.items c.args.at c.index_mut.result.now within
    in
    let upper : c.index_mut.result.now.items ≡ (get_or c.args.blocks.now.items c.args.at b).items =
    ap (λ (x : Block). x.items) (get_or_read c.args.blocks.now.items c.args.at c.index_mut.result.now (omega (arith, within)) was b)
    in
    let all : c.try_extend_from_slice.new.self.items ≡ (get_or c.args.blocks.now.items c.args.at b).items ++ (get_or c.args.blocks.now.items (c.args.at + 1) b).items =
    c.in-Ok.ensures.ok
    ∙ ap (λ (l : List Run). l ++ c.deref.result.now) upper
    ∙ ap (λ (l : List Run). (get_or c.args.blocks.now.items c.args.at b).items ++ l) (c.deref.ensures.0 ∙ lower)
    in
    ap (λ (l : List Block). list_set l c.args.at c.try_extend_from_slice.new.self) left
    ∙ set_remove_next c.args.blocks.now.items c.args.at c.try_extend_from_slice.new.self within
    ∙ ap (λ k. take c.args.at c.args.blocks.now.items ++ c.try_extend_from_slice.new.self ∷ drop k c.args.blocks.now.items) after
    ∙ ap (λ (l : List Run). take c.args.at c.args.blocks.now.items ++ of_items l ∷ drop (c.args.at + 2) c.args.blocks.now.items) all
