use Rattle.std.proofs.Common.{◌≡◌, ◌-◌, ◌++◌, ◌∷◌, [], List, length, take, drop, arith, ap, ◌∙◌, append_assoc, length-drop, take_all}
use Rattle.hv_pages.specs.declared.runs.Run.{Run}
use Rattle.hv_pages.specs.Blocks.{Block}
use Rattle.hv_pages.proofs.merge.share.Goals as goal

abbrev of_items : List Run → Block
of_items l = record { items = l }

pub returns-clause-items : goal.returns-clause-items
returns-clause-items g c =
    let long = length-drop 128 c.deref.result.now in
    let half : c.try_extend_from_slice.new.self.items ≡ drop 128 c.args.upper.items =
    c.in-Ok.ensures.ok
    ∙ ap (λ (l : List Run). l ++ take (length c.deref.result.now - 128) (drop 128 c.deref.result.now)) c.new-lower.ensures
    ∙ take_all (length c.deref.result.now - 128) (drop 128 c.deref.result.now) (omega (arith, long))
    ∙ ap (λ (l : List Run). drop 128 l) c.deref.ensures.0
    in
    let low : c.try_extend_from_slice-2.new.self.items ≡ drop 128 c.args.upper.items ++ c.args.last.items =
    c.in-Ok-try_extend_from_slice.ensures.ok
    ∙ ap (λ (l : List Run). l ++ c.deref-2.result.now) half
    ∙ ap (λ (l : List Run). drop 128 c.args.upper.items ++ l) c.deref-2.ensures.0
    in
    c.push_reserved-2.ensures.items
    ∙ ap (λ (l : List Block). l ++ c.try_extend_from_slice-2.new.self ∷ []) c.push_reserved.ensures.items
    ∙ append_assoc c.args.blocks.now.items (c.truncate.new.self ∷ []) (c.try_extend_from_slice-2.new.self ∷ [])
    ∙ ap (λ (l : List Run). c.args.blocks.now.items ++ of_items l ∷ c.try_extend_from_slice-2.new.self ∷ []) c.truncate.ensures.items
    ∙ ap (λ (l : List Run). c.args.blocks.now.items ++ of_items (take 128 c.args.upper.items) ∷ of_items l ∷ []) low
