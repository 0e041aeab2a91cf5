use Rattle.std.proofs.Common.{◌∙◌, ◌-◌, ◌++◌, ap, length, subst, sym, List, ℕ, All}
use Rattle.hv_machine.specs.State.{State}
use Rattle.std.specs.FinMap.{get}
use Rattle.std.specs.Option.{IsSome}
use Rattle.hv_draw.specs.Chosen.{AreAbove}
use Rattle.hv_draw.specs.Graph.{HasBlocks, head_text, rows_in}
use Rattle.hv_draw.proofs.Choosing.{all_shown, chosen_of}
use Rattle.hv_draw.proofs.only.chosen_graph.Goals as goal

pub push_blocks-requires : goal.push_blocks-requires
push_blocks-requires c =
    let tree = c.tree-tree.result.now in
    let chosen = subst (λ (ids : List ℕ). AreAbove tree c.args.only.part ids c.in_ok-shown.shown.items) c.deref.ensures.value c.in_ok-shown.ensures in
    subst (All (λ id. IsSome (get tree id))) (sym c.deref-6.ensures.value) (all_shown tree c.args.only.part _ _ c.in_ok-ids.ensures chosen)

pub returns : goal.returns
returns c =
    let tree = c.tree-tree.result.now in
    let above = c.in_ok-shown.shown.items in
    let shown = c.tree-tree.ensures ∙ ap (λ (m : State). m.rows) c.machine.ensures.machine in
    let chosen = subst (λ (ids : List ℕ). AreAbove tree c.args.only.part ids above) c.deref.ensures.value c.in_ok-shown.ensures in
    let many = c.len.ensures ∙ c.in_ok-ids.ids.ok.0 in
    let left = c.saturating_sub.ensures ∙ ap (λ (n : ℕ). n - c.len-3.result) (c.len-2.ensures ∙ sym c.len.ensures) ∙ ap (λ (n : ℕ). c.len.result - n) (c.len-3.ensures ∙ c.in_ok-shown.shown.ok.0) in
    let events = c.len-4.ensures ∙ ap length c.history.ensures.list in
    let head = c.in_ok-push_head.ensures ∙ ap (λ (l : List ℕ). l ++ head_text c.len.result) c.new-text.ensures.items in
    let blocks = subst (λ (ids : List ℕ). HasBlocks tree (rows_in tree ids) c.push_head.new.text.items c.push_blocks.new.text.items) c.deref-6.ensures.value c.in_ok-push_blocks.ensures in
    chosen_of c.args.only c.args.kept.now tree c.in_ok-ids.ids.items above c.len.result c.saturating_sub.result _ _ _ _ _ _ _ shown c.in_ok-ids.ensures chosen many left events head blocks
    c.in_ok-push.ensures c.in_ok-push_left.ensures c.in_ok-push_end.ensures
