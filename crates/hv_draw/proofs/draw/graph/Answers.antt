use Rattle.std.proofs.Common.{length, ◌++◌, ◌∙◌, List, ℕ, ap, subst}
use Rattle.hv_machine.specs.State.{State}
use Rattle.hv_draw.specs.Graph.{HasBlocks, head_text, rows_in}
use Rattle.hv_draw.proofs.Blocks.{all_there}
use Rattle.hv_draw.proofs.Drawing.{graph_of}
use Rattle.hv_draw.proofs.draw.graph.Goals as goal

pub push_blocks-requires : goal.push_blocks-requires
push_blocks-requires c = all_there c.tree-tree.result.now c.deref-2.result.now (c.deref-2.ensures.value ∙ c.in_ok-ids.ensures)

pub returns : goal.returns
returns c =
    let tree = c.tree-tree.result.now in
    let shown = c.tree-tree.ensures ∙ ap (λ (m : State). m.rows) c.machine.ensures.machine in
    let head = c.in_ok-push_head.ensures ∙ ap (λ (l : List ℕ). l ++ head_text c.len.result) c.new-text.ensures.items in
    let events = c.len-3.ensures ∙ ap length c.history.ensures.list in
    let blocks = subst (λ (ids : List ℕ). HasBlocks tree (rows_in tree ids) c.push_head.new.text.items c.push_blocks.new.text.items) c.deref-2.ensures.value c.in_ok-push_blocks.ensures in
    graph_of c.args.kept.now tree c.in_ok-ids.ids.items c.len.result _ _ _ _ _ _ shown c.in_ok-ids.ensures (c.len.ensures ∙ c.in_ok-ids.ids.ok.0) events head blocks c.in_ok-push.ensures
    c.in_ok-push_end.ensures
