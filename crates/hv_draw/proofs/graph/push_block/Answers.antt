use Rattle.std.proofs.Common.{◌≡◌, ◌∙◌, ap, ◌++◌, length, ℕ, Option, option_and_then, option_map}
use Rattle.std.proofs.lemmas.Option.{same_Some}
use Rattle.std.proofs.lemmas.Result.{on_ok_weaker}
use Rattle.hv_partition.specs.Partition.{PartitionState}
use Rattle.hv_tree.specs.Rows.{Row, children}
use Rattle.hv_draw.specs.Graph.{edge_text, fill_text, name_text, pages_text, rank_text, use_text}
use Rattle.hv_draw.proofs.Blocks.{block_of}
use Rattle.hv_draw.proofs.graph.push_block.Goals as goal

pub returns : goal.returns
returns c = λ row has.
    let tree = c.args.tree.now in
    let id = c.args.id in
    let held : c.in-Some.partition.now ≡ row.1 = same_Some _ _ (c.in-Some.ensures ∙ ap (option_map (λ (r : Row PartitionState). r.1)) has) in
    let parent = c.parent_of.ensures.value ∙ ap (option_and_then (λ (r : Row PartitionState). r.0)) has in
    let count : c.in-Some-children_of.count ≡ length (children tree id) = same_Some _ _ (c.in-Some-children_of.ensures.value ∙ ap (option_map (λ (r : Row PartitionState). length (children tree id)))
    has) in
    on_ok_weaker c.push-2.result (λ end. block_of tree id c.in-Some-depth_of.depth row c.args.inside.now _ _ _ _ _ _ _ _ _ _ _
    c.in-Some-depth_of.ensures.depth
    (c.in_ok-push_edge.ensures ∙ ap (λ (p : Option ℕ). c.args.text.now.items ++ edge_text p id) parent)
    c.in_ok-push_opening.ensures
    (c.in_ok-push_name.ensures ∙ ap (λ (p : PartitionState). c.push_opening.new.text.items ++ name_text id p) held)
    (c.in_ok-push_rank.ensures ∙ ap (λ (p : PartitionState). c.push_name.new.text.items ++ rank_text c.in-Some-depth_of.depth p) held)
    (c.in_ok-push_pages.ensures ∙ ap (λ (p : PartitionState). c.push_rank.new.text.items ++ pages_text p) held)
    (c.in_ok-push_use.ensures ∙ (λ i. c.push_pages.new.text.items ++ use_text (count i) (held i)))
    (c.in_ok-push_fill.ensures ∙ ap (λ (p : PartitionState). c.push_use.new.text.items ++ fill_text p) held)
    c.in_ok-push.ensures
    end) c.push-2.ensures
