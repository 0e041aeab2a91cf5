use Rattle.std.proofs.Common.{◌≡◌, ◌∷◌, ◌∙◌, ◌++◌, ◌≤◌, sym, ap, take, map, length, append_assoc, arith}
use Rattle.std.proofs.lemmas.List.{length-map}
use Rattle.hv_tree.specs.declared.node.Node.{out-Node}
use Rattle.hv_tree.specs.Below.{below}
use Rattle.hv_tree.specs.Lines.{lines, node_lines, boxed_lines}
use Rattle.hv_tree.specs.Put.{node_of}
use Rattle.hv_tree.proofs.Lists.{take_whole}
use Rattle.hv_tree.proofs.Levels.{lines-node, node-lines}
use Rattle.hv_tree.proofs.ChangedNode.{at-box}
use Rattle.hv_tree.proofs.Ids.{ids_of, ids-shift, ids-more}
use Rattle.hv_tree.proofs.node.Node.+push_ids.Goals as goal

pub loop-child-init : goal.loop-child-init
loop-child-init g t c = c.in_ok-push.ensures.items

pub loop-child-preserved : goal.loop-child-preserved
loop-child-preserved g t c =
    let items = c.deref-child-items.result.now in
    let ks = map boxed_lines items in
    let i = c.loop-child.child-index in
    let k = c.child-item.result in
    let placed = at-box boxed_lines items i k c.loop-child-test.true c.child-item.is in
    let own = (out-Node _ _ c.args.self.now).id in
    let more = ids-more 0 ks i (boxed_lines k) placed.0 placed.1 in
    let added : c.push_ids.new.ids.items ≡ c.loop-child.ids.items ++ ids_of (lines k.value) =
    c.in_ok-push_ids.ensures ∙ ap (λ b. c.loop-child.ids.items ++ ids_of (node_lines (node_of b))) c.deref.ensures ∙ ap (λ es. c.loop-child.ids.items ++ ids_of es) (sym (lines-node k.value)) in
    added ∙ ap (λ l. l ++ ids_of (lines k.value)) c.loop-child.invariant ∙ append_assoc c.args.ids.now.items (own ∷ ids_of (below 0 (take i ks))) (ids_of (lines k.value))
    ∙ ap (λ l. c.args.ids.now.items ++ (own ∷ l)) (sym more)

pub returns : goal.returns
returns g t c =
    let n = c.args.self.now in
    let own = (out-Node _ _ n).id in
    let items = c.deref-child-items.result.now in
    let ks = map boxed_lines items in
    let i = c.loop-child.child-index in
    let ge : length ks ≤ i = omega (arith, c.loop-child-test.false, length-map items boxed_lines) in
    c.loop-child.invariant
    ∙ ap (λ l. c.args.ids.now.items ++ (own ∷ ids_of (below 0 l))) (take_whole ks i ge)
    ∙ ap (λ l. c.args.ids.now.items ++ (own ∷ l)) (ids-shift 0 own ks)
    ∙ ap (λ l. c.args.ids.now.items ++ (own ∷ ids_of (below own (map boxed_lines l)))) c.deref-child-items.ensures.value
    ∙ ap (λ es. c.args.ids.now.items ++ ids_of es) (sym (node-lines n))
