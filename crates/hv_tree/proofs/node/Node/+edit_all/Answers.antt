use Rattle.std.proofs.Common.{true, ◌≡◌, ◌<◌, ◌≤◌, ◌++◌, ◌∷◌, ◌∙◌, None, Some, refl, sym, ap, length, get_or, take, drop, set, map, arith, add-one, append-nil, get_or-set_other}
use Rattle.std.specs.Box.{with_value}
use Rattle.std.specs.Vec.{with_item}
use Rattle.std.proofs.lemmas.List.{length-map}
use Rattle.hv_tree.specs.declared.node.Node.{out-Node, roll-Node, out-roll-Node}
use Rattle.hv_tree.specs.Below.{below}
use Rattle.hv_tree.specs.Edited.{edited_in}
use Rattle.hv_tree.specs.Lines.{lines, node_lines, boxed_lines}
use Rattle.hv_tree.specs.Put.{node_of, put_node}
use Rattle.hv_tree.specs.Way.{children_of}
use Rattle.hv_tree.proofs.Lists.{take_whole}
use Rattle.hv_tree.proofs.Levels.{lines-node, lines-put, node-lines}
use Rattle.hv_tree.proofs.ChangedBranch.{map-set}
use Rattle.hv_tree.proofs.ChangedNode.{at-box, len-set}
use Rattle.hv_tree.proofs.EditedRows.{edited_kids, edited-below, edited_more, drop_whole}
use Rattle.hv_tree.proofs.node.Node.+edit_all.Goals as goal

pub loop-i-init : goal.loop-i-init
loop-i-init g t c = record { unvisited = (refl, λ k d le. refl); kids = refl; own = refl; content = refl }

pub loop-i-preserved : goal.loop-i-preserved
loop-i-preserved g t c =
    let f = g.E.Edit.edited c.args.edit.now in
    let inv = c.loop-i.invariant in
    let s = c.loop-i.self in
    let cs = children_of c.args.self.now in
    let ks = map boxed_lines cs in
    let now = children_of s in
    let i = c.loop-i.i in
    let k = c.index_mut.result.now in
    let lt : i < length cs = omega (arith, c.loop-i-test.true, c.len-i-end.ensures, (out-Node _ _ c.args.self.now).children.ok.0) in
    let is : k ≡ get_or cs i k = c.index_mut.ensures.value ∙ inv.unvisited.1 i k (omega arith) in
    let placed = at-box boxed_lines cs i k lt is in
    let new = put_node k.value c.edit_all.new.self in
    let rows : lines new ≡ edited_in f (λ _. true) (lines k.value) =
    lines-put k.value c.edit_all.new.self ∙ c.edit_all.ensures ∙ ap (λ b. edited_in f (λ _. true) (node_lines (node_of b))) c.deref_mut.ensures.value ∙ ap (edited_in f (λ _. true))
    (sym (lines-node k.value)) in
    let back = out-roll-Node _ _ (record (out-Node _ _ s) { children = with_item (out-Node _ _ s).children i (with_value k new) }) in
    let items = ap (λ r. r.children.items) back in
    record {
      unvisited = (
        ap length items ∙ len-set now i (with_value k new) ∙ inv.unvisited.0,
        λ x d le. ap (λ l. get_or l x d) items ∙ get_or-set_other now i x (with_value k new) d (λ e. omega (arith, e, le)) ∙ inv.unvisited.1 x d (omega (arith, le)),
      );
      kids = ap (map boxed_lines) items ∙ map-set boxed_lines now i (with_value k new) ∙ ap (λ l. set l i (with_value (boxed_lines k) (lines new))) inv.kids
          ∙ ap (λ es. set (edited_kids f (take i ks) ++ drop i ks) i (with_value (boxed_lines k) es)) rows ∙ (rw add-one (edited_more f ks i (boxed_lines k) placed.0 placed.1));
      own = ap (λ r. r.id) back ∙ inv.own;
      content = ap (λ r. r.content) back ∙ inv.content;
    }

pub returns : goal.returns
returns g t c =
    let f = g.E.Edit.edited c.args.edit.now in
    let inv = c.loop-i.invariant in
    let s = c.loop-i.self in
    let n = c.args.self.now in
    let own = (out-Node _ _ n).id in
    let ks = map boxed_lines (children_of n) in
    let i = c.loop-i.i in
    let ge : length ks ≤ i = omega (arith, c.loop-i-test.false, c.len-i-end.ensures, (out-Node _ _ n).children.ok.0, length-map (children_of n) boxed_lines) in
    let all : map boxed_lines (children_of s) ≡ edited_kids f ks = inv.kids ∙ ap (λ l. edited_kids f l ++ drop i ks) (take_whole ks i ge) ∙ ap (λ l. edited_kids f ks ++ l) (drop_whole ks i ge) ∙
    append-nil (edited_kids f ks) in
    let held = c.edit.ensures ∙ ap f inv.content in
    node-lines (roll-Node _ _ (record (out-Node _ _ s) { content = c.edit.new.content }))
    ∙ ap (λ r. (r.id, (None, Some r.content)) ∷ below r.id (map boxed_lines r.children.items)) (out-roll-Node _ _ (record (out-Node _ _ s) { content = c.edit.new.content }))
    ∙ (rw (inv.own, held, all, edited-below f own ks) refl)
    ∙ sym (ap (edited_in f (λ _. true)) (node-lines n))
