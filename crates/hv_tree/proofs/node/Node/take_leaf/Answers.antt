use Rattle.std.proofs.Common.{◌≡◌, ◌<◌, ◌≤◌, [], length, get_or, refl, sym, ap, ◌∙◌, arith}
use Rattle.hv_tree.specs.declared.node.Node.{out-Node, out-roll-Node}
use Rattle.hv_tree.specs.Put.{node_of, content_of}
use Rattle.hv_tree.specs.Way.{id_of, children_of}
use Rattle.hv_tree.specs.Lines.{lines}
use Rattle.hv_tree.proofs.Lists.{get_or_any, no_items, some_items, empty_len}
use Rattle.hv_tree.proofs.Levels.{whole}
use Rattle.hv_tree.proofs.node.Node.take_leaf.Goals as goal

pub returns-then-not-is_empty-clause-refused : goal.returns-then-not-is_empty-clause-refused
returns-then-not-is_empty-clause-refused g c =
    let cs = children_of c.args.self.now in
    let i = c.in-Ok.at in
    let lt : i < length cs = rw (← c.deref.ensures.value) c.in-Ok.ensures.found.0 in
    let k = c.index.result.now in
    let is : k ≡ get_or cs i k = c.index.ensures ∙ get_or_any cs i _ k lt in
    let here : id_of k.value ≡ c.args.id = ap (λ x. id_of x.value) is ∙ (rw (← c.deref.ensures.value) (c.in-Ok.ensures.found.1 k)) in
    let m = node_of c.deref-2.result.now in
    let many : 1 ≤ length (children_of m) = some_items (children_of m) (out-Node _ _ m).children.len (out-Node _ _ m).children.ok.0 (sym c.is_empty.ensures ∙ c.if-not-is_empty.true) in
    record { at = i; child = k; within = lt; is = is; here = here; many = rw (← c.deref-2.ensures) many }

pub returns-clause-gone : goal.returns-clause-gone
returns-clause-gone g c =
    let n = out-Node _ _ c.args.self.now in
    let cs = children_of c.args.self.now in
    let i = c.in-Ok.at in
    let lt : i < length cs = rw (← c.deref.ensures.value) c.in-Ok.ensures.found.0 in
    let k = c.index.result.now in
    let is : k ≡ get_or cs i k = c.index.ensures ∙ get_or_any cs i _ k lt in
    let here : id_of k.value ≡ c.args.id = ap (λ x. id_of x.value) is ∙ (rw (← c.deref.ensures.value) (c.in-Ok.ensures.found.1 k)) in
    let taken : c.remove-child.result ≡ k = c.remove-child.ensures.value ∙ get_or_any cs i _ k lt ∙ sym is in
    let b = c.deref-2.result.now in
    let m = node_of b in
    let bare : children_of m ≡ [] = no_items (children_of m) (omega (arith, (out-Node _ _ m).children.ok.0, empty_len (out-Node _ _ m).children.len (sym c.is_empty.ensures ∙ c.if-not-is_empty.false)))
    in
    let back = out-roll-Node _ _ (record n { children = c.remove-child.new.self }) in
    let content : c.into_content.result ≡ content_of m = c.into_content.ensures ∙ ap (λ x. content_of (node_of x)) (c.into_inner.ensures ∙ ap (λ x. x.value) taken ∙ sym c.deref-2.ensures) in
    let name : (out-Node _ _ m).id ≡ c.args.id = ap (λ x. id_of x) c.deref-2.ensures ∙ here in
    record {
      at = i;
      child = k;
      within = lt;
      is = is;
      leaf = ap (λ x. lines x) (sym c.deref-2.ensures) ∙ whole b ∙ (rw (name, bare, ← content) refl);
      id = ap (λ s. s.id) back;
      content = ap (λ s. s.content) back;
      children = ap (λ s. s.children.items) back ∙ c.remove-child.ensures.items;
    }
