use Rattle.std.proofs.Common.{◌≡◌, ◌∙◌, sym, ap, subst, arith, insert}
use Rattle.std.specs.List.Sorted.{IsNonDecreasing, IsNonDecreasingBy}
use Rattle.hv_tree.specs.Rows.{children_in}
use Rattle.hv_tree.specs.declared.node.Node.{out-Node, roll-Node, out-roll-Node}
use Rattle.hv_tree.specs.Index.{parents}
use Rattle.hv_tree.specs.Lines.{lines}
use Rattle.hv_tree.specs.Nest.{AreDistinct, IsGrownBy}
use Rattle.hv_tree.specs.Put.{content_of, put_far}
use Rattle.hv_tree.specs.Way.{id_of, children_of, way_to, IsReached}
use Rattle.hv_tree.proofs.Steps.{rising-non_decreasing}
use Rattle.hv_tree.proofs.ChangedNode.{lines-kept, lines-grown, kids-changed, same-items}
use Rattle.std.proofs.lemmas.List.Sorted.{IsNonDecreasingBy-insert}
use Rattle.hv_tree.proofs.change.graft.Goals as goal

pub returns-then-is_err-clause-err : goal.returns-then-is_err-clause-err
returns-then-is_err-clause-err g c =
    let up = parents c.args.index.now in
    let n = c.in-Some.node.now in
    let r : IsReached up c.args.parent c.args.root.now n = c.in-Some.ensures.found in
    lines-kept (way_to up c.args.parent c.args.root.now) c.args.root.now n r.led c.requires.laid.distinct (roll-Node _ _ (record (out-Node _ _ n) { children = c.reserve.new.self }))
    (same-items n c.reserve.new.self c.reserve.ensures.items)

pub returns-then-is_err-2-clause-err : goal.returns-then-is_err-2-clause-err
returns-then-is_err-2-clause-err g c =
    let up = parents c.args.index.now in
    let n = c.in-Some.node.now in
    let r : IsReached up c.args.parent c.args.root.now n = c.in-Some.ensures.found in
    lines-kept (way_to up c.args.parent c.args.root.now) c.args.root.now n r.led c.requires.laid.distinct (roll-Node _ _ (record (out-Node _ _ n) { children = c.reserve.new.self }))
    (same-items n c.reserve.new.self c.reserve.ensures.items)

pub returns-clause-ok : goal.returns-clause-ok
returns-clause-ok g c =
    let up = parents c.args.index.now in
    let b = c.args.root.now in
    let n = c.in-Some.node.now in
    let r : IsReached up c.args.parent b n = c.in-Some.ensures.found in
    let i = c.first_above-at.result in
    let w1 = roll-Node _ _ (record (out-Node _ _ n) { children = c.reserve.new.self }) in
    let w = roll-Node _ _ (record (out-Node _ _ w1) { children = c.insert.new.self }) in
    let back1 = out-roll-Node _ _ (record (out-Node _ _ n) { children = c.reserve.new.self }) in
    let back = out-roll-Node _ _ (record (out-Node _ _ w1) { children = c.insert.new.self }) in
    let room = ap (λ s. s.children.items) back1 ∙ c.reserve.ensures.items in
    let id : (out-Node _ _ w).id ≡ (out-Node _ _ n).id = ap (λ s. s.id) back ∙ ap (λ s. s.id) back1 in
    let held : content_of w ≡ content_of n = ap (λ s. s.content) back ∙ ap (λ s. s.content) back1 in
    let kids : children_of w ≡ insert (children_of n) i c.args.child = ap (λ s. s.children.items) back ∙ c.in-Ok.ensures.items ∙ ap (λ l. insert l i c.args.child) room in
    subst (λ p. IsGrownBy p (lines c.args.child.value) (lines b) (lines (put_far (way_to up c.args.parent b) b w))) r.here
    (lines-grown (way_to up c.args.parent b) b n r.led c.requires.laid.distinct w i c.args.child id held kids)

pub returns-clause-rising : goal.returns-clause-rising
returns-clause-rising g c =
    let up = parents c.args.index.now in
    let b = c.args.root.now in
    let n = c.in-Some.node.now in
    let r : IsReached up c.args.parent b n = c.in-Some.ensures.found in
    let i = c.first_above-at.result in
    let w1 = roll-Node _ _ (record (out-Node _ _ n) { children = c.reserve.new.self }) in
    let w = roll-Node _ _ (record (out-Node _ _ w1) { children = c.insert.new.self }) in
    let back1 = out-roll-Node _ _ (record (out-Node _ _ n) { children = c.reserve.new.self }) in
    let back = out-roll-Node _ _ (record (out-Node _ _ w1) { children = c.insert.new.self }) in
    let room = ap (λ s. s.children.items) back1 ∙ c.reserve.ensures.items in
    let id : (out-Node _ _ w).id ≡ (out-Node _ _ n).id = ap (λ s. s.id) back ∙ ap (λ s. s.id) back1 in
    let held : content_of w ≡ content_of n = ap (λ s. s.content) back ∙ ap (λ s. s.content) back1 in
    let kids : children_of w ≡ insert (children_of n) i c.args.child = ap (λ s. s.children.items) back ∙ c.in-Ok.ensures.items ∙ ap (λ l. insert l i c.args.child) room in
    let slice : c.deref-2.result.now ≡ children_of n = c.deref-2.ensures.value ∙ room in
    let own = ap (λ x. id_of x) c.deref.ensures in
    let rising : IsNonDecreasingBy (λ k. id_of k.value) (insert (children_of n) i c.args.child) =
    IsNonDecreasingBy-insert (λ k. id_of k.value) (children_of n) i c.args.child (rising-non_decreasing n r.rising) (rw (← slice) c.first_above-at.ensures.bound)
    (λ k d h. rw (← slice, ← own) (c.first_above-at.ensures.place.0 k d (omega arith) h))
    (λ k d h l. rw (← slice, ← own) (omega (arith, c.first_above-at.ensures.place.1 k d h (rw slice l)))) in
    subst (λ p. AreDistinct (lines (put_far (way_to up c.args.parent b) b w)) → IsNonDecreasing (children_in p (lines (put_far (way_to up c.args.parent b) b w)))) (id ∙ r.here)
    (kids-changed (way_to up c.args.parent b) b n r.led c.requires.laid.distinct w (subst (λ l. IsNonDecreasingBy (λ k. id_of k.value) l) (sym kids) rising))
