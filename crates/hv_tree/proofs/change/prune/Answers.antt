use Rattle.std.proofs.Common.{◌≡◌, ◌∙◌, false, sym, ap, subst, Some}
use Rattle.std.specs.List.Sorted.{IsNonDecreasing, IsNonDecreasingBy}
use Rattle.hv_tree.specs.Rows.{children_in}
use Rattle.hv_tree.specs.Index.{parents}
use Rattle.hv_tree.specs.Lines.{lines}
use Rattle.hv_tree.specs.Nest.{has_row, AreDistinct, IsWithout}
use Rattle.hv_tree.specs.Put.{put_far}
use Rattle.hv_tree.specs.Way.{id_of, children_of, way_to, IsReached, IsShorn, HasParent}
use Rattle.hv_tree.proofs.Steps.{rising-non_decreasing}
use Rattle.hv_tree.proofs.ChangedNode.{lines-shorn, kids-changed, kids-refused, child-named}
use Rattle.hv_tree.proofs.Lists.{rising-remove}
use Rattle.hv_tree.proofs.NestedRows.{nest}
use Rattle.hv_tree.proofs.TreeAsMap.{kid_there}
use Rattle.hv_tree.proofs.IndexedParents.{if_some, if_none}
use Rattle.hv_tree.proofs.InsertedAtWay.{same_far}
use Rattle.hv_tree.proofs.change.prune.Goals as goal

pub unreachable-requires : goal.unreachable-requires
unreachable-requires g c =
    let lacks : has_row c.args.parent (lines c.args.root.now) ≡ false = rw c.in_default.is at c.seek_mut.ensures.none in
    kid_there c.args.id c.args.parent (lines c.args.root.now) c.requires.below ((nest c.args.root.now).closed c.args.parent lacks)

pub take_leaf-requires-clause-there : goal.take_leaf-requires-clause-there
take_leaf-requires-clause-there g c = child-named (parents c.args.index.now) c.args.root.now c.args.parent c.args.id c.in-Some.node.now c.in-Some.ensures.found c.requires.below

pub returns-clause-gone : goal.returns-clause-gone
returns-clause-gone g c =
    let up = parents c.args.index.now in
    let b = c.args.root.now in
    let n = c.in-Some.node.now in
    let r : IsReached up c.args.parent b n = c.in-Some.ensures.found in
    let w = c.take_leaf.new.self in
    let far = put_far (way_to up c.args.parent b) b w in
    if_some {P = λ v. IsShorn c.args.id v n w} {Q = λ v. IsWithout c.args.id (Some v) (lines b) (lines far)} c.take_leaf.result
    (λ v s. lines-shorn (way_to up c.args.parent b) b n r.led c.requires.laid.distinct w c.args.id v s) c.take_leaf.ensures.gone

pub returns-clause-rising : goal.returns-clause-rising
returns-clause-rising g c =
    let up = parents c.args.index.now in
    let b = c.args.root.now in
    let n = c.in-Some.node.now in
    let r : IsReached up c.args.parent b n = c.in-Some.ensures.found in
    let w = c.take_leaf.new.self in
    let far = put_far (way_to up c.args.parent b) b w in
    if_some {P = λ v. IsShorn c.args.id v n w} {Q = λ _. AreDistinct (lines far) → IsNonDecreasing (children_in c.args.parent (lines far))} c.take_leaf.result
    (λ v s. subst (λ p. AreDistinct (lines far) → IsNonDecreasing (children_in p (lines far))) (s.id ∙ r.here)
    (kids-changed (way_to up c.args.parent b) b n r.led c.requires.laid.distinct w (subst (λ l. IsNonDecreasingBy (λ k. id_of k.value) l) (sym s.children)
    (rising-remove (λ k. id_of k.value) (children_of n) s.at s.within (rising-non_decreasing n r.rising)))))
    c.take_leaf.ensures.gone

pub returns-clause-stays : goal.returns-clause-stays
returns-clause-stays g c =
    let up = parents c.args.index.now in
    let b = c.args.root.now in
    let n = c.in-Some.node.now in
    let r : IsReached up c.args.parent b n = c.in-Some.ensures.found in
    let w = c.take_leaf.new.self in
    let far = put_far (way_to up c.args.parent b) b w in
    if_none c.take_leaf.result (λ e. ap (λ x. lines x) (ap (λ m. put_far (way_to up c.args.parent b) b m) e ∙ same_far (way_to up c.args.parent b) b n r.led)) c.take_leaf.ensures.stays

pub returns-clause-refused : goal.returns-clause-refused
returns-clause-refused g c =
    let up = parents c.args.index.now in
    let b = c.args.root.now in
    let n = c.in-Some.node.now in
    let r : IsReached up c.args.parent b n = c.in-Some.ensures.found in
    let w = c.take_leaf.new.self in
    let far = put_far (way_to up c.args.parent b) b w in
    if_none {A = HasParent c.args.id n} c.take_leaf.result (λ h. kids-refused (way_to up c.args.parent b) b n r.led c.requires.laid.distinct c.args.id h) c.take_leaf.ensures.refused
