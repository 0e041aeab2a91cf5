use Rattle.std.proofs.Common.{◌≡◌, Some, [], ◌∷◌, ◌++◌, sym, ap, ◌∙◌}
use borrow.Follows.Closed.{read_of}
use Rattle.std.specs.Option.{ghost_name_of}
use Rattle.hv_tree.specs.declared.node.Node.{Node}
use Rattle.hv_tree.specs.Put.{put_far, put_child, reach, child_of}
use Rattle.hv_tree.specs.Way.{places, place_by, children_of}
use Rattle.hv_tree.proofs.InsertedAtWay.{same_far, same_child, far_two}
use Rattle.hv_tree.proofs.Steps.{rising-child, places_split, split_some}
use Rattle.hv_tree.proofs.descent.ThenAlong.along.Goals as goal

pub step_toward-requires : goal.step_toward-requires
step_toward-requires g c = c.requires.rising [] c.node_mut-2.result.now (ap Some (sym c.node_mut-2.ensures.value))

pub along-requires-clause-rising : goal.along-requires-clause-rising
along-requires-clause-rising g c =
    let n = c.node_mut-2.result.now in
    rising-child c.args.branch.now c.requires.rising [] n (place_by c.in-Some.next.now (children_of n)) c.in_ok-child.child.now
    (ap Some (sym c.node_mut-2.ensures.value)) (sym c.in_ok-child.ensures.value)

pub returns : goal.returns
returns g c =
    let b = c.args.branch.now in
    let n = c.node_mut-2.result.now in
    let k = c.in_ok-child.child.now in
    let q = c.in-Some.next.now in
    let i = place_by q (children_of n) in
    let ys = c.in-Some.rest.now in
    let zs = c.args.ids.now in
    let top : reach [] b ≡ Some n = ap Some (sym c.node_mut-2.ensures.value) in
    let child : child_of n i ≡ Some k = sym c.in_ok-child.ensures.value in
    let parts : zs ≡ [] ++ q ∷ ys = c.in-Some.ensures.cases.0 in
    let whole : places zs b ≡ [] ++ i ∷ places ys k = ap (λ l. places l b) parts ∙ places_split [] ys q b n k top child in
    let none : put_far [] b (put_child n i k) ≡ b = ap (put_far [] b) (same_child n i k child) ∙ same_far [] b n top in
    let some = λ (w : Node g.row.T.Denot g.row.A.Denot). sym (ap (λ is. put_far is b w) whole ∙ far_two [] (places ys k) i b n k w top child) in
    let there = split_some [] ys zs q b n k parts (sym top) (sym child) in
    (λ t. read_of (ghost_name_of c.along.result) (λ w. some w t) (none t), record { writes_back = tt; value = c.along.ensures.value ∙ sym there })
