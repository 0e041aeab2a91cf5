use Rattle.std.proofs.Common.{◌≡◌, ℕ, ◌+◌, ◌-◌, ◌/◌, suc, Some, None, List, [], ◌∷◌, ◌++◌, refl, sym, ap, ◌∙◌, inr, arith}
use borrow.Follows.Closed.{read_of}
use Rattle.std.specs.Option.{ghost_name_of}
use Rattle.hv_tree.specs.declared.node.Node.{Node}
use Rattle.hv_tree.specs.Index.{parents}
use Rattle.hv_tree.specs.Put.{put_far, put_child, reach, child_of}
use Rattle.hv_tree.specs.Way.{line, places, place_by, children_of}
use Rattle.hv_tree.proofs.ParentChain.{line-zero, line-parts}
use Rattle.hv_tree.proofs.InsertedAtWay.{same_far, same_child, far_two}
use Rattle.hv_tree.proofs.Steps.{rising-child, places_split, split_some, split_lost, split_stuck}
use Rattle.hv_tree.proofs.descent.TwiceToward.toward.Goals as goal

pub returns-then-steps-eq0 : goal.returns-then-steps-eq0
returns-then-steps-eq0 g c =
    let up = parents c.args.index.now in
    let here : line up c.args.steps c.args.id ≡ [] = ap (λ n. line up n c.args.id) c.if-steps-eq0.true ∙ line-zero up c.args.id in
    rw here (refl, record { writes_back = tt; value = ap Some c.node_mut.ensures.value })

pub returns-in_err-node : goal.returns-in_err-node
returns-in_err-node g c =
    let up = parents c.args.index.now in
    let b = c.args.branch.now in
    let first = c.args.steps / 2 in
    let rest = c.args.steps - first - 1 in
    let len : c.args.steps ≡ first + suc rest = omega (arith, c.if-steps-eq0.false) in
    let whole = line-parts up first rest c.args.steps c.args.id c.above-next.result c.parent_at.result len c.above-next.ensures c.parent_at.ensures in
    let lost = split_lost (line up first c.parent_at.result) (line up rest c.args.id) (line up c.args.steps c.args.id) c.above-next.result b whole c.in_err-node.ensures.value in
    rw c.from_residual.ensures (refl, record { writes_back = tt; value = sym lost })

pub step_toward-requires : goal.step_toward-requires
step_toward-requires g c = c.requires.rising (places (line (parents c.args.index.now) (c.args.steps / 2) c.parent_at.result) c.args.branch.now) c.in_ok-node.node.now (sym c.in_ok-node.ensures.value)

pub returns-in_err-child : goal.returns-in_err-child
returns-in_err-child g c =
    let up = parents c.args.index.now in
    let b = c.args.branch.now in
    let first = c.args.steps / 2 in
    let rest = c.args.steps - first - 1 in
    let n = c.in_ok-node.node.now in
    let len : c.args.steps ≡ first + suc rest = omega (arith, c.if-steps-eq0.false) in
    let whole = line-parts up first rest c.args.steps c.args.id c.above-next.result c.parent_at.result len c.above-next.ensures c.parent_at.ensures in
    let before = line up first c.parent_at.result in
    let none : child_of n (place_by c.above-next.result (children_of n)) ≡ None = sym c.in_err-child.ensures.value in
    let stuck = split_stuck before (line up rest c.args.id) (line up c.args.steps c.args.id) c.above-next.result b n whole c.in_ok-node.ensures.value none in
    let same = same_far (places before b) b n (sym c.in_ok-node.ensures.value) in
    rw c.from_residual-in_err-child.ensures (ap inr same, record { writes_back = tt; value = sym stuck })

pub toward-requires-2-clause-rising : goal.toward-requires-2-clause-rising
toward-requires-2-clause-rising g c =
    let n = c.in_ok-node.node.now in
    rising-child c.args.branch.now c.requires.rising (places (line (parents c.args.index.now) (c.args.steps / 2) c.parent_at.result) c.args.branch.now) n (place_by c.above-next.result (children_of n))
    c.in_ok-child.child.now (sym c.in_ok-node.ensures.value) (sym c.in_ok-child.ensures.value)

pub returns : goal.returns
returns g c =
    let up = parents c.args.index.now in
    let b = c.args.branch.now in
    let first = c.args.steps / 2 in
    let rest = c.args.steps - first - 1 in
    let n = c.in_ok-node.node.now in
    let k = c.in_ok-child.child.now in
    let q = c.above-next.result in
    let i = place_by q (children_of n) in
    let len : c.args.steps ≡ first + suc rest = omega (arith, c.if-steps-eq0.false) in
    let xs = line up first c.parent_at.result in
    let ys = line up rest c.args.id in
    let before : List ℕ = places xs b in
    let after : List ℕ = places ys k in
    let above : reach before b ≡ Some n = sym c.in_ok-node.ensures.value in
    let child : child_of n i ≡ Some k = sym c.in_ok-child.ensures.value in
    let parts = line-parts up first rest c.args.steps c.args.id q c.parent_at.result len c.above-next.ensures c.parent_at.ensures in
    let whole : places (line up c.args.steps c.args.id) b ≡ before ++ i ∷ after = ap (λ l. places l b) parts ∙ places_split xs ys q b n k above child in
    let none : put_far before b (put_child n i k) ≡ b = ap (put_far before b) (same_child n i k child) ∙ same_far before b n above in
    let some = λ (w : Node g.row.T.Denot g.row.A.Denot). sym (ap (λ is. put_far is b w) whole ∙ far_two before after i b n k w above child) in
    let there = split_some xs ys (line up c.args.steps c.args.id) q b n k parts (sym above) (sym child) in
    (λ t. read_of (ghost_name_of c.toward-2.result) (λ w. some w t) (none t), record { writes_back = tt; value = c.toward-2.ensures.value ∙ sym there })
