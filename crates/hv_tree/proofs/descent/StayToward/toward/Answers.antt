use Rattle.std.proofs.Common.{◌≡◌, Some, [], refl, ap, ◌∙◌, arith}
use Rattle.hv_tree.specs.Index.{parents}
use Rattle.hv_tree.specs.Way.{line}
use Rattle.hv_tree.proofs.ParentChain.{line-zero}
use Rattle.hv_tree.proofs.descent.StayToward.toward.Goals as goal

pub returns : goal.returns
returns g c =
    let up = parents c.args.index.now in
    let none : c.args.steps ≡ 0 = omega (arith, c.requires.few) in
    let here : line up c.args.steps c.args.id ≡ [] = ap (λ n. line up n c.args.id) none ∙ line-zero up c.args.id in
    rw here (refl, record { writes_back = tt; value = ap Some c.node_mut.ensures.value })
