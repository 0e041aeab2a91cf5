use Rattle.std.proofs.Common.{◌≡◌, ◌+◌, ◌-◌, sym, ap, ◌∙◌, arith, unwrap_or}
use Rattle.hv_tree.specs.Index.{parents}
use Rattle.hv_tree.specs.Way.{above}
use Rattle.hv_tree.proofs.ParentChain.{above-zero, above-on}
use Rattle.hv_tree.proofs.index.above.Goals as goal

pub loop-step-init : goal.loop-step-init
loop-step-init g c = let all : c.args.steps ≡ c.args.steps - 0 = omega arith in ap (λ n. above (parents c.args.index.now) n c.args.id) all

pub loop-step-preserved : goal.loop-step-preserved
loop-step-preserved g c =
    let up = parents c.args.index.now in
    let s = c.loop-step._step in
    let at = c.loop-step.at in
    c.loop-step.invariant ∙ above-on up c.args.steps s at c.loop-step-test.true
    ∙ ap (λ p. above up (c.args.steps - (s + 1)) p) (sym (c.unwrap_or-at.ensures ∙ ap (λ o. unwrap_or o at) c.parent_in.ensures))

pub returns : goal.returns
returns g c =
    let up = parents c.args.index.now in
    let none : c.args.steps - c.loop-step._step ≡ 0 = omega (arith, c.loop-step-test.false) in
    sym (c.loop-step.invariant ∙ ap (λ n. above up n c.loop-step.at) none ∙ above-zero up c.loop-step.at)
