use Rattle.std.proofs.Common.{◌≡◌, ◌+◌, ◌-◌, ◌≤◌, true, false, inl, inr, length, drop, refl, sym, ap, subst, ◌∙◌, arith, length-set}
use Rattle.std.proofs.lemmas.Bool.{cases_Bool}
use Rattle.hv_tree.specs.Index.{parents}
use Rattle.hv_tree.specs.Lines.{lines}
use Rattle.hv_tree.specs.Nest.{has_row}
use Rattle.hv_tree.specs.Way.{line}
use Rattle.hv_tree.specs.declared.path.TheConstants.{NEAR}
use Rattle.hv_tree.specs.declared.index.TheConstants.{MOST}
use Rattle.hv_tree.proofs.ParentChain.{above-up, above-zero, depth-top, depth-on, kept-more, line-zero}
use Rattle.hv_tree.proofs.RemovedRow.{has-nest}
use Rattle.hv_tree.proofs.Levels.{top-lines}
use Rattle.hv_tree.proofs.NestedRows.{nest}
use Rattle.hv_tree.proofs.WayFound.{root-top, low, lost, has-named, has-parent, falls}
use Rattle.hv_tree.proofs.path.climb.Goals as goal
use Rattle.hv_tree.proofs.path.climb.Goals.{then-step-lt-NEAR, else-step-lt-NEAR}

pub loop-step-init : goal.loop-step-init
loop-step-init g c =
    let up = parents c.args.index.now in
    (omega arith, λ h. h, λ h. (h, omega arith), refl, sym (above-zero up c.args.id), λ few. sym (line-zero up c.args.id))

pub returns-then-at-root-clause-found : goal.returns-then-at-root-clause-found
returns-then-at-root-clause-found g c =
    let b = c.args.root.now in
    c.loop-step.invariant.1 (subst (λ q. has_row q (lines b) ≡ true) (top-lines b ∙ sym c.if-at-root.true) (has-nest (lines b) (nest b)))

pub returns-then-at-root-clause-steps : goal.returns-then-at-root-clause-steps
returns-then-at-root-clause-steps g c =
    let up = parents c.args.index.now in
    let top = depth-top up MOST c.loop-step.step c.loop-step.at c.loop-step-test.true (root-top up c.args.root.now c.requires c.loop-step.at c.if-at-root.true) in
    omega (arith, top, c.loop-step.invariant.0)

pub returns-in_err-parent-clause-none : goal.returns-in_err-parent-clause-none
returns-in_err-parent-clause-none g c =
    let b = c.args.root.now in
    let off : has_row c.loop-step.at (lines b) ≡ false = lost (parents c.args.index.now) b c.requires c.loop-step.at c.if-at-root.false (sym c.in_err-parent.ensures) in
    let lacks : has_row c.args.id (lines b) ≡ false = elim (cases_Bool (has_row c.args.id (lines b))) [
      | inl s ↦ absurd (let on = (c.loop-step.invariant.2 s).0 in cc)
      | inr s ↦ s
    ] in
    rw c.from_residual.ensures lacks

pub loop-step-preserved : goal.loop-step-preserved
loop-step-preserved g c =
    let up = parents c.args.index.now in
    let b = c.args.root.now in
    let at = c.loop-step.at in
    let step = c.loop-step.step in
    let id = c.args.id in
    let ids = c.loop-step.ids in
    let p = c.in_ok-parent.parent in
    let inv = c.loop-step.invariant in
    let is = sym c.in_ok-parent.ensures in
    let on = depth-on up MOST step at c.loop-step-test.true p is in
    let kept : (length c.if-step-lt-NEAR.ids ≡ NEAR) × (step + 1 ≤ NEAR → drop (NEAR - (step + 1)) c.if-step-lt-NEAR.ids ≡ line up (step + 1) id) =
    elim c.if-step-lt-NEAR.branch [
      | then-step-lt-NEAR w ↦ (
        ap length w.ids-is ∙ length-set ids (NEAR - 1 - step) _ ∙ inv.3,
        λ few. ap (drop (NEAR - (step + 1))) w.ids-is ∙ kept-more up step id at ids inv.3 (omega arith) inv.4 (inv.5 (omega arith)),
      )
      | else-step-lt-NEAR w ↦ (ap length w.ids-is ∙ inv.3, λ few. absurd (omega (arith, few, w.if-step-lt-NEAR.false)))
    ]
    in (
      omega (arith, on, inv.0),
      λ h. inv.1 (has-named up b c.requires at p is),
      λ h. (has-parent up b c.requires at p is, omega (arith, (inv.2 h).1, falls up b c.requires at p is)),
      kept.0,
      above-up up step id at p inv.4 is,
      kept.1,
    )

pub returns-clause-none : goal.returns-clause-none
returns-clause-none g c =
    let b = c.args.root.now in
    elim (cases_Bool (has_row c.args.id (lines b))) [
      | inl s ↦ absurd (omega (arith, low (parents c.args.index.now) b c.requires c.args.id s, (c.loop-step.invariant.2 s).1, c.loop-step-test.false))
      | inr s ↦ s
    ]
