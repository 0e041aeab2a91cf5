use Rattle.std.proofs.Common.{refl, sym, ap, ◌∙◌, arith, option_copied}
use Rattle.hv_tree.specs.Index.{parents}
use Rattle.hv_tree.specs.Lines.{lines}
use Rattle.hv_tree.proofs.TreeInvariant.{laid}
use Rattle.hv_tree.proofs.Relatives.{content-none, content-reached, count-reached, few-reached, named-there, no-loop, not-there, parent-kept, root-there}
use Rattle.hv_tree.proofs.TreeAsMap.{IsShown}
use Rattle.hv_tree.proofs.WayFound.{child-found, child-kept}
use Rattle.hv_tree.proofs.tree.IdTree.get_with.Goals as goal
use Rattle.hv_tree.proofs.tree.IdTree.get_with.Goals.{then-other-id, else-other-id+in-Some+in-Some-child, else-other-id+in-Some-2, else-other-id+in-None, else-other-id+in-None-2}

pub returns-in_err-node-clause-none : goal.returns-in_err-node-clause-none
returns-in_err-node-clause-none g c =
    let s : IsShown (lines c.self.inside.root) c.self.inside.count c.args.self.now = record { sound = c.self.invariant.sound; seen = c.self.view_is } in
    rw c.from_residual.ensures (content-none (parents c.self.inside.index) c.self.inside.root c.self.invariant s c.args.id c.in_err-node.ensures.none)

pub unreachable-requires : goal.unreachable-requires
unreachable-requires g c =
    let up = parents c.self.inside.index in
    child-kept up c.self.inside.root (laid c.self.invariant) c.args.id c.args.other c.in_ok-node.node.now c.in_ok-node.ensures.found
    (sym (rw c.if-parent-id.true at c.in-Some.ensures))
    (sym c.child.ensures ∙ ap option_copied c.in-None-child.is)

pub overflow_cast-relative : goal.overflow_cast-relative
overflow_cast-relative g c =
    let s : IsShown (lines c.self.inside.root) c.self.inside.count c.args.self.now = record { sound = c.self.invariant.sound; seen = c.self.view_is } in
    let up = parents c.self.inside.index in
    let child = c.in-Some-child.child.now in
    let reached = child-found up c.self.inside.root (laid c.self.invariant) c.args.id c.args.other c.in_ok-node.node.now child c.in_ok-node.ensures.found
    (sym (rw c.if-parent-id.true at c.in-Some.ensures))
    (sym c.child.ensures ∙ ap option_copied c.in-Some-child.is) in
    omega (arith, c.len.ensures, few-reached up c.self.inside.root c.self.invariant s c.args.other child reached)

pub overflow_cast-result : goal.overflow_cast-result
overflow_cast-result g c =
    let s : IsShown (lines c.self.inside.root) c.self.inside.count c.args.self.now = record { sound = c.self.invariant.sound; seen = c.self.view_is } in
    omega (arith, c.len-2.ensures, few-reached (parents c.self.inside.index) c.self.inside.root c.self.invariant s c.args.id c.in_ok-node.node.now c.in_ok-node.ensures.found)

pub returns-clause-content : goal.returns-clause-content
returns-clause-content g c =
    let s : IsShown (lines c.self.inside.root) c.self.inside.count c.args.self.now = record { sound = c.self.invariant.sound; seen = c.self.view_is } in
    content-reached (parents c.self.inside.index) c.self.inside.root c.self.invariant s c.args.id c.in_ok-node.node.now c.in_ok-node.ensures.found

pub returns-clause-children : goal.returns-clause-children
returns-clause-children g c =
    let s : IsShown (lines c.self.inside.root) c.self.inside.count c.args.self.now = record { sound = c.self.invariant.sound; seen = c.self.view_is } in
    c.len-2.ensures ∙ count-reached (parents c.self.inside.index) c.self.inside.root c.self.invariant s c.args.id c.in_ok-node.node.now c.in_ok-node.ensures.found

pub returns-clause-other : goal.returns-clause-other
returns-clause-other g c =
    let s : IsShown (lines c.self.inside.root) c.self.inside.count c.args.self.now = record { sound = c.self.invariant.sound; seen = c.self.view_is } in
    let up = parents c.self.inside.index in
    let b = c.self.inside.root in
    let k = c.self.invariant in
    elim c.if-other-id.branch [
      | then-other-id w ↦ rw (w.relative-is, w.if-other-id.true) (refl, no-loop up b k s c.args.id)
      | else-other-id+in-Some+in-Some-child w ↦ (
          let child = w.in-Some-child.child.now in
          let named = sym (rw w.if-parent-id.true at w.in-Some.ensures) in
          let reached = child-found up b (laid k) c.args.id c.args.other c.in_ok-node.node.now child c.in_ok-node.ensures.found named (sym w.child.ensures ∙ ap option_copied w.in-Some-child.is) in
          let count = w.len.ensures ∙ count-reached up b k s c.args.other child reached in
          rw w.relative-is (w.if-other-id.false, sym (parent-kept up b k s c.args.other) ∙ named, content-reached up b k s c.args.other child reached, count))
      | else-other-id+in-Some-2 w ↦ (
          let named = sym w.in-Some.ensures in
          let parent = sym (parent-kept up b k s c.args.other) ∙ named in
          rw w.relative-is (w.if-other-id.false, named-there up b k s c.args.other w.in-Some.parent named, λ e. w.if-parent-id.false (let same = sym parent ∙ e in cc)))
      | else-other-id+in-None w ↦ (
          rw w.relative-is (w.if-other-id.false, root-there up b k s c.args.other w.if-other-self.true, λ e. (let clash = w.in-None.ensures ∙ parent-kept up b k s c.args.other ∙ e in cc)))
      | else-other-id+in-None-2 w ↦ (
          rw w.relative-is (w.if-other-id.false, not-there up b k s c.args.other w.if-other-self.false (sym w.in-None.ensures)))
    ]
