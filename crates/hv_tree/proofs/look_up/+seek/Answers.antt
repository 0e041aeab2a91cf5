use Rattle.std.proofs.Common.{◌≡◌, true, sym, arith}
use Rattle.hv_tree.specs.Index.{parents}
use Rattle.hv_tree.specs.Lines.{lines}
use Rattle.hv_tree.specs.Nest.{has_row}
use Rattle.hv_tree.proofs.WayFound.{root-reached, lost, has-parent, falls, child-found, child-kept}
use Rattle.hv_tree.proofs.look_up.+seek.Goals as goal

pub returns-then-id-root-clause-found : goal.returns-then-id-root-clause-found
returns-then-id-root-clause-found g t c = root-reached (parents c.args.index.now) c.args.root.now c.requires c.args.id c.if-id-root.true

pub returns-in_err-parent-clause-none : goal.returns-in_err-parent-clause-none
returns-in_err-parent-clause-none g t c = rw c.from_residual.ensures (lost (parents c.args.index.now) c.args.root.now c.requires c.args.id c.if-id-root.false (sym c.in_err-parent.ensures))

pub seek-requires : goal.seek-requires
seek-requires g t c κs within =
    let less = falls (parents c.args.index.now) c.args.root.now c.requires c.args.id c.in_ok-parent.parent (sym c.in_ok-parent.ensures) in
    (omega (arith, c.decreases, less), (within.0, (within.1, c.requires)))

pub returns-in_err-node-clause-none : goal.returns-in_err-node-clause-none
returns-in_err-node-clause-none g t c =
    let has : has_row c.in_ok-parent.parent (lines c.args.root.now) ≡ true = has-parent (parents c.args.index.now) c.args.root.now c.requires c.args.id c.in_ok-parent.parent
    (sym c.in_ok-parent.ensures) in
    absurd (let lacks = c.in_err-node.ensures.none in cc)

pub child-requires : goal.child-requires
child-requires g t c = c.in_ok-node.ensures.found.rising

pub returns-in_err-child-clause-none : goal.returns-in_err-child-clause-none
returns-in_err-child-clause-none g t c =
    absurd (child-kept (parents c.args.index.now) c.args.root.now c.requires c.in_ok-parent.parent c.args.id c.in_ok-node.node.now
    c.in_ok-node.ensures.found (sym c.in_ok-parent.ensures) (sym c.in_err-child.ensures))

pub returns-clause-found : goal.returns-clause-found
returns-clause-found g t c =
    child-found (parents c.args.index.now) c.args.root.now c.requires c.in_ok-parent.parent c.args.id c.in_ok-node.node.now c.in_ok-child.child.now
    c.in_ok-node.ensures.found (sym c.in_ok-parent.ensures) (sym c.in_ok-child.ensures)
