use Rattle.std.proofs.Common.{subst}
use Rattle.hv_tree.specs.Index.{parents}
use Rattle.hv_tree.specs.Lines.{lines}
use Rattle.hv_tree.specs.Edited.{IsEditedFrom}
use Rattle.hv_tree.specs.Put.{put_far}
use Rattle.hv_tree.specs.Way.{way_to, IsReached}
use Rattle.hv_tree.proofs.ChangedNode.{lines-edited}
use Rattle.hv_tree.proofs.change.edit_below.Goals as goal

pub returns-clause-edited : goal.returns-clause-edited
returns-clause-edited g c =
    let up = parents c.args.index.now in
    let b = c.args.root.now in
    let n = c.in-Some.node.now in
    let r : IsReached up c.args.id b n = c.in-Some.ensures.found in
    let w = c.edit_all.new.self in
    let f = g.E.Edit.edited c.args.edit.now in
    λ _. subst (λ q. IsEditedFrom f q (lines b) (lines (put_far (way_to up c.args.id b) b w))) r.here (lines-edited (way_to up c.args.id b) b n r.led c.requires.distinct f w c.edit_all.ensures)
