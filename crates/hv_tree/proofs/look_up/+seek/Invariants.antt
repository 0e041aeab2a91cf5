use Rattle.hv_tree.specs.Lines.{lines}
use Rattle.hv_tree.specs.Nest.{place}
use Rattle.hv_tree.proofs.look_up.+seek.Given as goal

abbrev pub decreases-seek : goal.decreases-seek
decreases-seek g l = place l.id (lines l.root.now)
