use Rattle.std.proofs.Common.{ap, sym, ◌∙◌}
use Rattle.hv_tree.specs.Index.{parents}
use Rattle.hv_tree.specs.Way.{line}
use Rattle.hv_tree.proofs.ParentChain.{line-zero}
use Rattle.hv_tree.proofs.descent.parent_at.Goals as goal

pub returns-then-steps-eq0 : goal.returns-then-steps-eq0
returns-then-steps-eq0 g c = rw c.if-steps-eq0.true (line-zero (parents c.args.index.now) _ ∙ sym (line-zero (parents c.args.index.now) _))

pub returns : goal.returns
returns g c = ap (line (parents c.args.index.now) c.args.steps) c.above.ensures
