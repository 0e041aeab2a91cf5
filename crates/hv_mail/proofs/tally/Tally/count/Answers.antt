use Rattle.std.proofs.Common.{arith}
use Rattle.hv_mail.proofs.Trees.{within}
use Rattle.hv_mail.proofs.tally.Tally.count.Goals as goal

pub count-requires : goal.count-requires
count-requires g c = omega (arith, within c.args.self.now.tree c.way_of.result (c.args.port, c.args.born), c.args.self.now.whole, c.args.self.now.few)
