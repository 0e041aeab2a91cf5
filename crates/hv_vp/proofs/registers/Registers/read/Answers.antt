use Rattle.std.proofs.Common.{sym, ◌∙◌}
use Rattle.hv_vp.proofs.Tables.{read_known, read_unknown}
use Rattle.hv_vp.proofs.registers.Registers.read.Goals as goal

pub returns-in-Some : goal.returns-in-Some
returns-in-Some c = rw (← c.self.view_is) (read_known c.args.name c.self.inside.values c.in-Some.place c.self.told (sym c.place_of.ensures.place ∙ c.in-Some.is))

pub returns-in-None : goal.returns-in-None
returns-in-None c = rw (← c.self.view_is) (read_unknown c.args.name c.self.inside.values (sym c.place_of.ensures.place ∙ c.in-None.is))
