use Rattle.std.proofs.Common.{◌∙◌, sym}
use Rattle.hv_vp.proofs.Tables.{named, unnamed}
use Rattle.hv_vp.proofs.table.name_of_msr.Goals as goal

pub returns-in-Some : goal.returns-in-Some
returns-in-Some c = sym (named c.args.msr c.in-Some.place _ (sym c.msr_place.ensures.place ∙ c.in-Some.is))

pub returns-in-None : goal.returns-in-None
returns-in-None c = sym (unnamed c.args.msr (sym c.msr_place.ensures.place ∙ c.in-None.is))
